-- Literals that show that a clause refutes no end.
use Rattle.std.proofs.Common.{◌≡◌, ◌≢◌, ℕ, zero, suc, ◌<◌, Bool, true, false, not, ◌&&◌, ◌||◌, cond, List, [], ◌∷◌, length, map, refl, sym, ap, ◌∙◌, subst, ◌⊎◌, inl, inr, arith, ℤ, set, get_or}
use Rattle.std.specs.Prelude.{slice_get, Some, pos, ◌==◌, nat_lt, flat_map}
use Rattle.std.specs.List.{list_all}
use Rattle.std.specs.Ordering.{int_eq}
use Rattle.std.proofs.lemmas.Bool.Decides.{nat_tests}
use Rattle.std.proofs.lemmas.Int.{ints}
use Rattle.std.proofs.lemmas.List.{get_or-set_other, length-set}
use Rattle.std.proofs.lemmas.Option.{same_Some}
use Rattle.std.proofs.lemmas.Bool.{not_from_false, false_from_ne_true, and_left, and_right, and_from}
use Rattle.qc_model.specs.declared.problem.Arg.{Arg}
use Rattle.qc_model.specs.declared.problem.Arg.TheVariants.{Var, Num}
use Rattle.qc_model.specs.declared.problem.Argument.{Argument}
use Rattle.qc_model.specs.declared.problem.Argument.TheVariants.{One, Many, Numbers, Members}
use Rattle.qc_model.specs.declared.problem.Pred.TheVariants.{BoolClause}
use Rattle.qc_model.specs.declared.problem.Variable.{Variable}
use Rattle.qc_model.specs.Arguments.{fill, arg_variables, variables_of}
use Rattle.qc_model.specs.Closed.{refutes_at, keeps_ends}
use Rattle.qc_model.specs.Content.{Game, Rule}
use Rattle.qc_model.specs.Domains.{Values, Box, values_left, box_at, is_single, least_value, greatest_value, declared_box, is_sub_box}
use Rattle.qc_model.specs.Holds.{same_truth}
use Rattle.qc_model.specs.Left.{is_only, lefts_at}
use Rattle.qc_model.specs.Meaning.{meaning_of}
use Rattle.qc_model.specs.Refuted.{left_to, refuted_as, refuted_by}
use Rattle.qc_model.specs.Valid.{IsValid, arg_sees, argument_sees}
use Rattle.qc_model.proofs.Readable.{first, second}
use Rattle.model_arguments.specs.Repeats.{has_place}
use Rattle.model_arguments.specs.Written.{args_at}
use Rattle.model_arguments.proofs.Bools.{clash}
use Rattle.model_arguments.proofs.Boxes.{seen_place}
use Rattle.model_arguments.proofs.Written.{lefts_written}
use Rattle.prop_base.specs.Pruning.{is_just}
use Rattle.prop_engine.specs.declared.hints.Hint.{Hint}
use Rattle.prop_engine.specs.declared.literals.Literal.{Literal}
use Rattle.prop_engine.specs.declared.watching.HeldBy.TheVariants.{One as by_one, Zero as by_zero}
use Rattle.prop_engine.specs.declared.watching.Watch.{Watch}
use Rattle.prop_engine.specs.Closing.{EachRule}
use Rattle.prop_engine.specs.Watching.{has_number, IsHeld, IsNow, IsRight, IsHintOf, IsHintsOf}
use Rattle.prop_engine.specs.Literals.{failing, surely_fails, is_fixed, same_literal, IsLiteralOf, all_fail, IsLeft, StaysOpen}
use Rattle.prop_engine.proofs.Rules.{of_all}
use Rattle.prop_engine.proofs.Watched.{all_weaker, rule_sees}

-- the one of two that passes
other_fails : (a b : Bool) → a ≡ true → (a && b) ≡ false → b ≡ false
other_fails true b h k = k
other_fails false b h k = cc

-- a variable that has one value is given this one, or another is given one
still_holds : (box : Box) (x y : ℕ) (n v : ℤ) → is_single (values_left box x) ≡ true → is_only n (values_left box x) ≡ false → IsLeft box y v → is_only n (values_left (box_at box y v) x) ≡ false
still_holds [] x y n v s f h = cc
still_holds (d ∷ box) zero zero n v s f h = ap (λ z. int_eq z n) (sym (h s)) ∙ other_fails (is_single d) (int_eq (least_value d) n) s f
still_holds (d ∷ box) zero (suc y) n v s f h = f
still_holds (d ∷ box) (suc x) zero n v s f h = f
still_holds (d ∷ box) (suc x) (suc y) n v s f h = still_holds box x y n v s f h

-- no value is 0 and 1
not_one : (v : ℤ) → int_eq v (pos 0) ≡ true → int_eq v (pos 1) ≡ false
not_one v h = grind (arith, nat_tests, ints)

two_numbers : (d : Values) → (is_only (pos 0) d && is_only (pos 1) d) ≡ false
two_numbers [] = refl
two_numbers (v ∷ []) = by (int_eq v (pos 0)) (not_one v)
  where
    by : (b : Bool) → (b ≡ true → int_eq v (pos 1) ≡ false) → (b && int_eq v (pos 1)) ≡ false
    by true f = f refl
    by false f = refl
two_numbers (v ∷ w ∷ d) = refl

flipped : (a b : Bool) → (a && b) ≡ false → (b && a) ≡ false
flipped true b h = and_left b true h
flipped false b h = and_right b false refl

opposed : (p q : Bool) (d : Values) → same_truth p q ≡ false → (is_only (failing p) d && is_only (failing q) d) ≡ false
opposed true true d h = cc
opposed true false d h = two_numbers d
opposed false true d h = flipped (is_only (pos 0) d) (is_only (pos 1) d) (two_numbers d)
opposed false false d h = cc

equal_numbers : (j k : ℕ) → (j == k) ≡ true → j ≡ k
equal_numbers j k h = grind (arith, nat_tests)

apart : (j k : ℕ) → (j == k) ≡ false → j ≢ k
apart j k h e = grind (arith, nat_tests)

-- what isn't given a value keeps both
unfixed_kept : (box : Box) (x y : ℕ) (n v : ℤ) → x ≢ y → is_single (values_left box x) ≡ false → is_only n (values_left (box_at box y v) x) ≡ false
unfixed_kept box x y n v e s =
    ap (is_only n) (get_or-set_other box y x (v ∷ []) [] e) ∙ and_left (is_single (values_left box x)) (int_eq (least_value (values_left box x)) n) s

-- one value given makes only one of two literals fail
one_fails : (box : Box) (x z y : ℕ) (p q : Bool) (v : ℤ) → is_single (values_left box x) ≡ false → is_single (values_left box z) ≡ false → ((z == x) && same_truth p q) ≡ false →
    (is_only (failing p) (values_left (box_at box y v) x) && is_only (failing q) (values_left (box_at box y v) z)) ≡ false
one_fails box x z y p q v s t h = by (z == x) refl
  where
    left : Box → ℕ → ℤ → Bool
    left b k n = is_only n (values_left b k)

    beside : (b : Bool) → (y == x) ≡ b → z ≢ x → (left (box_at box y v) x (failing p) && left (box_at box y v) z (failing q)) ≡ false
    beside true e n =
        and_right (left (box_at box y v) x (failing p)) (left (box_at box y v) z (failing q)) (unfixed_kept box z y (failing q) v (λ m. n (m ∙ equal_numbers y x e)) t)
    beside false e n =
        and_left (left (box_at box y v) x (failing p)) (left (box_at box y v) z (failing q)) (unfixed_kept box x y (failing p) v (λ m. apart y x e (sym m)) s)

    by : (b : Bool) → (z == x) ≡ b → (left (box_at box y v) x (failing p) && left (box_at box y v) z (failing q)) ≡ false
    by true e =
        subst (λ k. (left (box_at box y v) x (failing p) && left (box_at box y v) k (failing q)) ≡ false) (sym (equal_numbers z x e))
        (opposed p q (values_left (box_at box y v) x) (other_fails (z == x) (same_truth p q) e h))
    by false e = beside (y == x) refl (apart z x e)

-- where all literals fail, each does
each_fails : (box : Box) (plain negated : List Arg) (l : Literal) → IsLiteralOf plain negated l → all_fail box plain negated ≡ true → surely_fails box l ≡ true
each_fails box plain negated l i h = by l.positive i.there
  where
    zeros : Arg → Bool
    zeros a = is_only (pos 0) (left_to box a)

    ones : Arg → Bool
    ones a = is_only (pos 1) (left_to box a)

    by : (p : Bool) → slice_get (cond p plain negated) i.place ≡ Some (Var l.x) → is_only (failing p) (values_left box l.x.0) ≡ true
    by true e = of_all zeros plain i.place (Var l.x) (first (list_all zeros plain) (list_all ones negated) h) e
    by false e = of_all ones negated i.place (Var l.x) (second (list_all zeros plain) (list_all ones negated) h) e

-- one literal holds
pub one_shows : (box : Box) (plain negated : List Arg) (l : Literal) → IsLiteralOf plain negated l → is_fixed box l ≡ true → surely_fails box l ≡ false → StaysOpen box plain negated
one_shows box plain negated l i s f y v h =
    false_from_ne_true (all_fail (box_at box y v) plain negated)
    (λ t. clash (surely_fails (box_at box y v) l) (each_fails (box_at box y v) plain negated l i t) (still_holds box l.x.0 y (failing l.positive) v s f h))

-- neither of two different ones fails
pub both_show : (box : Box) (plain negated : List Arg) (l m : Literal) → IsLiteralOf plain negated l → IsLiteralOf plain negated m → is_fixed box l ≡ false → is_fixed box m ≡ false → same_literal l m ≡ false →
    StaysOpen box plain negated
both_show box plain negated l m i j s t d y v h =
    let b = box_at box y v in
    false_from_ne_true (all_fail b plain negated)
    (λ a. clash (surely_fails b l && surely_fails b m)
    (and_from (surely_fails b l) (surely_fails b m) (each_fails b plain negated l i a) (each_fails b plain negated m j a))
    (one_fails box l.x.0 m.x.0 y l.positive m.positive v s t d))

-- a clause is refuted where all its literals fail
all_left : (n : ℤ) (box : Box) (xs : List Arg) → list_all (is_only n) (map (left_to box) xs) ≡ list_all (λ a. is_only n (left_to box a)) xs
all_left n box [] = refl
all_left n box (a ∷ xs) = ap (λ b. is_only n (left_to box a) && b) (all_left n box xs)

all_at : (n : ℤ) (c : Rule) (box : Box) (k : ℕ) → list_all (is_only n) (lefts_at (map (fill (left_to box)) c.args) k) ≡ list_all (λ a. is_only n (left_to box a)) (args_at c.args k)
all_at n c box k = ap (list_all (is_only n)) (lefts_written box c.args k) ∙ all_left n box (args_at c.args k)

clause_refuted : (c : Rule) (box : Box) → c.pred ≡ BoolClause → refuted_by c box ≡ all_fail box (args_at c.args 0) (args_at c.args 1)
clause_refuted c box e =
    let filled = map (fill (left_to box)) c.args in
    ap (λ p. refuted_as (meaning_of p) filled) e
    ∙ (ap (λ z. z && list_all (is_only (pos 1)) (lefts_at filled 1)) (all_at (pos 0) c box 0)
    ∙ ap (λ z. list_all (λ a. is_only (pos 0) (left_to box a)) (args_at c.args 0) && z) (all_at (pos 1) c box 1))

one_value : (d : Values) → is_single d ≡ true → least_value d ≡ greatest_value d
one_value [] h = cc
one_value (v ∷ []) h = refl
one_value (v ∷ w ∷ d) h = cc

all_true : (p : ℕ → Bool) (xs : List ℕ) → ((x : ℕ) → p x ≡ true) → list_all p xs ≡ true
all_true p [] f = refl
all_true p (x ∷ xs) f = and_from (p x) (list_all p xs) (f x) (all_true p xs f)

pub keeps_open : (c : Rule) (box : Box) → c.pred ≡ BoolClause → StaysOpen box (args_at c.args 0) (args_at c.args 1) → keeps_ends box c ≡ true
keeps_open c box e o =
    all_true (λ x. not (refutes_at c box x (least_value (values_left box x))) && not (refutes_at c box x (greatest_value (values_left box x)))) (variables_of c.args)
    (λ x. and_from (not (refutes_at c box x (least_value (values_left box x)))) (not (refutes_at c box x (greatest_value (values_left box x))))
    (not_from_false (refutes_at c box x (least_value (values_left box x))) (clause_refuted c (box_at box x (least_value (values_left box x))) e ∙ o x (least_value (values_left box x)) (λ s. refl)))
    (not_from_false (refutes_at c box x (greatest_value (values_left box x))) (clause_refuted c (box_at box x (greatest_value (values_left box x))) e ∙ o x (greatest_value (values_left box x)) (one_value (values_left box x)))))

pub just_kept : (g : Game) (k : ℕ) (c : Rule) (box : Box) → slice_get g.constraints k ≡ Some c → c.pred ≡ BoolClause → StaysOpen box (args_at c.args 0) (args_at c.args 1) → EachRule (is_just k) g (keeps_ends box)
just_kept g k c box s e o j r i t =
    subst (λ z. keeps_ends box z ≡ true) (same_Some c r (sym s ∙ (ap (slice_get g.constraints) (sym (equal_numbers j k i)) ∙ t))) (keeps_open c box e o)

-- x has the one value by which a literal of the clause holds
some_stays : (n : ℤ) (box : Box) (xs : List Arg) (x : ℕ) → has_number (flat_map arg_variables xs) x ≡ true → is_only n (values_left box x) ≡ false → list_all (λ a. is_only n (left_to box a)) xs ≡ false
some_stays n box [] x h f = cc
some_stays n box (Num m ∷ xs) x h f = and_right (is_only n (m ∷ [])) (list_all (λ a. is_only n (left_to box a)) xs) (some_stays n box xs x h f)
some_stays n box (Var z ∷ xs) x h f = by (z.0 == x) refl (some_stays n box xs x) h
  where
    by : (b : Bool) → (z.0 == x) ≡ b → (has_number (flat_map arg_variables xs) x ≡ true → is_only n (values_left box x) ≡ false → list_all (λ a. is_only n (left_to box a)) xs ≡ false) →
        (b || has_number (flat_map arg_variables xs) x) ≡ true → (is_only n (values_left box z.0) && list_all (λ a. is_only n (left_to box a)) xs) ≡ false
    by true e g k =
        and_left (is_only n (values_left box z.0)) (list_all (λ a. is_only n (left_to box a)) xs) (subst (λ y. is_only n (values_left box y) ≡ false) (sym (equal_numbers z.0 x e)) f)
    by false e g k = and_right (is_only n (values_left box z.0)) (list_all (λ a. is_only n (left_to box a)) xs) (g k f)

-- by the number n, which isn't m, in the first array or the second
differs : (n m : ℤ) (d : Values) → least_value d ≡ n → int_eq n m ≡ false → is_only m d ≡ false
differs n m d e h = and_right (is_single d) (int_eq (least_value d) m) (ap (λ z. int_eq z m) e ∙ h)

held_by_one : (c : Rule) (box : Box) (x : ℕ) → IsHeld by_one c x → IsNow by_one box x → keeps_ends box c ≡ true
held_by_one c box x h n =
    keeps_open c box h.0
    (λ y v l.
    and_left (list_all (λ a. is_only (pos 0) (left_to (box_at box y v) a)) (args_at c.args 0)) (list_all (λ a. is_only (pos 1) (left_to (box_at box y v) a)) (args_at c.args 1))
    (some_stays (pos 0) (box_at box y v) (args_at c.args 0) x h.1 (still_holds box x y (pos 0) v n.0 (differs (pos 1) (pos 0) (values_left box x) n.1 refl) l)))

held_by_zero : (c : Rule) (box : Box) (x : ℕ) → IsHeld by_zero c x → IsNow by_zero box x → keeps_ends box c ≡ true
held_by_zero c box x h n =
    keeps_open c box h.0
    (λ y v l.
    and_right (list_all (λ a. is_only (pos 0) (left_to (box_at box y v) a)) (args_at c.args 0)) (list_all (λ a. is_only (pos 1) (left_to (box_at box y v) a)) (args_at c.args 1))
    (some_stays (pos 1) (box_at box y v) (args_at c.args 1) x h.1 (still_holds box x y (pos 1) v n.0 (differs (pos 0) (pos 1) (values_left box x) n.1 refl) l)))

pub one_kept : (g : Game) (x : ℕ) (w : Watch) (box : Box) → IsRight g x w → w.held_by ≡ by_one → IsNow by_one box x → EachRule (is_just w.c.0) g (keeps_ends box)
one_kept g x w box r e n j c i s =
    held_by_one c box x (subst (λ h. IsHeld h c x) e (r c (ap (slice_get g.constraints) (sym (equal_numbers j w.c.0 i)) ∙ s))) n

pub zero_kept : (g : Game) (x : ℕ) (w : Watch) (box : Box) → IsRight g x w → w.held_by ≡ by_zero → IsNow by_zero box x → EachRule (is_just w.c.0) g (keeps_ends box)
zero_kept g x w box r e n j c i s =
    held_by_zero c box x (subst (λ h. IsHeld h c x) e (r c (ap (slice_get g.constraints) (sym (equal_numbers j w.c.0 i)) ∙ s))) n

-- the box has a place for each literal
below : (k n : ℕ) → k < n → nat_lt k n ≡ true
below k n h = grind (arith, nat_tests)

arg_placed : (g : Game) (i : ℕ) (box : Box) (a : Arg) → is_sub_box box (declared_box g) ≡ true → arg_sees g.variables i a ≡ true → has_place (length box) a ≡ true
arg_placed g i box (Var x) d h = below x.0 (length box) (seen_place g box i x.0 d h)
arg_placed g i box (Num n) d h = refl

items_seen : (xs : List Variable) (i : ℕ) (args : List Argument) (k : ℕ) → list_all (argument_sees xs i) args ≡ true → list_all (arg_sees xs i) (args_at args k) ≡ true
items_seen xs i [] zero h = refl
items_seen xs i [] (suc k) h = refl
items_seen xs i (One a ∷ args) zero h = refl
items_seen xs i (Many bs ∷ args) zero h = first (list_all (arg_sees xs i) bs) (list_all (argument_sees xs i) args) h
items_seen xs i (Numbers ns ∷ args) zero h = refl
items_seen xs i (Members s ∷ args) zero h = refl
items_seen xs i (a ∷ args) (suc k) h = items_seen xs i args k (second (argument_sees xs i a) (list_all (argument_sees xs i) args) h)

pub items_placed : (g : Game) (k : ℕ) (c : Rule) (box : Box) (j : ℕ) → IsValid g → slice_get g.constraints k ≡ Some c → is_sub_box box (declared_box g) ≡ true → list_all (has_place (length box)) (args_at c.args j) ≡ true
items_placed g k c box j v e d =
    all_weaker (arg_sees g.variables c.owner.0) (has_place (length box)) (args_at c.args j) (λ a m. arg_placed g c.owner.0 box a d m) (items_seen g.variables c.owner.0 c.args j (rule_sees g k c v e))

pub literal_placed : (n : ℕ) (plain negated : List Arg) (l : Literal) → list_all (has_place n) plain ≡ true → list_all (has_place n) negated ≡ true → IsLiteralOf plain negated l → l.x.0 < n
literal_placed n plain negated l p q i = within l.x.0 n (by l.positive i.there)
  where
    within : (k n : ℕ) → nat_lt k n ≡ true → k < n
    within k n h = grind (arith, nat_tests)

    by : (b : Bool) → slice_get (cond b plain negated) i.place ≡ Some (Var l.x) → nat_lt l.x.0 n ≡ true
    by true e = of_all (has_place n) plain i.place (Var l.x) p e
    by false e = of_all (has_place n) negated i.place (Var l.x) q e

-- a literal that is kept has a place
pub kept_placed : (g : Game) (k : ℕ) (c : Rule) (box : Box) (l : Literal) → IsValid g → slice_get g.constraints k ≡ Some c → is_sub_box box (declared_box g) ≡ true → IsLiteralOf (args_at c.args 0) (args_at c.args 1) l → l.x.0 < length box
kept_placed g k c box l v e d i = literal_placed (length box) (args_at c.args 0) (args_at c.args 1) l (items_placed g k c box 0 v e d) (items_placed g k c box 1 v e d) i

-- two of its literals take the place of those that were kept
pub hints_set : (g : Game) (hs : List Hint) (k : ℕ) (c : Rule) (h : Hint) → IsHintsOf g hs → slice_get g.constraints k ≡ Some c → IsHintOf c h → IsHintsOf g (set hs k h)
hints_set g hs k c h i e o = record {
  count = length-set hs k h ∙ i.count;
  own = λ j n d s t u. elim (set_get hs k j h n s) [ inl m ↦ i.own j n d m t u | inr m ↦ subst (IsHintOf d) m.1 (subst (λ z. IsHintOf z h) (same_Some c d (sym e ∙ (ap (slice_get g.constraints) m.0 ∙ u))) o) ];
}
  where
    set_get : (hs : List Hint) (k j : ℕ) (h n : Hint) → slice_get (set hs k h) j ≡ Some n → (slice_get hs j ≡ Some n) ⊎ ((k ≡ j) × (h ≡ n))
    set_get [] k j h n s = inl s
    set_get (m ∷ hs) zero zero h n s = inr (refl, same_Some h n s)
    set_get (m ∷ hs) zero (suc j) h n s = inl s
    set_get (m ∷ hs) (suc k) zero h n s = inl s
    set_get (m ∷ hs) (suc k) (suc j) h n s = elim (set_get hs k j h n s) [ inl e ↦ inl e | inr e ↦ inr (ap suc e.0, e.1) ]

pub with_rule : (cs : List Rule) (k : ℕ) → k < length cs → (P : Type 0) → ((c : Rule) → slice_get cs k ≡ Some c → P) → P
with_rule [] k l P f = absurd (omega (arith, l))
with_rule (c ∷ cs) zero l P f = f c refl
with_rule (c ∷ cs) (suc k) l P f = with_rule cs k (omega (arith, l)) P f

pub hint_at : (hs : List Hint) (k : ℕ) (h d : Hint) → k < length hs → h ≡ get_or hs k d → slice_get hs k ≡ Some h
hint_at [] k h d l e = absurd (omega (arith, l))
hint_at (g ∷ hs) zero h d l e = ap Some (sym e)
hint_at (g ∷ hs) (suc k) h d l e = hint_at hs k h d (omega (arith, l)) e

-- two literals that are kept show that the clause refutes no end
pub hint_shows : (g : Game) (k : ℕ) (h : Hint) (box : Box) → ((c : Rule) → slice_get g.constraints k ≡ Some c → IsHintOf c h) →
    ((plain negated : List Arg) → IsLiteralOf plain negated h.one → IsLiteralOf plain negated h.other → StaysOpen box plain negated) → EachRule (is_just k) g (keeps_ends box)
hint_shows g k h box o f j c i s =
    let own = o c (ap (slice_get g.constraints) (sym (equal_numbers j k i)) ∙ s) in
    keeps_open c box own.0 (f (args_at c.args 0) (args_at c.args 1) own.1.0 own.1.1)
