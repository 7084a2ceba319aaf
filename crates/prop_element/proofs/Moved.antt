-- A variable that has other values, and the items of an array.
use Rattle.std.proofs.Common.{◌≡◌, ℕ, zero, suc, ◌<◌, ◌+◌, ◌⊎◌, inl, inr, Bool, true, false, not, List, [], ◌∷◌, length, take, get_or, set, refl, sym, ap, ◌∙◌, subst, arith, ℤ}
use Rattle.std.specs.Prelude.{◌==◌, ◌≤ℤ◌, ◌<ℤ◌, int_le, int_lt}
use Rattle.std.specs.List.{list_any, list_all}
use Rattle.std.proofs.lemmas.Int.{ints}
use Rattle.std.proofs.lemmas.List.{get_or-set_same}
use Rattle.std.proofs.lemmas.List.Folds.{list_all_more}
use Rattle.std.proofs.lemmas.Bool.Decides.{nat_tests}
use Rattle.std.proofs.lemmas.Bool.{or_left, or_right, or_from, and_left, and_right, and_from}
use Rattle.qc_model.specs.declared.problem.Arg.{Arg}
use Rattle.qc_model.specs.declared.problem.Arg.TheVariants.{Var, Num}
use Rattle.qc_model.specs.declared.problem.VarId.{VarId}
use Rattle.qc_model.specs.Domains.{Values, Box, values_left, values_within, is_within, is_none_left, has_value, least_value, greatest_value}
use Rattle.qc_model.specs.Refuted.{left_to}
use Rattle.qc_model.specs.Closed.{refutes_at}
use Rattle.qc_model.specs.Content.{Rule}
use Rattle.qc_model.specs.Valid.{is_number}
use Rattle.qc_model.proofs.Readable.{first, second}
use Rattle.model_arguments.proofs.Values.{has_least, has_greatest}
use Rattle.model_arguments.specs.Repeats.{is_variable, same_variable}
use Rattle.model_arguments.proofs.Kept.{passes, was_left, at_least, at_most, lower, reaches}
use Rattle.model_arguments.proofs.Bools.{not_false}
use Rattle.qc_refuter.specs.Met.{is_open}
use Rattle.qc_refuter.proofs.Domains.{some_left, small_left}
use Rattle.qc_refuter.proofs.Terms.{open_at}
use Rattle.prop_base.specs.Closed.{keeps_arg, keeps_at}
use Rattle.prop_compare.proofs.Sides.{with_other}
use Rattle.prop_element.specs.Extremes.{item_at}

-- the argument is the variable, or another one
pub record IsHere (box : Box) (x : VarId) (us : Values) (a : Arg) : Type 0 where
  pub same : same_variable (Var x) a ≡ true
  pub now : left_to (set box x.0 us) a ≡ us
  pub was : left_to box a ≡ values_left box x.0

pub record IsElsewhere (box : Box) (x : VarId) (us : Values) (a : Arg) : Type 0 where
  pub other : same_variable (Var x) a ≡ false
  pub stays : left_to (set box x.0 us) a ≡ left_to box a

pub equal : (a b : ℕ) → (a == b) ≡ true → a ≡ b
equal a b h = grind (arith, nat_tests)

-- the same variable, asked by either name
pub same_tests : (a : Arg) (x : VarId) (b : Arg) → same_variable a (Var x) ≡ true → same_variable a b ≡ same_variable (Var x) b
same_tests (Num n) x b h = cc
same_tests (Var y) x b h = ap (is_variable b) (sym (equal x.0 y.0 h))

here_of : (box : Box) (x : VarId) (us : Values) (a : Arg) → x.0 < length box → same_variable (Var x) a ≡ true → IsHere box x us a
here_of box x us (Num n) l h = cc
here_of box x us (Var y) l h =
    let e = equal y.0 x.0 h in
    record {
      same = h;
      now = ap (λ k. values_left (set box x.0 us) k) e ∙ get_or-set_same box x.0 us [] l;
      was = ap (values_left box) e;
    }

pub moved : (box : Box) (x : VarId) (us : Values) (a : Arg) → x.0 < length box → IsHere box x us a ⊎ IsElsewhere box x us a
moved box x us a l = by (same_variable (Var x) a) refl
  where
    by : (b : Bool) → same_variable (Var x) a ≡ b → IsHere box x us a ⊎ IsElsewhere box x us a
    by true h = inl (here_of box x us a l h)
    by false h = inr (record { other = h; stays = with_other box (Var x) a us h })

pub set_here : (box : Box) (x : VarId) (us : Values) → x.0 < length box → left_to (set box x.0 us) (Var x) ≡ us
set_here box x us l = get_or-set_same box x.0 us [] l

pub any_at : (p : Arg → Bool) (xs : List Arg) (k : ℕ) → k < length xs → p (item_at xs k) ≡ true → list_any p xs ≡ true
any_at p [] k h t = absurd (omega arith)
any_at p (x ∷ xs) zero h t = or_left (p x) (list_any p xs) t
any_at p (x ∷ xs) (suc k) h t = or_right (p x) (list_any p xs) (any_at p xs k (omega arith) t)

pub none_any : (p : Arg → Bool) (xs : List Arg) → ((k : ℕ) → k < length xs → p (item_at xs k) ≡ false) → list_any p xs ≡ false
none_any p [] f = refl
none_any p (x ∷ xs) f = or_from (p x) (list_any p xs) (f 0 (omega arith)) (none_any p xs (λ k h. f (suc k) (omega arith)))

pub all_each : (p : Arg → Bool) (xs : List Arg) → ((k : ℕ) → k < length xs → p (item_at xs k) ≡ true) → list_all p xs ≡ true
all_each p [] f = refl
all_each p (x ∷ xs) f = and_from (p x) (list_all p xs) (f 0 (omega arith)) (all_each p xs (λ k h. f (suc k) (omega arith)))

pub fails_at : (p : Arg → Bool) (xs : List Arg) (k : ℕ) → k < length xs → p (item_at xs k) ≡ false → list_all p xs ≡ false
fails_at p [] k h t = absurd (omega arith)
fails_at p (x ∷ xs) zero h t = and_left (p x) (list_all p xs) t
fails_at p (x ∷ xs) (suc k) h t = and_right (p x) (list_all p xs) (fails_at p xs k (omega arith) t)

-- numbers
pub at_most_is : (a b : ℤ) → a ≤ℤ b → int_le a b ≡ true
at_most_is a b h = grind (arith, ints)

pub above_not : (a b : ℤ) → b <ℤ a → int_le a b ≡ false
above_not a b h = grind (arith, ints)

pub over_least : (a b c : ℤ) → a <ℤ b → b ≤ℤ c → a <ℤ c
over_least a b c h k = omega (arith, ints, h, k)

pub under_most : (a b c : ℤ) → a ≤ℤ b → b <ℤ c → a <ℤ c
under_most a b c h k = omega (arith, ints, h, k)

-- by numbers that were read
pub less_by : (a b u v : ℤ) → a ≡ u → b ≡ v → int_lt a b ≡ true → u <ℤ v
less_by a b u v e f h = subst (λ z. u <ℤ z) f (subst (λ z. z <ℤ b) e (lower a b h))

pub most_by : (a b u v : ℤ) → a ≡ u → b ≡ v → int_lt a b ≡ false → v ≤ℤ u
most_by a b u v e f h = subst (λ z. z ≤ℤ u) f (subst (λ z. b ≤ℤ z) e (reaches a b h))

pub itself : (a : ℤ) → a ≤ℤ a
itself a = grind (arith, ints)

-- the values within a range
pub record IsPart (d : Values) (l h : ℤ) : Type 0 where
  pub value : ℤ
  pub there : has_value d value ≡ true
  pub from : l ≤ℤ value
  pub to : value ≤ℤ h
  pub least : l ≤ℤ least_value (values_within l h d)
  pub greatest : greatest_value (values_within l h d) ≤ℤ h

pub part_of : (d : Values) (l h : ℤ) → is_none_left (values_within l h d) ≡ false → IsPart d l h
part_of d l h n =
    let w = values_within l h d in
    let p = has_least w n in
    let q = has_greatest w n in
    record {
      value = least_value w;
      there = was_left (is_within l h) d (least_value w) p;
      from = at_least l h (least_value w) (passes (is_within l h) d (least_value w) p);
      to = at_most l h (least_value w) (passes (is_within l h) d (least_value w) p);
      least = at_least l h (least_value w) (passes (is_within l h) d (least_value w) p);
      greatest = at_most l h (greatest_value w) (passes (is_within l h) d (greatest_value w) q);
    }

-- items and ends of open arguments
pub open_item : (box : Box) (items : List Arg) (k : ℕ) → list_all (is_open box) items ≡ true → k < length items → is_open box (item_at items k) ≡ true
open_item box items k o h = open_at box items k (Var (record { 0 = 0 })) h o

-- one item more passes
pub more_pass : {X : Type 0} (p : X → Bool) (xs : List X) (i : ℕ) (d : X) → i < length xs → list_all p (take i xs) ≡ true → p (get_or xs i d) ≡ true → list_all p (take (i + 1) xs) ≡ true
more_pass p xs i d l h e = list_all_more p xs i d l ∙ and_from (list_all p (take i xs)) (p (get_or xs i d)) h e

-- all of no items pass, and where some are, the first place is one of theirs
pub none_there : {X : Type 0} (p : X → Bool) (xs : List X) → (length xs == 0) ≡ true → list_all p xs ≡ true
none_there p [] h = refl
none_there p (x ∷ xs) h = absurd (not_none (length xs) h)
  where
    not_none : (n : ℕ) → (suc n == 0) ≡ true → ⊥
    not_none n h = grind (arith, nat_tests)

pub some_there : {X : Type 0} (xs : List X) → (length xs == 0) ≡ false → 0 < length xs
some_there xs h = some (length xs) h
  where
    some : (n : ℕ) → (n == 0) ≡ false → 0 < n
    some n h = grind (arith, nat_tests)

pub small_least : (box : Box) (a : Arg) → is_open box a ≡ true → is_number (least_value (left_to box a)) ≡ true
small_least box a o = small_left (left_to box a) (least_value (left_to box a)) o (has_least (left_to box a) (some_left (left_to box a) o))

pub small_greatest : (box : Box) (a : Arg) → is_open box a ≡ true → is_number (greatest_value (left_to box a)) ≡ true
small_greatest box a o = small_left (left_to box a) (greatest_value (left_to box a)) o (has_greatest (left_to box a) (some_left (left_to box a) o))

-- an item that is a variable
pub keeps_same : (c : Rule) (box : Box) (x : VarId) (m : Arg) → same_variable (Var x) m ≡ true → keeps_arg c box m ≡ true → keeps_at c box x.0 ≡ true
keeps_same c box x (Num n) s k = cc
keeps_same c box x (Var y) s k = subst (λ z. keeps_at c box z ≡ true) (equal y.0 x.0 s) k

pub least_kept : (c : Rule) (box : Box) (x : ℕ) → keeps_at c box x ≡ true → refutes_at c box x (least_value (values_left box x)) ≡ false
least_kept c box x k = not_false (refutes_at c box x (least_value (values_left box x))) (first (not (refutes_at c box x (least_value (values_left box x)))) (not (refutes_at c box x (greatest_value (values_left box x)))) k)

pub greatest_kept : (c : Rule) (box : Box) (x : ℕ) → keeps_at c box x ≡ true → refutes_at c box x (greatest_value (values_left box x)) ≡ false
greatest_kept c box x k = not_false (refutes_at c box x (greatest_value (values_left box x))) (second (not (refutes_at c box x (least_value (values_left box x)))) (not (refutes_at c box x (greatest_value (values_left box x)))) k)
