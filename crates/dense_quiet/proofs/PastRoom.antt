-- Values that a sum refutes because they are past its room.
use Rattle.std.proofs.Common.{◌≡◌, ◌⊎◌, inl, inr, ℕ, zero, suc, ◌<◌, ◌==◌, Bool, true, false, List, [], ◌∷◌, ◌++◌, length, map, set, refl, ap, ◌∙◌, subst, arith, ℤ}
use Rattle.std.specs.Prelude.{pos, ◌+ℤ◌, ◌*ℤ◌, ◌≤ℤ◌, ◌<ℤ◌, int_lt, slice_get, flat_map, Some, cond}
use Rattle.std.specs.Int.{int_min, int_max}
use Rattle.std.specs.List.{list_any, list_all}
use Rattle.std.proofs.lemmas.Bool.Decides.{nat_tests}
use Rattle.std.proofs.lemmas.Int.{ints, clamps}
use Rattle.std.proofs.lemmas.List.{get_or-set_same}
use Rattle.std.proofs.lemmas.Option.{same_Some}
use Rattle.std.proofs.lemmas.Bool.{or_left, or_right, or_from, or_parts, false_from_ne_true, or_cases}
use Rattle.qc_model.specs.declared.problem.Arg.{Arg}
use Rattle.qc_model.specs.declared.problem.Arg.TheVariants.{Var, Num}
use Rattle.qc_model.specs.declared.problem.Argument.{Argument}
use Rattle.qc_model.specs.declared.problem.Argument.TheVariants.{One, Many, Numbers, Members}
use Rattle.qc_model.specs.declared.problem.Pred.TheVariants.{IntLinEq, IntLinLe}
use Rattle.qc_model.specs.declared.problem.VarId.{VarId}
use Rattle.qc_model.specs.Arguments.{arg_variables, argument_variables, variables_of}
use Rattle.qc_model.specs.Content.{Game, Rule}
use Rattle.qc_model.specs.Domains.{Values, Box, values_left, least_value, greatest_value, is_none_left, is_within, is_sub_box, has_empty}
use Rattle.qc_model.specs.Left.{span, sum_range, sum_at, lefts_at}
use Rattle.qc_model.specs.Lists.{Among, Distinct}
use Rattle.qc_model.specs.Ranges.{Range, point, product}
use Rattle.qc_model.specs.Refuted.{left_to, refuted_by}
use Rattle.qc_model.specs.Valid.{IsValid}
use Rattle.model_arguments.specs.Asked.{is_box_of}
use Rattle.model_arguments.specs.Repeats.{is_variable, same_variable, has_repeat}
use Rattle.model_arguments.specs.Written.{args_at, ints_at}
use Rattle.model_arguments.proofs.Items.{other_left, others_left}
use Rattle.model_arguments.proofs.Kept.{at_least, at_most, is_lower, through}
use Rattle.model_arguments.proofs.Values.{value_passes, has_least, has_greatest}
use Rattle.model_arguments.proofs.Written.{lefts_written, numbers_written}
use Rattle.model_table.proofs.Inside.{Inside, given_sums_inside}
use Rattle.model_table.proofs.Parts.{lefts_parts}
use Rattle.model_table.proofs.Typed.{lefts_of}
use Rattle.dense_closing.proofs.Own.{rule_below}
use Rattle.dense_quiet.specs.declared.slack.Room.{Room}
use Rattle.dense_quiet.specs.Slack.{sum_left, most_room, RoomTells, IsTermOf, IsPast}
use Rattle.dense_quiet.proofs.Sums.{at_most_is, equal_is}

-- where no variable stands twice in a constraint, none does in one of its arrays
module _ {X : Type 0} where
  among_first : (xs ys : List X) (x : X) → Among x xs → Among x (xs ++ ys)
  among_first [] ys x m = absurd m
  among_first (y ∷ xs) ys x (inl e) = inl e
  among_first (y ∷ xs) ys x (inr m) = inr (among_first xs ys x m)

  distinct_first : (xs ys : List X) → Distinct (xs ++ ys) → Distinct xs
  distinct_first [] ys d = tt
  distinct_first (x ∷ xs) ys d = (λ m. d.0 (among_first xs ys x m), distinct_first xs ys d.1)

  distinct_second : (xs ys : List X) → Distinct (xs ++ ys) → Distinct ys
  distinct_second [] ys d = d
  distinct_second (x ∷ xs) ys d = distinct_second xs ys d.1

stands : (k : ℕ) (xs : List Arg) → list_any (λ b. is_variable b k) xs ≡ true → Among k (flat_map arg_variables xs)
stands k [] h = cc
stands k (Num n ∷ xs) h = stands k xs h
stands k (Var x ∷ xs) h = elim (or_cases (x.0 == k) (list_any (λ b. is_variable b k) xs) h) [ inl e ↦ inl (same x.0 k e) | inr m ↦ inr (stands k xs m) ]
  where
    same : (a b : ℕ) → (a == b) ≡ true → b ≡ a
    same a b e = grind (arith, nat_tests)

no_number : (xs : List Arg) (n : ℤ) → list_any (same_variable (Num n)) xs ≡ false
no_number [] n = refl
no_number (a ∷ xs) n = no_number xs n

items_once : (xs : List Arg) → Distinct (flat_map arg_variables xs) → has_repeat xs ≡ false
items_once [] d = refl
items_once (Num n ∷ xs) d = or_from (list_any (same_variable (Num n)) xs) (has_repeat xs) (no_number xs n) (items_once xs d)
items_once (Var x ∷ xs) d =
    or_from (list_any (same_variable (Var x)) xs) (has_repeat xs) (false_from_ne_true (list_any (same_variable (Var x)) xs) (λ h. d.0 (stands x.0 xs h))) (items_once xs d.1)

pub once_at : (args : List Argument) (k : ℕ) → Distinct (variables_of args) → has_repeat (args_at args k) ≡ false
once_at [] zero d = refl
once_at [] (suc k) d = refl
once_at (One a ∷ args) zero d = refl
once_at (Many xs ∷ args) zero d = items_once xs (distinct_first (flat_map arg_variables xs) (variables_of args) d)
once_at (Numbers ns ∷ args) zero d = refl
once_at (Members s ∷ args) zero d = refl
once_at (a ∷ args) (suc k) d = once_at args k (distinct_second (argument_variables a) (variables_of args) d)

-- in a smaller box a sum can be less, so there is no more room
sum_is : (c : Rule) (box : Box) → sum_at (lefts_of box c.args) ≡ sum_left c box
sum_is c box =
    ap (λ ns. sum_range ns (lefts_at (lefts_of box c.args) 1)) (numbers_written box c.args 0)
    ∙ ap (λ ds. sum_range (ints_at c.args 0) ds) (lefts_written box c.args 1)

pub tells_smaller : (g : Game) → IsValid g → (k : ℕ) (c : Rule) (r : Room) (small box : Box) → slice_get g.constraints k ≡ Some c → is_box_of g small ≡ true → is_sub_box small box ≡ true → has_empty small ≡ false → RoomTells c r box → RoomTells c r small
tells_smaller g v k c r small box e d s f t = record {
  is_equal = t.is_equal;
  bound = t.bound;
  pred = t.pred;
  number = t.number;
  once = t.once;
  under = λ l. rise t.bound (sum_left c box).from (sum_left c small).from r.under (t.under l) inside.low;
  over = λ l. ((t.over l).0, through (sum_left c small).to (sum_left c box).to (t.bound +ℤ r.over) inside.high (t.over l).1);
}
  where
    inside : Inside (sum_left c small) (sum_left c box)
    inside =
        subst (λ a. Inside a (sum_left c box)) (sum_is c small)
        (subst (λ b. Inside (sum_at (lefts_of small c.args)) b) (sum_is c box)
        (given_sums_inside (lefts_of small c.args) (lefts_of box c.args) (lefts_parts small box s f c.args (rule_below g v small d k c e))))

    rise : (b p q u : ℤ) → b ≤ℤ (p +ℤ u) → p ≤ℤ q → b ≤ℤ (q +ℤ u)
    rise b p q u h k = omega (arith, ints)

-- a sum moves as one of its terms does
abbrev pub term : ℤ → Values → Range
term n d = product (point n) (span d)

pub record IsMoved (old new was is : Range) : Type 0 where
  pub from : new.from +ℤ was.from ≡ old.from +ℤ is.from
  pub to : new.to +ℤ was.to ≡ old.to +ℤ is.to

module _ (box : Box) (x : VarId) (us : Values) (n : ℤ) (l : x.0 < length box) where
  apart_from : (a : Arg) (xs : List Arg) (i : ℕ) → list_any (same_variable a) xs ≡ false → slice_get xs i ≡ Some (Var x) → same_variable a (Var x) ≡ false
  apart_from a [] zero h e = cc
  apart_from a [] (suc i) h e = cc
  apart_from a (b ∷ xs) zero h e = subst (λ z. same_variable a z ≡ false) (same_Some b (Var x) e) (or_parts (same_variable a b) (list_any (same_variable a) xs) h).0
  apart_from a (b ∷ xs) (suc i) h e = apart_from a xs i (or_parts (same_variable a b) (list_any (same_variable a) xs) h).1 e

  pub sum_moved : (ns : List ℤ) (xs : List Arg) (i : ℕ) → has_repeat xs ≡ false → slice_get ns i ≡ Some n → slice_get xs i ≡ Some (Var x) →
      IsMoved (sum_range ns (map (left_to box) xs)) (sum_range ns (map (left_to (set box x.0 us)) xs)) (term n (values_left box x.0)) (term n us)
  sum_moved [] xs zero r p q = cc
  sum_moved [] xs (suc i) r p q = cc
  sum_moved (m ∷ ns) [] zero r p q = cc
  sum_moved (m ∷ ns) [] (suc i) r p q = cc
  sum_moved (m ∷ ns) (a ∷ xs) zero r p q =
      let e = same_Some m n p in
      let f = same_Some a (Var x) q in
      let once = or_parts (list_any (same_variable a) xs) (has_repeat xs) r in
      let rest = others_left box x us xs (subst (λ z. list_any (same_variable z) xs ≡ false) f once.0) in
      let was = ap (λ z. term z (left_to box a)) e ∙ ap (λ z. term n (left_to box z)) f in
      let is = ap (λ z. term z (left_to (set box x.0 us) a)) e ∙ (ap (λ z. term n (left_to (set box x.0 us) z)) f ∙ ap (term n) (get_or-set_same box x.0 us [] l)) in
      record {
        from = swap (term m (left_to (set box x.0 us) a)).from (term n us).from (term m (left_to box a)).from (term n (values_left box x.0)).from _ _ (ap (λ (z : Range). z.from) is) (ap (λ (z : Range). z.from) was) (ap (λ ds. (sum_range ns ds).from) rest);
        to = swap (term m (left_to (set box x.0 us) a)).to (term n us).to (term m (left_to box a)).to (term n (values_left box x.0)).to _ _ (ap (λ (z : Range). z.to) is) (ap (λ (z : Range). z.to) was) (ap (λ ds. (sum_range ns ds).to) rest);
      }
    where
      swap : (a b c d s t : ℤ) → a ≡ b → c ≡ d → s ≡ t → (a +ℤ s) +ℤ d ≡ (c +ℤ t) +ℤ b
      swap a b c d s t h k m = omega (arith, ints)
  sum_moved (m ∷ ns) (a ∷ xs) (suc i) r p q =
      let once = or_parts (list_any (same_variable a) xs) (has_repeat xs) r in
      let stays = ap (term m) (other_left box x us a (apart_from a xs i once.0 q)) in
      let rest = sum_moved ns xs i once.1 p q in
      record {
        from = join (term m (left_to (set box x.0 us) a)).from (term m (left_to box a)).from _ _ (term n (values_left box x.0)).from (term n us).from (ap (λ (z : Range). z.from) stays) rest.from;
        to = join (term m (left_to (set box x.0 us) a)).to (term m (left_to box a)).to _ _ (term n (values_left box x.0)).to (term n us).to (ap (λ (z : Range). z.to) stays) rest.to;
      }
    where
      join : (a b s t u v : ℤ) → a ≡ b → s +ℤ u ≡ t +ℤ v → (a +ℤ s) +ℤ u ≡ (b +ℤ t) +ℤ v
      join a b s t u v h k = omega (arith, ints)

-- with values past the room it is past its bound
pub record IsIn (z : ℤ) (r : Range) : Type 0 where
  pub low : r.from ≤ℤ z
  pub high : z ≤ℤ r.to

pub least_in : (n : ℤ) (d : Values) → IsIn (n *ℤ least_value d) (term n d)
least_in n d = record { low = low (n *ℤ least_value d) (n *ℤ greatest_value d); high = high (n *ℤ least_value d) (n *ℤ greatest_value d) }
  where
    low : (p q : ℤ) → int_min p (int_min q (int_min p q)) ≤ℤ p
    low p q = omega (arith, ints, clamps)

    high : (p q : ℤ) → p ≤ℤ int_max p (int_max q (int_max p q))
    high p q = omega (arith, ints, clamps)

pub greatest_in : (n : ℤ) (d : Values) → IsIn (n *ℤ greatest_value d) (term n d)
greatest_in n d = record { low = low (n *ℤ least_value d) (n *ℤ greatest_value d); high = high (n *ℤ least_value d) (n *ℤ greatest_value d) }
  where
    low : (p q : ℤ) → int_min p (int_min q (int_min p q)) ≤ℤ q
    low p q = omega (arith, ints, clamps)

    high : (p q : ℤ) → q ≤ℤ int_max p (int_max q (int_max p q))
    high p q = omega (arith, ints, clamps)

above_both : (p q b : ℤ) → b <ℤ p → b <ℤ q → b <ℤ int_min p (int_min q (int_min p q))
above_both p q b h k = omega (arith, ints, clamps)

below_both : (p q b u : ℤ) → (p +ℤ u) <ℤ b → (q +ℤ u) <ℤ b → (int_max p (int_max q (int_max p q)) +ℤ u) <ℤ b
below_both p q b u h k = omega (arith, ints, clamps)

module _ (c : Rule) (r : Room) (box : Box) (x : VarId) (n : ℤ) (l : x.0 < length box) (t : RoomTells c r box) (at : IsTermOf c n x) (w low high : ℤ) (i : IsIn (n *ℤ w) (term n (values_left box x.0))) (vs : Values) (some : is_none_left vs ≡ false)
    (within : list_all (is_within low high) vs ≡ true) where
  abbrev new : Box
  new = set box x.0 vs

  moved : IsMoved (sum_left c box) (sum_left c new) (term n (values_left box x.0)) (term n vs)
  moved = sum_moved box x vs n l (ints_at c.args 0) (args_at c.args 1) at.place t.once at.factor at.item

  least_within : is_within low high (least_value vs) ≡ true
  least_within = value_passes (is_within low high) vs (least_value vs) within (has_least vs some)

  greatest_within : is_within low high (greatest_value vs) ≡ true
  greatest_within = value_passes (is_within low high) vs (greatest_value vs) within (has_greatest vs some)

  at_end : (P : ℤ → Type 0) → ((v : ℤ) → low ≤ℤ v → v ≤ℤ high → P v) → P (least_value vs) × P (greatest_value vs)
  at_end P f =
      (f (least_value vs) (at_least low high (least_value vs) least_within) (at_most low high (least_value vs) least_within), f (greatest_value vs) (at_least low high (greatest_value vs) greatest_within) (at_most low high (greatest_value vs) greatest_within))

  refuted_above : t.bound <ℤ (sum_left c new).from → refuted_by c new ≡ true
  refuted_above h = by t.is_equal t.pred
    where
      by : (b : Bool) → c.pred ≡ cond b IntLinEq IntLinLe → refuted_by c new ≡ true
      by true e = equal_is c t.bound new e t.number ∙ or_right (int_lt (sum_left c new).to t.bound) (int_lt t.bound (sum_left c new).from) (is_lower t.bound (sum_left c new).from h)
      by false e = at_most_is c t.bound new e t.number ∙ is_lower t.bound (sum_left c new).from h

  refuted_below : t.is_equal ≡ true → (sum_left c new).to <ℤ t.bound → refuted_by c new ≡ true
  refuted_below q h =
      equal_is c t.bound new (t.pred ∙ ap (λ b. cond b IntLinEq IntLinLe) q) t.number
      ∙ or_left (int_lt (sum_left c new).to t.bound) (int_lt t.bound (sum_left c new).from) (is_lower (sum_left c new).to t.bound h)

  pub past_refuted : IsPast r n w low high → refuted_by c new ≡ true
  past_refuted (inl above) =
      let ends = at_end (λ v. (r.under <ℤ most_room) × (((n *ℤ w) +ℤ r.under) <ℤ (n *ℤ v))) above in
      let far = above_both (n *ℤ least_value vs) (n *ℤ greatest_value vs) ((n *ℤ w) +ℤ r.under) ends.0.1 ends.1.1 in
      refuted_above (over (sum_left c new).from (sum_left c box).from (term n (values_left box x.0)).from (term n vs).from (n *ℤ w) r.under t.bound moved.from i.low far (t.under ends.0.0))
    where
      over : (a b p q z u m : ℤ) → a +ℤ p ≡ b +ℤ q → p ≤ℤ z → (z +ℤ u) <ℤ q → m ≤ℤ (b +ℤ u) → m <ℤ a
      over a b p q z u m e h k j = omega (arith, ints)
  past_refuted (inr below) =
      let ends = at_end (λ v. (r.over <ℤ most_room) × (((n *ℤ v) +ℤ r.over) <ℤ (n *ℤ w))) below in
      let far = below_both (n *ℤ least_value vs) (n *ℤ greatest_value vs) (n *ℤ w) r.over ends.0.1 ends.1.1 in
      let told = t.over ends.0.0 in
      refuted_below told.0 (under (sum_left c new).to (sum_left c box).to (term n (values_left box x.0)).to (term n vs).to (n *ℤ w) r.over t.bound moved.to i.high far told.1)
    where
      under : (a b p q z u m : ℤ) → a +ℤ p ≡ b +ℤ q → z ≤ℤ p → (q +ℤ u) <ℤ z → b ≤ℤ (m +ℤ u) → a <ℤ m
      under a b p q z u m e h k j = omega (arith, ints)

-- a sum without room is past its bound
pub short_refuted : (c : Rule) (r : Room) (box : Box) → RoomTells c r box → (r.under <ℤ pos 0) ⊎ (r.over <ℤ pos 0) → refuted_by c box ≡ true
short_refuted c r box t (inl h) = by t.is_equal t.pred
  where
    past : (b f u : ℤ) → (u <ℤ most_room → b ≤ℤ (f +ℤ u)) → u <ℤ pos 0 → b <ℤ f
    past b f u k h = let j = k (omega (arith, ints)) in omega (arith, ints)

    over : int_lt t.bound (sum_left c box).from ≡ true
    over = is_lower t.bound (sum_left c box).from (past t.bound (sum_left c box).from r.under t.under h)

    by : (b : Bool) → c.pred ≡ cond b IntLinEq IntLinLe → refuted_by c box ≡ true
    by true e = equal_is c t.bound box e t.number ∙ or_right (int_lt (sum_left c box).to t.bound) (int_lt t.bound (sum_left c box).from) over
    by false e = at_most_is c t.bound box e t.number ∙ over
short_refuted c r box t (inr h) =
    let told = t.over (less r.over h) in
    equal_is c t.bound box (t.pred ∙ ap (λ b. cond b IntLinEq IntLinLe) told.0) t.number
    ∙ or_left (int_lt (sum_left c box).to t.bound) (int_lt t.bound (sum_left c box).from) (is_lower (sum_left c box).to t.bound (past t.bound (sum_left c box).to r.over told.1 h))
  where
    less : (u : ℤ) → u <ℤ pos 0 → u <ℤ most_room
    less u h = omega (arith, ints)

    past : (b f u : ℤ) → f ≤ℤ (b +ℤ u) → u <ℤ pos 0 → f <ℤ b
    past b f u k h = omega (arith, ints)
