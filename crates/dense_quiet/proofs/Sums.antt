-- A sum whose terms move less than it is away from its bound.
use Rattle.std.proofs.Common.{◌≡◌, ◌≢◌, ◌⊎◌, inl, inr, ℕ, zero, suc, ◌<◌, ◌+◌, get_or, ◌==◌, Bool, true, false, List, [], ◌∷◌, length, map, set, refl, sym, ap, ◌∙◌, subst, arith, ℤ}
use Rattle.std.specs.Prelude.{pos, ◌+ℤ◌, ◌-ℤ◌, ◌*ℤ◌, ◌≤ℤ◌, int_lt, int_le, slice_get, Some, cond}
use Rattle.std.specs.Int.{int_min, int_max}
use Rattle.std.specs.List.{list_any}
use Rattle.std.proofs.lemmas.Bool.Decides.{nat_tests}
use Rattle.std.proofs.lemmas.Int.{ints, clamps}
use Rattle.std.proofs.lemmas.List.{get_or-set_other}
use Rattle.qc_model.specs.declared.problem.Arg.{Arg}
use Rattle.qc_model.specs.declared.problem.Arg.TheVariants.{Var, Num}
use Rattle.qc_model.specs.declared.problem.Pred.TheVariants.{IntLinEq, IntLinLe}
use Rattle.qc_model.specs.Arguments.{fill}
use Rattle.qc_model.specs.Closed.{refutes_at}
use Rattle.qc_model.specs.Content.{Rule}
use Rattle.qc_model.specs.Domains.{Values, Box, values_left, box_at, least_value, greatest_value}
use Rattle.qc_model.specs.Left.{span, sum_range, sum_at, lefts_at}
use Rattle.qc_model.specs.Meaning.{meaning_of}
use Rattle.qc_model.specs.Ranges.{Range, point, product, range_of, ranges_miss}
use Rattle.qc_model.specs.Refuted.{left_to, refuted_as, refuted_by}
use Rattle.model_arguments.specs.Repeats.{is_variable, same_variable, has_repeat}
use Rattle.model_arguments.specs.Written.{arg_at, args_at, ints_at}
use Rattle.model_arguments.proofs.Written.{left_written, lefts_written, numbers_written}
use Rattle.dense_closing.specs.Takes.{Takes}
use Rattle.dense_quiet.specs.Slack.{IsNear, is_taken, AreNear, AllNear, SparesTaken}
use Rattle.std.proofs.lemmas.Option.{same_Some}
use Rattle.std.proofs.lemmas.Bool.{or_from, or_parts}

-- one more place
pub last_or_before : (k n : ℕ) → k < n + 1 → (k < n) ⊎ (k ≡ n)
last_or_before zero zero h = inr refl
last_or_before zero (suc n) h = inl (omega arith)
last_or_before (suc k) zero h = absurd (omega arith)
last_or_before (suc k) (suc n) h = elim (last_or_before k n (omega arith)) [ inl m ↦ inl (omega arith) | inr m ↦ inr (ap suc m) ]

-- one range is at most s inside of the other
record IsClose (s : ℤ) (new old : Range) : Type 0 where
  pub from : new.from ≤ℤ (old.from +ℤ s)
  pub to : old.to ≤ℤ (new.to +ℤ s)

close_same : (s : ℤ) → pos 0 ≤ℤ s → (r : Range) → IsClose s r r
close_same s z r = record { from = above r.from; to = above r.to }
  where
    above : (a : ℤ) → a ≤ℤ (a +ℤ s)
    above a = omega (arith, ints)

close_from : (p q r s : ℤ) → (r ≡ p) ⊎ (r ≡ q) → q ≤ℤ (p +ℤ s) → p ≤ℤ (q +ℤ s) → pos 0 ≤ℤ s → int_min r (int_min r (int_min r r)) ≤ℤ (int_min p (int_min q (int_min p q)) +ℤ s)
close_from p q r s (inl e) u d z = omega (arith, ints, clamps)
close_from p q r s (inr e) u d z = omega (arith, ints, clamps)

close_to : (p q r s : ℤ) → (r ≡ p) ⊎ (r ≡ q) → q ≤ℤ (p +ℤ s) → p ≤ℤ (q +ℤ s) → pos 0 ≤ℤ s → int_max p (int_max q (int_max p q)) ≤ℤ (int_max r (int_max r (int_max r r)) +ℤ s)
close_to p q r s (inl e) u d z = omega (arith, ints, clamps)
close_to p q r s (inr e) u d z = omega (arith, ints, clamps)

term_close : (s n v : ℤ) (d : Values) → pos 0 ≤ℤ s → (v ≡ least_value d) ⊎ (v ≡ greatest_value d) → IsNear s n d → IsClose s (product (point n) (span (v ∷ []))) (product (point n) (span d))
term_close s n v d z e h = record {
  from = close_from (n *ℤ least_value d) (n *ℤ greatest_value d) (n *ℤ v) s which h.up h.down z;
  to = close_to (n *ℤ least_value d) (n *ℤ greatest_value d) (n *ℤ v) s which h.up h.down z;
}
  where
    which : (n *ℤ v ≡ n *ℤ least_value d) ⊎ (n *ℤ v ≡ n *ℤ greatest_value d)
    which = elim e [ inl q ↦ inl (ap (λ w. n *ℤ w) q) | inr q ↦ inr (ap (λ w. n *ℤ w) q) ]

-- of a sum one part is as close, and the other the same
part_close : (s a b c d : ℤ) → a ≤ℤ (b +ℤ s) → c ≡ d → (a +ℤ c) ≤ℤ ((b +ℤ d) +ℤ s)
part_close s a b c d h k = omega (arith, ints)

rest_close : (s a b c d : ℤ) → a ≡ b → c ≤ℤ (d +ℤ s) → (a +ℤ c) ≤ℤ ((b +ℤ d) +ℤ s)
rest_close s a b c d k h = omega (arith, ints)

pub equal_numbers : (j k : ℕ) → (j == k) ≡ true → j ≡ k
equal_numbers j k h = grind (arith, nat_tests)

pub apart_numbers : (j k : ℕ) → (j == k) ≡ false → j ≢ k
apart_numbers j k h e = grind (arith, nat_tests)

pub set_cases : (box : Box) (x : ℕ) (us : Values) → (values_left (set box x us) x ≡ us) ⊎ (values_left (set box x us) x ≡ values_left box x)
set_cases [] x us = inr refl
set_cases (d ∷ box) zero us = inl refl
set_cases (d ∷ box) (suc x) us = set_cases box x us

module _ (ok : ℕ → Bool) (s : ℤ) (z : pos 0 ≤ℤ s) (box : Box) (x : ℕ) (taken : ok x ≡ true) (v : ℤ) (e : (v ≡ least_value (values_left box x)) ⊎ (v ≡ greatest_value (values_left box x))) where
  -- other items have what they had
  other_left : (y : ℕ) → y ≢ x → values_left (box_at box x v) y ≡ values_left box y
  other_left y n = get_or-set_other box x y (v ∷ []) [] n

  same_items : (xs : List Arg) → list_any (λ b. is_variable b x) xs ≡ false → map (left_to (box_at box x v)) xs ≡ map (left_to box) xs
  same_items [] h = refl
  same_items (Num m ∷ xs) h = ap (λ ds. (m ∷ []) ∷ ds) (same_items xs h)
  same_items (Var y ∷ xs) h =
      let both = or_parts (y.0 == x) (list_any (λ b. is_variable b x) xs) h in
      ap (λ d. d ∷ map (left_to (box_at box x v)) xs) (other_left y.0 (apart_numbers y.0 x both.0)) ∙ ap (λ ds. values_left box y.0 ∷ ds) (same_items xs both.1)

  own_close : (n : ℤ) → IsNear s n (values_left box x) → IsClose s (product (point n) (span (values_left (box_at box x v) x))) (product (point n) (span (values_left box x)))
  own_close n h =
      elim (set_cases box x (v ∷ [])) [
        | inl q ↦ subst (λ d. IsClose s (product (point n) (span d)) (product (point n) (span (values_left box x)))) (sym q) (term_close s n v (values_left box x) z e h)
        | inr q ↦ subst (λ d. IsClose s (product (point n) (span d)) (product (point n) (span (values_left box x)))) (sym q) (close_same s z (product (point n) (span (values_left box x))))
      ]

  sum_close : (ns : List ℤ) (xs : List Arg) → has_repeat xs ≡ false → AreNear ok s ns xs box → IsClose s (sum_range ns (map (left_to (box_at box x v)) xs)) (sum_range ns (map (left_to box) xs))
  sum_close [] xs r f = close_same s z (point (pos 0))
  sum_close (n ∷ ns) [] r f = close_same s z (point (pos 0))
  sum_close (n ∷ ns) (Num m ∷ xs) r f =
      let t = product (point n) (span (m ∷ [])) in
      let rest = sum_close ns xs (or_parts (list_any (same_variable (Num m)) xs) (has_repeat xs) r).1 (λ i k a p q w. f (suc i) k a p q w) in
      record { from = rest_close s t.from t.from _ _ refl rest.from; to = rest_close s t.to t.to _ _ refl rest.to }
  sum_close (n ∷ ns) (Var y ∷ xs) r f =
      by (y.0 == x) refl (or_parts (list_any (same_variable (Var y)) xs) (has_repeat xs) r) (sum_close ns xs (or_parts (list_any (same_variable (Var y)) xs) (has_repeat xs) r).1 (λ i k a p q w. f (suc i) k a p q w))
    where
      old : Range
      old = product (point n) (span (values_left box y.0))

      new : Range
      new = product (point n) (span (values_left (box_at box x v) y.0))

      by : (b : Bool) → (y.0 == x) ≡ b → (list_any (same_variable (Var y)) xs ≡ false) × (has_repeat xs ≡ false) → IsClose s (sum_range ns (map (left_to (box_at box x v)) xs)) (sum_range ns (map (left_to box) xs)) →
          IsClose s (sum_range (n ∷ ns) (map (left_to (box_at box x v)) (Var y ∷ xs))) (sum_range (n ∷ ns) (map (left_to box) (Var y ∷ xs)))
      by true q h c =
          let same = equal_numbers y.0 x q in
          let items = same_items xs (subst (λ k. list_any (λ b. is_variable b k) xs ≡ false) same h.0) in
          let here : IsClose s new old = subst (λ k. IsClose s (product (point n) (span (values_left (box_at box x v) k))) (product (point n) (span (values_left box k)))) (sym same) (own_close n (subst (λ k. IsNear s n (values_left box k)) same (f 0 n (Var y) refl refl (subst (λ k. ok k ≡ true) (sym same) taken)))) in
          record {
            from = part_close s new.from old.from _ _ here.from (ap (λ ds. (sum_range ns ds).from) items);
            to = part_close s old.to new.to _ _ here.to (ap (λ ds. (sum_range ns ds).to) (sym items));
          }
      by false q h c =
          let left = other_left y.0 (apart_numbers y.0 x q) in
          record {
            from = rest_close s new.from old.from _ _ (ap (λ d. (product (point n) (span d)).from) left) c.from;
            to = rest_close s old.to new.to _ _ (ap (λ d. (product (point n) (span d)).to) (sym left)) c.to;
          }

-- what a sum refutes that a number bounds
pub at_most_is : (c : Rule) (m : ℤ) (at : Box) → c.pred ≡ IntLinLe → arg_at c.args 2 ≡ Num m → refuted_by c at ≡ int_lt m (sum_range (ints_at c.args 0) (map (left_to at) (args_at c.args 1))).from
at_most_is c m at e n =
    let args = map (fill (left_to at)) c.args in
    ap (λ p. refuted_as (meaning_of p) args) e
    ∙ (ap (λ d. int_lt (greatest_value d) (sum_at args).from) (left_written at c.args 2 ∙ ap (left_to at) n)
    ∙ (ap (λ ns. int_lt m (sum_range ns (lefts_at args 1)).from) (numbers_written at c.args 0)
    ∙ ap (λ ds. int_lt m (sum_range (ints_at c.args 0) ds).from) (lefts_written at c.args 1)))

pub equal_is : (c : Rule) (m : ℤ) (at : Box) → c.pred ≡ IntLinEq → arg_at c.args 2 ≡ Num m → refuted_by c at ≡ ranges_miss (sum_range (ints_at c.args 0) (map (left_to at) (args_at c.args 1))) (range_of m m)
equal_is c m at e n =
    let args = map (fill (left_to at)) c.args in
    ap (λ p. refuted_as (meaning_of p) args) e
    ∙ (ap (λ d. ranges_miss (sum_at args) (span d)) (left_written at c.args 2 ∙ ap (left_to at) n)
    ∙ (ap (λ ns. ranges_miss (sum_range ns (lefts_at args 1)) (range_of m m)) (numbers_written at c.args 0)
    ∙ ap (λ ds. ranges_miss (sum_range (ints_at c.args 0) ds) (range_of m m)) (lefts_written at c.args 1)))

-- where there is room, it refutes none
not_over : (m f t s : ℤ) → t ≤ℤ (f +ℤ s) → (f +ℤ s) ≤ℤ m → int_lt m t ≡ false
not_over m f t s h k = grind (arith, ints)

not_under : (m f t s : ℤ) → f ≤ℤ (t +ℤ s) → (m +ℤ s) ≤ℤ f → int_lt t m ≡ false
not_under m f t s h k = grind (arith, ints)

pub roomy : (takes : Takes) (c : Rule) (b : Bool) (m s : ℤ) (box : Box) → c.pred ≡ cond b IntLinEq IntLinLe → arg_at c.args 2 ≡ Num m → pos 0 ≤ℤ s → has_repeat (args_at c.args 1) ≡ false → AreNear (takes c) s (ints_at c.args 0) (args_at c.args 1) box →
    ((sum_range (ints_at c.args 0) (map (left_to box) (args_at c.args 1))).from +ℤ s) ≤ℤ m → (b ≡ true → (m +ℤ s) ≤ℤ (sum_range (ints_at c.args 0) (map (left_to box) (args_at c.args 1))).to) → SparesTaken takes c box
roomy takes c b m s box e n z r f under over = record {
  whole = by b e over box (close_same s z whole);
  least = λ x own taken. at x taken (least_value (values_left box x)) (inl refl);
  greatest = λ x own taken. at x taken (greatest_value (values_left box x)) (inr refl);
}
  where
    sums : Box → Range
    sums d = sum_range (ints_at c.args 0) (map (left_to d) (args_at c.args 1))

    whole : Range
    whole = sums box

    by : (b : Bool) → c.pred ≡ cond b IntLinEq IntLinLe → (b ≡ true → (m +ℤ s) ≤ℤ whole.to) → (d : Box) → IsClose s (sums d) whole → refuted_by c d ≡ false
    by true e o d h = equal_is c m d e n ∙ or_from (int_lt (sums d).to m) (int_lt m (sums d).from) (not_under m whole.to (sums d).to s h.to (o refl)) (not_over m whole.from (sums d).from s h.from under)
    by false e o d h = at_most_is c m d e n ∙ not_over m whole.from (sums d).from s h.from under

    at : (x : ℕ) → takes c x ≡ true → (v : ℤ) → (v ≡ least_value (values_left box x)) ⊎ (v ≡ greatest_value (values_left box x)) → refutes_at c box x v ≡ false
    at x taken v w = by b e over (box_at box x v) (sum_close (takes c) s z box x taken v w (ints_at c.args 0) (args_at c.args 1) r f)

-- one term more
got : {X : Type 0} (xs : List X) (k : ℕ) (d x : X) → slice_get xs k ≡ Some x → get_or xs k d ≡ x
got [] k d x h = cc
got (y ∷ xs) zero d x h = same_Some y x h
got (y ∷ xs) (suc k) d x h = got xs k d x h

pub below : {X : Type 0} (xs : List X) (k : ℕ) (x : X) → slice_get xs k ≡ Some x → k < length xs
below [] k x h = cc
below (y ∷ xs) zero x h = omega arith
below (y ∷ xs) (suc k) x h = let l = below xs k x h in omega arith

pub near_more : (ok : ℕ → Bool) (s : ℤ) (k : ℕ) (ns : List ℤ) (xs : List Arg) (box : Box) (m : ℤ) (d : Arg) → ((i : ℕ) (n : ℤ) (a : Arg) → i < k → slice_get ns i ≡ Some n → slice_get xs i ≡ Some a → is_taken ok a ≡ true → IsNear s n (left_to box a)) →
    (is_taken ok (get_or xs k d) ≡ true → IsNear s (get_or ns k m) (left_to box (get_or xs k d))) →
    (i : ℕ) (n : ℤ) (a : Arg) → i < k + 1 → slice_get ns i ≡ Some n → slice_get xs i ≡ Some a → is_taken ok a ≡ true → IsNear s n (left_to box a)
near_more ok s k ns xs box m d f h i n a l p q =
    elim (last_or_before i k l) [
      | inl b ↦ f i n a b p q
      | inr e ↦
          subst (λ z. is_taken ok a ≡ true → IsNear s z (left_to box a)) (got ns k m n (subst (λ j. slice_get ns j ≡ Some n) e p))
          (subst (λ z. is_taken ok z ≡ true → IsNear s (get_or ns k m) (left_to box z)) (got xs k d a (subst (λ j. slice_get xs j ≡ Some a) e q)) h)
    ]

pub near_of : (s n p q u v : ℤ) (d : Values) → p ≡ n *ℤ u → q ≡ n *ℤ v → u ≡ least_value d → v ≡ greatest_value d → q ≤ℤ (p +ℤ s) → p ≤ℤ (q +ℤ s) → IsNear s n d
near_of s n p q u v d a b e f up down =
    let low : p ≡ n *ℤ least_value d = a ∙ ap (λ z. n *ℤ z) e in
    let high : q ≡ n *ℤ greatest_value d = b ∙ ap (λ z. n *ℤ z) f in
    record {
      up = subst (λ z. z ≤ℤ ((n *ℤ least_value d) +ℤ s)) high (subst (λ z. q ≤ℤ (z +ℤ s)) low up);
      down = subst (λ z. z ≤ℤ ((n *ℤ greatest_value d) +ℤ s)) low (subst (λ z. p ≤ℤ (z +ℤ s)) high down);
    }

pub near_wider : (s t n : ℤ) (d : Values) → s ≤ℤ t → IsNear s n d → IsNear t n d
near_wider s t n d l h = record { up = more (n *ℤ greatest_value d) (n *ℤ least_value d) h.up; down = more (n *ℤ least_value d) (n *ℤ greatest_value d) h.down }
  where
    more : (a b : ℤ) → a ≤ℤ (b +ℤ s) → a ≤ℤ (b +ℤ t)
    more a b h = omega (arith, ints)

pub near_width : (s n : ℤ) (d : Values) (f t : ℤ) → range_of f t ≡ product (point n) (span d) → (t -ℤ f) ≤ℤ s → IsNear s n d
near_width s n d f t e h =
    let from : f ≡ (product (point n) (span d)).from = ap (λ (r : Range). r.from) e in
    let to : t ≡ (product (point n) (span d)).to = ap (λ (r : Range). r.to) e in
    record { up = up (n *ℤ least_value d) (n *ℤ greatest_value d) from to; down = down (n *ℤ least_value d) (n *ℤ greatest_value d) from to }
  where
    up : (p q : ℤ) → f ≡ int_min p (int_min q (int_min p q)) → t ≡ int_max p (int_max q (int_max p q)) → q ≤ℤ (p +ℤ s)
    up p q a b = omega (arith, ints, clamps)

    down : (p q : ℤ) → f ≡ int_min p (int_min q (int_min p q)) → t ≡ int_max p (int_max q (int_max p q)) → p ≤ℤ (q +ℤ s)
    down p q a b = omega (arith, ints, clamps)

pub as_bound : (a b : ℤ) → int_le a b ≡ true → a ≤ℤ b
as_bound a b h = grind (arith, ints)

pub near_taken : (ok : ℕ → Bool) (s t : ℤ) (ns : List ℤ) (xs : List Arg) (box : Box) → s ≤ℤ t → AllNear s ns xs box → AreNear ok t ns xs box
near_taken ok s t ns xs box l h = λ i n a p q w. near_wider s t n (left_to box a) l (h i n a p q (any a w))
  where
    any : (a : Arg) → is_taken ok a ≡ true → is_taken (λ x. true) a ≡ true
    any (Var x) w = refl
    any (Num n) w = w

-- the room that is left
pub room_left : (low high u r : ℤ) → (pos 0 ≤ℤ u → u ≤ℤ (high -ℤ low)) → r ≤ℤ u → pos 0 ≤ℤ r → (low +ℤ r) ≤ℤ high
room_left low high u r h l z = let k = h (let m = l in omega (arith, ints)) in omega (arith, ints)

pub room_tight : (low high u : ℤ) → (high -ℤ low) ≤ℤ u → high ≤ℤ (low +ℤ u)
room_tight low high u h = omega (arith, ints)

pub room_less : (low high u s : ℤ) → (pos 0 ≤ℤ u → (low +ℤ u) ≤ℤ high) → s ≤ℤ u → pos 0 ≤ℤ s → (low +ℤ s) ≤ℤ high
room_less low high u s h l z = let k = h (let m = l in omega (arith, ints)) in omega (arith, ints)

pub same_bound : (a b : ℤ) → Num a ≡ Num b → a ≡ b
same_bound a b e = cc
