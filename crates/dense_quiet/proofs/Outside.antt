-- Values of an argument that go because they are past what is left to the others.
use Rattle.std.proofs.Common.{◌≡◌, inl, inr, ℕ, ◌≤◌, ◌^◌, Bool, true, false, ◌||◌, set, sym, ap, ◌∙◌, subst, arith, ℤ}
use Rattle.std.specs.Prelude.{pos, negsuc, ◌+ℤ◌, ◌-ℤ◌, ◌≤ℤ◌, ◌<ℤ◌, int_lt, unsigned_abs}
use Rattle.std.proofs.lemmas.Int.{ints}
use Rattle.std.proofs.lemmas.Bool.{or_left, or_right, false_from_ne_true}
use Rattle.qc_model.specs.declared.problem.Arg.{Arg}
use Rattle.qc_model.specs.Arguments.{variables_of}
use Rattle.qc_model.specs.Content.{Rule}
use Rattle.qc_model.specs.Domains.{Values, Box, least_value, greatest_value}
use Rattle.qc_model.specs.Left.{Lefts, left_at, span}
use Rattle.qc_model.specs.Lists.{Distinct}
use Rattle.qc_model.specs.Meaning.{Meaning, meaning_of}
use Rattle.qc_model.specs.Ranges.{Range, range_of, ranges_miss, range_sum}
use Rattle.qc_model.specs.Refuted.{left_to, refuted_as, refuted_by}
use Rattle.qc_model.proofs.Sound.{differ}
use Rattle.model_arguments.specs.Repeats.{is_variable, same_variable}
use Rattle.model_arguments.specs.Written.{arg_at}
use Rattle.qc_model.specs.Valid.{is_number}
use Rattle.model_arguments.proofs.Kept.{lower, is_lower, over_low, under_high}
use Rattle.model_arguments.proofs.Values.{value_passes, has_least, has_greatest}
use Rattle.dense_quiet.specs.declared.relating.Relation.{Relation}
use Rattle.dense_quiet.specs.declared.relating.Relation.TheVariants.{Sum}
use Rattle.dense_quiet.specs.Guessing.{PassesOutside, KeepsOneOf, IsKept, range_less}
use Rattle.dense_quiet.specs.Quiet.{by_spans, refuted_in, meaning_in}
use Rattle.dense_quiet.proofs.OneEnd.{args_apart, not_both, three_is}
use Rattle.dense_quiet.proofs.Related.{by_ranges}
use Rattle.dense_quiet.proofs.Spread.{kept_left, own_left}

-- where values of one argument pass the test with what is left to the others, the constraint refutes them
not_first : (a b : Arg) (x : ℕ) → is_variable b x ≡ true → same_variable a b ≡ false → is_variable a x ≡ false
not_first a b x h n = false_from_ne_true (is_variable a x) (λ q. differ (sym (not_both a b x q n) ∙ h))

module _ (test : Values → Values → Values → Bool) (r : Rule) (box : Box) (x : ℕ) (a b c : Arg) (low high : ℤ) (is : (at : Box) → refuted_by r at ≡ test (left_to at a) (left_to at b) (left_to at c)) where
  moved : (at : Box) (p q s : Values) → left_to at a ≡ p → left_to at b ≡ q → left_to at c ≡ s → test p q s ≡ true → refuted_by r at ≡ true
  moved at p q s i j k h = is at ∙ (ap (λ z. test z (left_to at b) (left_to at c)) i ∙ (ap (λ z. test p z (left_to at c)) j ∙ (ap (λ z. test p q z) k ∙ h)))

  pub one_kept : same_variable a b ≡ false → same_variable a c ≡ false → same_variable b c ≡ false → KeepsOneOf test x a b c box low high → IsKept r x box low high
  one_kept ab ac bc (inl k) = record {
    below = λ vs some left p.
        let own = own_left box x vs a k.own left in
        moved (set box x vs) vs (left_to box b) (left_to box c) own.0 (kept_left box x vs b (not_both a b x k.own ab)) (kept_left box x vs c (not_both a c x k.own ac)) (k.outside.below vs some own.1 p);
    above = λ vs some left p.
        let own = own_left box x vs a k.own left in
        moved (set box x vs) vs (left_to box b) (left_to box c) own.0 (kept_left box x vs b (not_both a b x k.own ab)) (kept_left box x vs c (not_both a c x k.own ac)) (k.outside.above vs some own.1 p);
  }
  one_kept ab ac bc (inr (inl k)) = record {
    below = λ vs some left p.
        let own = own_left box x vs b k.own left in
        moved (set box x vs) (left_to box a) vs (left_to box c) (kept_left box x vs a (not_first a b x k.own ab)) own.0 (kept_left box x vs c (not_both b c x k.own bc)) (k.outside.below vs some own.1 p);
    above = λ vs some left p.
        let own = own_left box x vs b k.own left in
        moved (set box x vs) (left_to box a) vs (left_to box c) (kept_left box x vs a (not_first a b x k.own ab)) own.0 (kept_left box x vs c (not_both b c x k.own bc)) (k.outside.above vs some own.1 p);
  }
  one_kept ab ac bc (inr (inr k)) = record {
    below = λ vs some left p.
        let own = own_left box x vs c k.own left in
        moved (set box x vs) (left_to box a) (left_to box b) vs (kept_left box x vs a (not_first a c x k.own ac)) (kept_left box x vs b (not_first b c x k.own bc)) own.0 (k.outside.below vs some own.1 p);
    above = λ vs some left p.
        let own = own_left box x vs c k.own left in
        moved (set box x vs) (left_to box a) (left_to box b) vs (kept_left box x vs a (not_first a c x k.own ac)) (kept_left box x vs b (not_first b c x k.own bc)) own.0 (k.outside.above vs some own.1 p);
  }

pub three_kept : (m : Meaning) (test : Values → Values → Values → Bool) → ((ls : Lefts) → refuted_as m ls ≡ test (left_at ls 0) (left_at ls 1) (left_at ls 2)) → (r : Rule) (box : Box) (x : ℕ) (low high : ℤ) → meaning_of r.pred ≡ m → Distinct (variables_of r.args) →
    KeepsOneOf test x (arg_at r.args 0) (arg_at r.args 1) (arg_at r.args 2) box low high → IsKept r x box low high
three_kept m test means r box x low high e d k =
    one_kept test r box x (arg_at r.args 0) (arg_at r.args 1) (arg_at r.args 2) low high (three_is m test means r e) (args_apart r.args 0 1 (omega arith) d) (args_apart r.args 0 2 (omega arith) d) (args_apart r.args 1 2 (omega arith) d) k

pub relation_kept : (s : Relation) (r : Rule) (box : Box) (x : ℕ) (low high : ℤ) → meaning_of r.pred ≡ meaning_in s → Distinct (variables_of r.args) → KeepsOneOf (by_spans (refuted_in s)) x (arg_at r.args 0) (arg_at r.args 1) (arg_at r.args 2) box low high →
    IsKept r x box low high
relation_kept s r box x low high e d k = three_kept (meaning_in s) (by_spans (refuted_in s)) (by_ranges s) r box x low high e d k

-- a test of ranges that passes for those that end below low, and for those that begin above high
pub by_ends : (test : Range → Bool) (d : Values) (low high : ℤ) → ((p q : ℤ) → q <ℤ low → test (range_of p q) ≡ true) → ((p q : ℤ) → high <ℤ p → test (range_of p q) ≡ true) → PassesOutside (λ vs. test (span vs)) d low high
by_ends test d low high f g = record {
  below = λ vs some left b. f (least_value vs) (greatest_value vs) (lower (greatest_value vs) low (value_passes (λ v. int_lt v low) vs (greatest_value vs) b (has_greatest vs some)));
  above = λ vs some left a. g (least_value vs) (greatest_value vs) (lower high (least_value vs) (value_passes (λ v. int_lt high v) vs (least_value vs) a (has_least vs some)));
}

-- a term of a sum is from the difference of its ends and those of the other, and the sum from the sum of the ends
misses_left : (a b c d : ℤ) → a <ℤ b → (int_lt a b || int_lt c d) ≡ true
misses_left a b c d h = or_left (int_lt a b) (int_lt c d) (is_lower a b h)

misses_right : (a b c d : ℤ) → c <ℤ d → (int_lt a b || int_lt c d) ≡ true
misses_right a b c d h = or_right (int_lt a b) (int_lt c d) (is_lower c d h)

-- differences of numbers within the limit
pub difference_small : (a b : ℤ) → is_number a ≡ true → is_number b ≡ true → unsigned_abs (a -ℤ b) ≤ 10 ^ 10
difference_small a b h k = by (over_low a h) (under_high a h) (over_low b k) (under_high b k)
  where
    by : negsuc 999999999 ≤ℤ a → a ≤ℤ pos 1000000000 → negsuc 999999999 ≤ℤ b → b ≤ℤ pos 1000000000 → unsigned_abs (a -ℤ b) ≤ 10 ^ 10
    by p q r s = omega (arith, ints)

first_outside : (d : Values) (b c : Range) → PassesOutside (λ vs. ranges_miss (range_sum (span vs) b) c) d (c.from -ℤ b.to) (c.to -ℤ b.from)
first_outside d b c =
    by_ends (λ r. ranges_miss (range_sum r b) c) d (c.from -ℤ b.to) (c.to -ℤ b.from) (λ p q h. misses_left (q +ℤ b.to) c.from c.to (p +ℤ b.from) (under q b.to c.from h)) (λ p q h. misses_right (q +ℤ b.to) c.from c.to (p +ℤ b.from) (over p b.from c.to h))
  where
    under : (q n m : ℤ) → q <ℤ (m -ℤ n) → (q +ℤ n) <ℤ m
    under q n m h = omega (arith, ints)

    over : (p n m : ℤ) → (m -ℤ n) <ℤ p → m <ℤ (p +ℤ n)
    over p n m h = omega (arith, ints)

second_outside : (d : Values) (a c : Range) → PassesOutside (λ vs. ranges_miss (range_sum a (span vs)) c) d (c.from -ℤ a.to) (c.to -ℤ a.from)
second_outside d a c =
    by_ends (λ r. ranges_miss (range_sum a r) c) d (c.from -ℤ a.to) (c.to -ℤ a.from) (λ p q h. misses_left (a.to +ℤ q) c.from c.to (a.from +ℤ p) (under q a.to c.from h)) (λ p q h. misses_right (a.to +ℤ q) c.from c.to (a.from +ℤ p) (over p a.from c.to h))
  where
    under : (q n m : ℤ) → q <ℤ (m -ℤ n) → (n +ℤ q) <ℤ m
    under q n m h = omega (arith, ints)

    over : (p n m : ℤ) → (m -ℤ n) <ℤ p → m <ℤ (n +ℤ p)
    over p n m h = omega (arith, ints)

sum_outside : (d : Values) (a b : Range) → PassesOutside (λ vs. ranges_miss (range_sum a b) (span vs)) d (a.from +ℤ b.from) (a.to +ℤ b.to)
sum_outside d a b =
    by_ends (λ r. ranges_miss (range_sum a b) r) d (a.from +ℤ b.from) (a.to +ℤ b.to) (λ p q h. misses_right (a.to +ℤ b.to) p q (a.from +ℤ b.from) h) (λ p q h. misses_left (a.to +ℤ b.to) p q (a.from +ℤ b.from) h)

-- by the ranges that were read
module _ (x : ℕ) (a b c : Arg) (box : Box) where
  abbrev Kept : Range → Type 0
  Kept s = KeepsOneOf (by_spans (refuted_in Sum)) x a b c box s.from s.to

  pub first_kept : (p q s : Range) → is_variable a x ≡ true → p ≡ span (left_to box b) → q ≡ span (left_to box c) → s ≡ range_less q p → Kept s
  first_kept p q s own i j e =
      subst Kept (sym (e ∙ (ap (λ z. range_less z p) j ∙ ap (range_less (span (left_to box c))) i)))
      (inl (record { own = own; outside = first_outside (left_to box a) (span (left_to box b)) (span (left_to box c)) }))

  pub second_kept : (p q s : Range) → is_variable b x ≡ true → p ≡ span (left_to box a) → q ≡ span (left_to box c) → s ≡ range_less q p → Kept s
  second_kept p q s own i j e =
      subst Kept (sym (e ∙ (ap (λ z. range_less z p) j ∙ ap (range_less (span (left_to box c))) i)))
      (inr (inl (record { own = own; outside = second_outside (left_to box b) (span (left_to box a)) (span (left_to box c)) })))

  pub sum_kept : (p q s : Range) → is_variable c x ≡ true → p ≡ span (left_to box a) → q ≡ span (left_to box b) → s ≡ range_sum p q → Kept s
  sum_kept p q s own i j e =
      subst Kept (sym (e ∙ (ap (λ z. range_sum z q) i ∙ ap (range_sum (span (left_to box a))) j)))
      (inr (inr (record { own = own; outside = sum_outside (left_to box c) (span (left_to box a)) (span (left_to box b)) })))
