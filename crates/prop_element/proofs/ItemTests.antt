-- The ranges of the least and of the greatest item, by two tests.
use Rattle.std.proofs.Common.{◌≡◌, ◌<◌, Bool, true, false, not, ◌&&◌, ◌||◌, List, [], ◌∷◌, length, map, refl, ap, ◌∙◌, arith, ℤ}
use Rattle.std.specs.Prelude.{int_le, int_lt}
use Rattle.std.specs.Int.{int_min, int_max}
use Rattle.std.proofs.lemmas.Int.{ints}
use Rattle.qc_model.specs.declared.problem.Arg.{Arg}
use Rattle.qc_model.specs.Domains.{Box, least_value, greatest_value}
use Rattle.qc_model.specs.Left.{span, least_range, greatest_range, least_item_range, greatest_item_range}
use Rattle.qc_model.specs.Ranges.{Range, range_of, ranges_miss}
use Rattle.qc_model.specs.Refuted.{left_to}
use Rattle.prop_element.specs.Extremes.{some_low, all_high, some_high, all_low}

or_false : (a : Bool) → a ≡ (a || false)
or_false true = refl
or_false false = refl

and_true : (a : Bool) → a ≡ (a && true)
and_true true = refl
and_true false = refl

or_turn : (a b c d : Bool) → d ≡ (b || c) → (a || d) ≡ (b || (a || c))
or_turn true true c d h = refl
or_turn true false c d h = refl
or_turn false b c d h = h

and_turn : (a b c d : Bool) → d ≡ (b && c) → (a && d) ≡ (b && (a && c))
and_turn true b c d h = h
and_turn false true c d h = refl
and_turn false false c d h = refl

min_low : (u v b : ℤ) → int_le (int_min u v) b ≡ (int_le u b || int_le v b)
min_low u v b = by (int_le u b) refl (int_le v b) refl
  where
    by : (s : Bool) → int_le u b ≡ s → (t : Bool) → int_le v b ≡ t → int_le (int_min u v) b ≡ (s || t)
    by true h t k = grind (arith, ints)
    by false h true k = grind (arith, ints)
    by false h false k = grind (arith, ints)

min_high : (u v a : ℤ) → int_le a (int_min u v) ≡ (int_le a u && int_le a v)
min_high u v a = by (int_le a u) refl (int_le a v) refl
  where
    by : (s : Bool) → int_le a u ≡ s → (t : Bool) → int_le a v ≡ t → int_le a (int_min u v) ≡ (s && t)
    by true h true k = grind (arith, ints)
    by true h false k = grind (arith, ints)
    by false h t k = grind (arith, ints)

max_high : (u v b : ℤ) → int_le b (int_max u v) ≡ (int_le b u || int_le b v)
max_high u v b = by (int_le b u) refl (int_le b v) refl
  where
    by : (s : Bool) → int_le b u ≡ s → (t : Bool) → int_le b v ≡ t → int_le b (int_max u v) ≡ (s || t)
    by true h t k = grind (arith, ints)
    by false h true k = grind (arith, ints)
    by false h false k = grind (arith, ints)

max_low : (u v a : ℤ) → int_le (int_max u v) a ≡ (int_le u a && int_le v a)
max_low u v a = by (int_le u a) refl (int_le v a) refl
  where
    by : (s : Bool) → int_le u a ≡ s → (t : Bool) → int_le v a ≡ t → int_le (int_max u v) a ≡ (s && t)
    by true h true k = grind (arith, ints)
    by true h false k = grind (arith, ints)
    by false h t k = grind (arith, ints)

least_from : (box : Box) (r : Range) (items : List Arg) (b : ℤ) → int_le (least_range r (map (left_to box) items)).from b ≡ (int_le r.from b || some_low box items b)
least_from box r [] b = or_false (int_le r.from b)
least_from box r (x ∷ items) b =
    min_low (least_value (left_to box x)) (least_range r (map (left_to box) items)).from b
    ∙ or_turn (int_le (least_value (left_to box x)) b) (int_le r.from b) (some_low box items b) (int_le (least_range r (map (left_to box) items)).from b) (least_from box r items b)

least_to : (box : Box) (r : Range) (items : List Arg) (a : ℤ) → int_le a (least_range r (map (left_to box) items)).to ≡ (int_le a r.to && all_high box items a)
least_to box r [] a = and_true (int_le a r.to)
least_to box r (x ∷ items) a =
    min_high (greatest_value (left_to box x)) (least_range r (map (left_to box) items)).to a
    ∙ and_turn (int_le a (greatest_value (left_to box x))) (int_le a r.to) (all_high box items a) (int_le a (least_range r (map (left_to box) items)).to) (least_to box r items a)

greatest_to : (box : Box) (r : Range) (items : List Arg) (b : ℤ) → int_le b (greatest_range r (map (left_to box) items)).to ≡ (int_le b r.to || some_high box items b)
greatest_to box r [] b = or_false (int_le b r.to)
greatest_to box r (x ∷ items) b =
    max_high (greatest_value (left_to box x)) (greatest_range r (map (left_to box) items)).to b
    ∙ or_turn (int_le b (greatest_value (left_to box x))) (int_le b r.to) (some_high box items b) (int_le b (greatest_range r (map (left_to box) items)).to) (greatest_to box r items b)

greatest_from : (box : Box) (r : Range) (items : List Arg) (a : ℤ) → int_le (greatest_range r (map (left_to box) items)).from a ≡ (int_le r.from a && all_low box items a)
greatest_from box r [] a = and_true (int_le r.from a)
greatest_from box r (x ∷ items) a =
    max_low (least_value (left_to box x)) (greatest_range r (map (left_to box) items)).from a
    ∙ and_turn (int_le (least_value (left_to box x)) a) (int_le r.from a) (all_low box items a) (int_le (greatest_range r (map (left_to box) items)).from a) (greatest_from box r items a)

below_not : (u a : ℤ) → int_lt u a ≡ not (int_le a u)
below_not u a = by (int_le a u) refl
  where
    by : (s : Bool) → int_le a u ≡ s → int_lt u a ≡ not s
    by true h = grind (arith, ints)
    by false h = grind (arith, ints)

-- a range misses a to b unless it begins by b and ends from a on
misses_by : (r : Range) (a b : ℤ) (s t : Bool) → int_le r.from b ≡ s → int_le a r.to ≡ t → ranges_miss r (range_of a b) ≡ not (s && t)
misses_by r a b s t h k = ap (λ z. z || int_lt b r.from) (below_not r.to a ∙ ap not k) ∙ (ap (λ z. not t || z) (below_not b r.from ∙ ap not h) ∙ by s t)
  where
    by : (s t : Bool) → (not t || not s) ≡ not (s && t)
    by true true = refl
    by true false = refl
    by false true = refl
    by false false = refl

pub least_tests : (box : Box) (items : List Arg) (a b : ℤ) → 0 < length items → ranges_miss (least_item_range (map (left_to box) items)) (range_of a b) ≡ not (some_low box items b && all_high box items a)
least_tests box [] a b h = absurd (omega arith)
least_tests box (x ∷ items) a b h =
    let d = left_to box x in
    misses_by (least_range (span d) (map (left_to box) items)) a b (some_low box (x ∷ items) b) (all_high box (x ∷ items) a) (least_from box (span d) items b) (least_to box (span d) items a)

pub greatest_tests : (box : Box) (items : List Arg) (a b : ℤ) → 0 < length items → ranges_miss (greatest_item_range (map (left_to box) items)) (range_of a b) ≡ not (some_high box items a && all_low box items b)
greatest_tests box [] a b h = absurd (omega arith)
greatest_tests box (x ∷ items) a b h =
    let d = left_to box x in
    misses_by (greatest_range (span d) (map (left_to box) items)) a b (all_low box (x ∷ items) b) (some_high box (x ∷ items) a) (greatest_from box (span d) items b) (greatest_to box (span d) items a)
    ∙ ap not (and_flip (all_low box (x ∷ items) b) (some_high box (x ∷ items) a))
  where
    and_flip : (s t : Bool) → (s && t) ≡ (t && s)
    and_flip true true = refl
    and_flip true false = refl
    and_flip false true = refl
    and_flip false false = refl
