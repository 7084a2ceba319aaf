-- The first law for different, times, absolute value, member, exactly one and odd items.
use Rattle.std.proofs.Common.{◌≡◌, Bool, true, false, ◌&&◌, not, cond, List, map, refl, sym, ◌∙◌, subst, arith}
use Rattle.std.specs.Prelude.{ℤ, pos, int_le, ◌*ℤ◌}
use Rattle.std.specs.Ordering.{int_eq}
use Rattle.std.specs.Int.{int_max}
use Rattle.std.specs.List.{list_any, list_all}
use Rattle.std.proofs.lemmas.Int.{ints, clamps}
use Rattle.std.proofs.lemmas.Bool.Decides.{Decides-int_eq}
use Rattle.std.proofs.lemmas.Bool.{and_parts}
use Rattle.qc_model.specs.declared.problem.Set.{Set}
use Rattle.qc_model.specs.Domains.{Values, least_value, is_single, set_has}
use Rattle.qc_model.specs.Ranges.{Range, range_of, product, absolute, absolute_range}
use Rattle.qc_model.specs.Arguments.{members}
use Rattle.qc_model.specs.Meaning.{different, times, absolute_value, member, exactly_one, odd_items}
use Rattle.qc_model.specs.Holds.{Given, value_at, values_at, holds_as, odd_ones, same_truth, is_one}
use Rattle.qc_model.specs.Left.{Lefts, left_at, lefts_at, range_at}
use Rattle.qc_model.specs.Refuted.{refuted_as}
use Rattle.qc_model.proofs.Visible.{Fits, one_fits}
use Rattle.qc_model.proofs.Sound.{InRange, at_range, apart, result_apart, not_true}
use Rattle.model_table.proofs.Products.{times_in}
use Rattle.model_table.proofs.Fits.{many_fits, members_fit, only_value, only_values, any_from, both_false}
use Rattle.model_table.proofs.Sums.{same_number}

-- and_parts are single and equal
pub one_value_same : (vs : Given) (ds : Lefts) → Fits vs ds → (is_single (left_at ds 0) && is_single (left_at ds 1) && int_eq (least_value (left_at ds 0)) (least_value (left_at ds 1))) ≡ true → value_at vs 0 ≡ value_at vs 1
one_value_same vs ds f r =
    let p = and_parts (is_single (left_at ds 0) && is_single (left_at ds 1)) (int_eq (least_value (left_at ds 0)) (least_value (left_at ds 1))) r in
    let q = and_parts (is_single (left_at ds 0)) (is_single (left_at ds 1)) p.0 in
    only_value (value_at vs 0) (left_at ds 0) q.0 (one_fits vs ds 0 f) ∙ same_number (least_value (left_at ds 0)) (least_value (left_at ds 1)) p.1 ∙ sym (only_value (value_at vs 1) (left_at ds 1) q.1 (one_fits vs ds 1 f))

pub different_sound : (vs : Given) (ds : Lefts) → Fits vs ds → refuted_as different ds ≡ true → holds_as different vs ≡ true → ⊥
different_sound vs ds f r h =
    not_true (int_eq (value_at vs 0) (value_at vs 1)) h ((Decides-int_eq (value_at vs 0) (value_at vs 1)).1 (one_value_same vs ds f r))

pub times_sound : (vs : Given) (ds : Lefts) → Fits vs ds → refuted_as times ds ≡ true → holds_as times vs ≡ true → ⊥
times_sound vs ds f r h = result_apart ◌*ℤ◌ product times_in vs ds f r h

pub absolute_in : (u : ℤ) (a : Range) → InRange u a → InRange (absolute u) (absolute_range a)
absolute_in u a h = by (int_le (pos 0) a.from) refl (int_le a.to (pos 0)) refl
  where
    by : (b : Bool) → int_le (pos 0) a.from ≡ b → (c : Bool) → int_le a.to (pos 0) ≡ c → InRange (absolute u) (cond b a (cond c (range_of (absolute a.to) (absolute a.from)) (range_of (pos 0) (int_max (absolute a.from) a.to))))
    by true e c f = record { low = omega (arith, ints, h.low, h.high); high = omega (arith, ints, h.low, h.high) }
    by false e true f = record { low = omega (arith, ints, h.low, h.high); high = omega (arith, ints, h.low, h.high) }
    by false e false f = record { low = omega (arith, ints); high = omega (arith, ints, clamps, h.low, h.high) }

pub absolute_value_sound : (vs : Given) (ds : Lefts) → Fits vs ds → refuted_as absolute_value ds ≡ true → holds_as absolute_value vs ≡ true → ⊥
absolute_value_sound vs ds f r h =
    apart (value_at vs 1) (absolute_range (range_at ds 0)) (range_at ds 1) r
    (subst (λ (n : ℤ). InRange n (absolute_range (range_at ds 0))) (same_number (absolute (value_at vs 0)) (value_at vs 1) h)
    (absolute_in (value_at vs 0) (range_at ds 0) (at_range vs ds 0 f)))
    (at_range vs ds 1 f)

pub member_sound : (vs : Given) (ds : Lefts) → Fits vs ds → refuted_as member ds ≡ true → holds_as member vs ≡ true → ⊥
member_sound vs ds f r h =
    not_true (list_any (set_has (members ds 1)) (left_at ds 0)) r
    (any_from (set_has (members ds 1)) (left_at ds 0) (value_at vs 0) (one_fits vs ds 0 f)
    (subst (λ (s : Set). set_has s (value_at vs 0) ≡ true) (members_fit vs ds 1 f) h))

abbrev xor_holds : ℤ → ℤ → ℤ → Bool
xor_holds a b c = same_truth (is_one c) (not (int_eq a b))

pub exactly_one_sound : (vs : Given) (ds : Lefts) → Fits vs ds → refuted_as exactly_one ds ≡ true → holds_as exactly_one vs ≡ true → ⊥
exactly_one_sound vs ds f r h =
    let p = and_parts (is_single d && is_single e && is_single g) (not (xor_holds (least_value d) (least_value e) (least_value g))) r in
    let q = and_parts (is_single d && is_single e) (is_single g) p.0 in
    let s = and_parts (is_single d) (is_single e) q.0 in
    let x = only_value (value_at vs 0) d s.0 (one_fits vs ds 0 f) in
    let y = only_value (value_at vs 1) e s.1 (one_fits vs ds 1 f) in
    let z = only_value (value_at vs 2) g q.1 (one_fits vs ds 2 f) in
    both_false (xor_holds (least_value d) (least_value e) (least_value g))
    (subst (λ (n : ℤ). xor_holds (least_value d) (least_value e) n ≡ true) z
    (subst (λ (n : ℤ). xor_holds (least_value d) n (value_at vs 2) ≡ true) y
    (subst (λ (n : ℤ). xor_holds n (value_at vs 1) (value_at vs 2) ≡ true) x h))) p.1
  where
    d : Values
    d = left_at ds 0

    e : Values
    e = left_at ds 1

    g : Values
    g = left_at ds 2

pub odd_items_sound : (vs : Given) (ds : Lefts) → Fits vs ds → refuted_as odd_items ds ≡ true → holds_as odd_items vs ≡ true → ⊥
odd_items_sound vs ds f r h =
    let p = and_parts (list_all is_single (lefts_at ds 0)) (not (odd_ones (map least_value (lefts_at ds 0)))) r in
    both_false (odd_ones (map least_value (lefts_at ds 0)))
    (subst (λ (xs : List ℤ). odd_ones xs ≡ true) (only_values (values_at vs 0) (lefts_at ds 0) p.0 (many_fits vs ds 0 f)) h) p.1
