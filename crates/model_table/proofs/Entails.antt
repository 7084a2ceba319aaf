-- Where a meaning is entailed by what is left, all values among those left have it.
use Rattle.std.proofs.Common.{◌≡◌, inl, inr, Bool, true, List, [], ◌∷◌, refl, sym, ap, ◌∙◌, subst, arith}
use Rattle.std.specs.Prelude.{ℤ, pos, int_lt, int_le}
use Rattle.std.specs.Ordering.{int_eq}
use Rattle.std.specs.List.{list_any}
use Rattle.std.proofs.lemmas.Int.{ints}
use Rattle.std.proofs.lemmas.Bool.Decides.{Decides-int_eq}
use Rattle.std.proofs.lemmas.Bool.{or_cases, or_left, or_right, true_from_ne_false}
use Rattle.qc_model.specs.declared.problem.Set.{Set}
use Rattle.qc_model.specs.Lists.{LiesIn}
use Rattle.qc_model.specs.Domains.{Values, least_value, set_has}
use Rattle.qc_model.specs.Arguments.{members}
use Rattle.qc_model.specs.Meaning.{Meaning, equal, different, at_most, below, sum_equal, sum_different, sum_at_most, member, clause}
use Rattle.qc_model.specs.Holds.{Given, value_at, values_at, holds_as, is_one, is_zero}
use Rattle.qc_model.specs.Left.{Lefts, left_at, lefts_at, is_only}
use Rattle.qc_model.specs.Entailed.{entailed_as}
use Rattle.qc_model.proofs.Visible.{Fits, one_fits}
use Rattle.qc_model.proofs.Sound.{lo_of, hi_of, equal_sound, differ}
use Rattle.model_table.proofs.Fits.{many_fits, members_fit, all_at, not_unless}
use Rattle.model_table.proofs.Typing.{Kinds, IsLiteral}
use Rattle.model_table.proofs.Sums.{given_sum_in, sum_given, point_sum, sum_equal_sound}
use Rattle.model_table.proofs.Compared.{one_value_same}
use Rattle.model_table.proofs.Truths.{only_is}

equal_entails : (vs : Given) (ds : Lefts) → Fits vs ds → entailed_as equal ds ≡ true → holds_as equal vs ≡ true
equal_entails vs ds f e = (Decides-int_eq (value_at vs 0) (value_at vs 1)).1 (one_value_same vs ds f e)

different_entails : (vs : Given) (ds : Lefts) → Fits vs ds → entailed_as different ds ≡ true → holds_as different vs ≡ true
different_entails vs ds f e = not_unless (int_eq (value_at vs 0) (value_at vs 1)) (λ h. equal_sound vs ds f e h)

at_most_entails : (vs : Given) (ds : Lefts) → Fits vs ds → entailed_as at_most ds ≡ true → holds_as at_most vs ≡ true
at_most_entails vs ds f e =
    let high = hi_of (value_at vs 0) (left_at ds 0) (one_fits vs ds 0 f) in
    let low = lo_of (value_at vs 1) (left_at ds 1) (one_fits vs ds 1 f) in
    true_from_ne_false (int_le (value_at vs 0) (value_at vs 1)) (λ n. omega (arith, ints))

below_entails : (vs : Given) (ds : Lefts) → Fits vs ds → entailed_as below ds ≡ true → holds_as below vs ≡ true
below_entails vs ds f e =
    let high = hi_of (value_at vs 0) (left_at ds 0) (one_fits vs ds 0 f) in
    let low = lo_of (value_at vs 1) (left_at ds 1) (one_fits vs ds 1 f) in
    true_from_ne_false (int_lt (value_at vs 0) (value_at vs 1)) (λ n. omega (arith, ints))

sum_equal_entails : (vs : Given) (ds : Lefts) → IsLiteral vs ds 2 → Fits vs ds → entailed_as sum_equal ds ≡ true → holds_as sum_equal vs ≡ true
sum_equal_entails vs ds l f e =
    (Decides-int_eq (sum_given vs) (value_at vs 2)).1 (point_sum vs ds (least_value (left_at ds 2)) f e ∙ ap least_value l)

sum_different_entails : (vs : Given) (ds : Lefts) → Fits vs ds → entailed_as sum_different ds ≡ true → holds_as sum_different vs ≡ true
sum_different_entails vs ds f e = not_unless (int_eq (sum_given vs) (value_at vs 2)) (λ h. sum_equal_sound vs ds f e h)

sum_at_most_entails : (vs : Given) (ds : Lefts) → Fits vs ds → entailed_as sum_at_most ds ≡ true → holds_as sum_at_most vs ≡ true
sum_at_most_entails vs ds f e =
    let s = given_sum_in vs ds f in
    let low = lo_of (value_at vs 2) (left_at ds 2) (one_fits vs ds 2 f) in
    true_from_ne_false (int_le (sum_given vs) (value_at vs 2)) (λ n. omega (arith, ints, s.high))

member_entails : (vs : Given) (ds : Lefts) → Fits vs ds → entailed_as member ds ≡ true → holds_as member vs ≡ true
member_entails vs ds f e =
    subst (λ (s : Set). set_has s (value_at vs 0) ≡ true) (sym (members_fit vs ds 1 f))
    (all_at (set_has (members ds 1)) (left_at ds 0) (value_at vs 0) e (one_fits vs ds 0 f))

only_passes : (n : ℤ) (p : ℤ → Bool) → p n ≡ true → (vs : List ℤ) (ds : List Values) → LiesIn vs ds → list_any (is_only n) ds ≡ true → list_any p vs ≡ true
only_passes n p e [] [] h o = absurd (differ o)
only_passes n p e [] (d ∷ ds) h o = absurd h
only_passes n p e (v ∷ vs) [] h o = absurd h
only_passes n p e (v ∷ vs) (d ∷ ds) h o =
    elim (or_cases (is_only n d) (list_any (is_only n) ds) o) [
      | inl q ↦ or_left (p v) (list_any p vs) (ap p (only_is n v d q h.0) ∙ e)
      | inr m ↦ or_right (p v) (list_any p vs) (only_passes n p e vs ds h.1 m)
    ]

clause_entails : (vs : Given) (ds : Lefts) → Fits vs ds → entailed_as clause ds ≡ true → holds_as clause vs ≡ true
clause_entails vs ds f e =
    elim (or_cases (list_any (is_only (pos 1)) (lefts_at ds 0)) (list_any (is_only (pos 0)) (lefts_at ds 1)) e) [
      | inl q ↦ or_left (list_any is_one (values_at vs 0)) (list_any is_zero (values_at vs 1)) (only_passes (pos 1) is_one refl (values_at vs 0) (lefts_at ds 0) (many_fits vs ds 0 f) q)
      | inr q ↦ or_right (list_any is_one (values_at vs 0)) (list_any is_zero (values_at vs 1)) (only_passes (pos 0) is_zero refl (values_at vs 1) (lefts_at ds 1) (many_fits vs ds 1 f) q)
    ]

pub entails : (m : Meaning) (vs : Given) (ds : Lefts) → Kinds m vs ds → Fits vs ds → entailed_as m ds ≡ true → holds_as m vs ≡ true
entails equal vs ds k f e = equal_entails vs ds f e
entails different vs ds k f e = different_entails vs ds f e
entails at_most vs ds k f e = at_most_entails vs ds f e
entails below vs ds k f e = below_entails vs ds f e
entails sum_equal vs ds k f e = sum_equal_entails vs ds k f e
entails sum_different vs ds k f e = sum_different_entails vs ds f e
entails sum_at_most vs ds k f e = sum_at_most_entails vs ds f e
entails member vs ds k f e = member_entails vs ds f e
entails clause vs ds k f e = clause_entails vs ds f e
entails m vs ds k f e = absurd (differ e)
