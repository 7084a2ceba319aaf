-- The first law of the table, for each meaning: what is left is refuted only where no values among it have the meaning.
use Rattle.std.proofs.Common.{◌≡◌, Bool, true, false, ◌||◌, not}
use Rattle.std.specs.Prelude.{ℤ, pos}
use Rattle.std.proofs.lemmas.Bool.{and_parts}
use Rattle.qc_model.specs.Lists.{Among}
use Rattle.qc_model.specs.Domains.{Values, has_value}
use Rattle.qc_model.specs.Meaning.{Meaning, equal, different, at_most, below, sum_equal, sum_different, sum_at_most, plus, times, absolute_value, smaller, greater, quotient, remainder, element, variable_element, minimum, maximum, member, both, either, exactly_one, all_items, some_item, odd_items, clause, all_different, table, reified}
use Rattle.qc_model.specs.Holds.{Given, holds_as, last_value, same_truth, is_one}
use Rattle.qc_model.specs.Left.{Lefts, last_left}
use Rattle.qc_model.specs.Entailed.{entailed_as}
use Rattle.qc_model.specs.Refuted.{refuted_as}
use Rattle.qc_model.proofs.Visible.{Fits}
use Rattle.qc_model.proofs.Sound.{at_most_sound, below_sound, equal_sound, plus_sound, smaller_sound, greater_sound, has_it, or_false}
use Rattle.model_table.proofs.Fits.{last_fits, both_false}
use Rattle.model_table.proofs.Typing.{is_contradicted, Kinds, IsTruth, number_of, by_truth}
use Rattle.model_table.proofs.Sums.{sum_equal_sound, sum_different_sound, sum_at_most_sound}
use Rattle.model_table.proofs.Compared.{different_sound, times_sound, absolute_value_sound, member_sound, exactly_one_sound, odd_items_sound}
use Rattle.model_table.proofs.Truths.{both_sound, either_sound, all_items_sound, some_item_sound, clause_sound}
use Rattle.model_table.proofs.Items.{element_sound, variable_element_sound, minimum_sound, maximum_sound, table_sound}
use Rattle.model_table.proofs.Remainders.{quotient_sound, remainder_sound}
use Rattle.model_table.proofs.Crowded.{all_different_sound}
use Rattle.model_table.proofs.Entails.{entails}

-- a truth value r, which says whether h holds: 1 is left only where the plain meaning isn't refuted, 0 where it isn't entailed
truth_apart : (d : Values) (h refuted entailed : Bool) → (refuted ≡ true → h ≡ true → ⊥) → (entailed ≡ true → h ≡ true) → is_contradicted d refuted entailed ≡ true → (r : ℤ) → IsTruth r → Among r d → same_truth (is_one r) h ≡ true → ⊥
truth_apart d h refuted entailed f g e r t = by_truth (λ (x : ℤ). Among x d → same_truth (is_one x) h ≡ true → ⊥) cases r t
  where
    cases : (b : Bool) → Among (number_of b) d → same_truth (is_one (number_of b)) h ≡ true → ⊥
    cases true m s =
        or_false (not (has_value d (pos 1))) refuted (λ n. both_false (has_value d (pos 1)) (has_it d (pos 1) m) n) (λ q. f q s)
        (and_parts (not (has_value d (pos 1)) || refuted) (not (has_value d (pos 0)) || entailed) e).0
    cases false m s =
        or_false (not (has_value d (pos 0))) entailed (λ n. both_false (has_value d (pos 0)) (has_it d (pos 0) m) n) (λ q. both_false h (g q) s)
        (and_parts (not (has_value d (pos 1)) || refuted) (not (has_value d (pos 0)) || entailed) e).1

pub refutes : (m : Meaning) (vs : Given) (ds : Lefts) → Kinds m vs ds → Fits vs ds → refuted_as m ds ≡ true → holds_as m vs ≡ true → ⊥
refutes equal vs ds k f r h = equal_sound vs ds f r h
refutes different vs ds k f r h = different_sound vs ds f r h
refutes at_most vs ds k f r h = at_most_sound vs ds f r h
refutes below vs ds k f r h = below_sound vs ds f r h
refutes sum_equal vs ds k f r h = sum_equal_sound vs ds f r h
refutes sum_different vs ds k f r h = sum_different_sound vs ds k f r h
refutes sum_at_most vs ds k f r h = sum_at_most_sound vs ds f r h
refutes plus vs ds k f r h = plus_sound vs ds f r h
refutes times vs ds k f r h = times_sound vs ds f r h
refutes absolute_value vs ds k f r h = absolute_value_sound vs ds f r h
refutes smaller vs ds k f r h = smaller_sound vs ds f r h
refutes greater vs ds k f r h = greater_sound vs ds f r h
refutes quotient vs ds k f r h = quotient_sound vs ds f r h
refutes remainder vs ds k f r h = remainder_sound vs ds f r h
refutes element vs ds k f r h = element_sound vs ds f r h
refutes variable_element vs ds k f r h = variable_element_sound vs ds f r h
refutes minimum vs ds k f r h = minimum_sound vs ds f r h
refutes maximum vs ds k f r h = maximum_sound vs ds f r h
refutes member vs ds k f r h = member_sound vs ds f r h
refutes both vs ds k f r h = both_sound vs ds k f r h
refutes either vs ds k f r h = either_sound vs ds k f r h
refutes exactly_one vs ds k f r h = exactly_one_sound vs ds f r h
refutes all_items vs ds k f r h = all_items_sound vs ds k f r h
refutes some_item vs ds k f r h = some_item_sound vs ds k f r h
refutes odd_items vs ds k f r h = odd_items_sound vs ds f r h
refutes clause vs ds k f r h = clause_sound vs ds f r h
refutes all_different vs ds k f r h = all_different_sound vs ds f r h
refutes table vs ds k f r h = table_sound vs ds f r h
refutes (reified m) vs ds k f r h =
    truth_apart (last_left ds) (holds_as m vs) (refuted_as m ds) (entailed_as m ds) (λ q. refutes m vs ds k.1 f q) (λ q. entails m vs ds k.1 f q) r
    (last_value vs) k.0 (last_fits vs ds f) h
