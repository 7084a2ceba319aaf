-- On a box of single values, refuted is exactly "doesn't hold".
use Rattle.std.proofs.Common.{◌≡◌, Bool, true, false, not, List, [], ◌∷◌, map, refl, sym, ap, ◌∙◌, subst, slice_get, Some, length}
use Rattle.std.specs.Prelude.{ℕ, ℤ}
use Rattle.qc_model.specs.Content.{Game, Rule}
use Rattle.qc_model.specs.Domains.{Values, InBox, declared_box}
use Rattle.qc_model.specs.Meaning.{Meaning, equal, different, at_most, below, sum_equal, sum_different, sum_at_most, plus, times, absolute_value, smaller, greater, quotient, remainder, element, variable_element, minimum, maximum, member, both, either, exactly_one, all_items, some_item, odd_items, clause, all_different, table, reified, meaning_of}
use Rattle.qc_model.specs.Holds.{Given, holds_as, holds_on, last_value, same_truth, is_one}
use Rattle.qc_model.specs.Left.{last_left}
use Rattle.qc_model.specs.Entailed.{entailed_as}
use Rattle.qc_model.specs.Refuted.{refuted_as, refuted_by}
use Rattle.qc_model.specs.Valid.{IsValid}
use Rattle.qc_model.specs.Visible.{ArgumentsBelow}
use Rattle.model_table.proofs.Typing.{is_contradicted, Kinds, IsTruth, number_of, by_truth}
use Rattle.model_table.proofs.Typed.{given_of}
use Rattle.model_table.proofs.Kinded.{kinds_of}
use Rattle.model_table.proofs.Ordered.{constraint_at}
use Rattle.model_table.proofs.Refutes.{refutes}
use Rattle.model_table.proofs.Entails.{entails}
use Rattle.model_table.proofs.Singles.{alone, singles, last_single, fit_singles, lefts_alone}
use Rattle.model_table.proofs.SingleNumbers.{equal_single, different_single, at_most_single, below_single, sum_equal_single, sum_different_single, sum_at_most_single, plus_single, times_single, absolute_value_single, smaller_single, greater_single, quotient_single, remainder_single, member_single, exactly_one_single}
use Rattle.model_table.proofs.SingleItems.{element_single, variable_element_single, minimum_single, maximum_single, odd_items_single, all_different_single, table_single}
use Rattle.model_table.proofs.SingleTruths.{both_single, either_single, all_items_single, some_item_single, clause_single, entailed_single}

-- two tests that never both pass, and never both fail
opposite : (r h : Bool) → (r ≡ true → h ≡ true → ⊥) → (h ≡ false → r ≡ true) → r ≡ not h
opposite true true f g = absurd (f refl refl)
opposite true false f g = refl
opposite false true f g = refl
opposite false false f g = g refl

same_tests : (r h : Bool) → (r ≡ true → h ≡ true) → (h ≡ true → r ≡ true) → r ≡ h
same_tests true h f g = sym (f refl)
same_tests false true f g = g refl
same_tests false false f g = refl

-- a truth value that says whether h holds
truth_alone : (d : Values) (r : ℤ) (h refuted entailed : Bool) → IsTruth r → d ≡ alone r → refuted ≡ not h → entailed ≡ h → is_contradicted d refuted entailed ≡ not (same_truth (is_one r) h)
truth_alone d r h refuted entailed t e f g =
    subst (λ (x : Values). is_contradicted x refuted entailed ≡ not (same_truth (is_one r) h)) (sym e)
    (subst (λ (x : Bool). is_contradicted (alone r) x entailed ≡ not (same_truth (is_one r) h)) (sym f)
    (subst (λ (x : Bool). is_contradicted (alone r) (not h) x ≡ not (same_truth (is_one r) h)) (sym g)
    (by_truth (λ (x : ℤ). is_contradicted (alone x) (not h) h ≡ not (same_truth (is_one x) h)) (λ b. cases b h) r t)))
  where
    cases : (b h : Bool) → is_contradicted (alone (number_of b)) (not h) h ≡ not (same_truth (is_one (number_of b)) h)
    cases true true = refl
    cases true false = refl
    cases false true = refl
    cases false false = refl

refuted_alone : (m : Meaning) (vs : Given) → Kinds m vs (singles vs) → holds_as m vs ≡ false → refuted_as m (singles vs) ≡ true
refuted_alone equal vs k e = equal_single vs e
refuted_alone different vs k e = different_single vs e
refuted_alone at_most vs k e = at_most_single vs e
refuted_alone below vs k e = below_single vs e
refuted_alone sum_equal vs k e = sum_equal_single vs e
refuted_alone sum_different vs k e = sum_different_single vs e
refuted_alone sum_at_most vs k e = sum_at_most_single vs e
refuted_alone plus vs k e = plus_single vs e
refuted_alone times vs k e = times_single vs e
refuted_alone absolute_value vs k e = absolute_value_single vs e
refuted_alone smaller vs k e = smaller_single vs e
refuted_alone greater vs k e = greater_single vs e
refuted_alone quotient vs k e = quotient_single vs e
refuted_alone remainder vs k e = remainder_single vs e
refuted_alone element vs k e = element_single vs e
refuted_alone variable_element vs k e = variable_element_single vs e
refuted_alone minimum vs k e = minimum_single vs k e
refuted_alone maximum vs k e = maximum_single vs k e
refuted_alone member vs k e = member_single vs e
refuted_alone both vs k e = both_single vs k e
refuted_alone either vs k e = either_single vs k e
refuted_alone exactly_one vs k e = exactly_one_single vs e
refuted_alone all_items vs k e = all_items_single vs k e
refuted_alone some_item vs k e = some_item_single vs k e
refuted_alone odd_items vs k e = odd_items_single vs e
refuted_alone clause vs k e = clause_single vs k e
refuted_alone all_different vs k e = all_different_single vs e
refuted_alone table vs k e = table_single vs e
refuted_alone (reified m) vs k e =
    truth_alone (last_left (singles vs)) (last_value vs) (holds_as m vs) (refuted_as m (singles vs)) (entailed_as m (singles vs)) k.0 (last_single vs)
    (opposite (refuted_as m (singles vs)) (holds_as m vs) (refutes m vs (singles vs) k.1 (fit_singles vs)) (refuted_alone m vs k.1))
    (same_tests (entailed_as m (singles vs)) (holds_as m vs) (entails m vs (singles vs) k.1 (fit_singles vs)) (entailed_single m vs k.2))
    ∙ ap not e

pub single_exact : (m : Meaning) (vs : Given) → Kinds m vs (singles vs) → refuted_as m (singles vs) ≡ not (holds_as m vs)
single_exact m vs k = opposite (refuted_as m (singles vs)) (holds_as m vs) (refutes m vs (singles vs) k (fit_singles vs)) (refuted_alone m vs k)

pub valid_single : (g : Game) → IsValid g → (k : ℕ) (c : Rule) (w : List ℤ) → slice_get g.constraints k ≡ Some c → ArgumentsBelow (length w) c.args → InBox w (declared_box g) → refuted_by c (map (λ v. v ∷ []) w) ≡ not (holds_on c w)
valid_single g v k c w e l b =
    ap (refuted_as (meaning_of c.pred)) (lefts_alone w c.args l)
    ∙ single_exact (meaning_of c.pred) (given_of w c.args)
    (subst (λ ds. Kinds (meaning_of c.pred) (given_of w c.args) ds) (lefts_alone w c.args l) (kinds_of g.variables w (map alone w) c (constraint_at g v k c e) b l))
