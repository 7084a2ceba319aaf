-- What a standing tells of its constraint.
use Rattle.std.proofs.Common.{◌≡◌, ◌∙◌, sym, ap, subst, ◌<◌, ◌≤◌, ◌^◌, ℕ, true, not, List, length, set, get_or, slice_get, Option, Some, inl, inr, arith, ℤ, nat_eq, of_z, to_z}
use Rattle.std.specs.Prelude.{pos, int_le, unsigned_abs}
use Rattle.std.specs.Ordering.{int_eq}
use Rattle.std.specs.List.{list_all}
use Rattle.std.proofs.lemmas.Bool.{cases_eq}
use Rattle.std.proofs.lemmas.List.{length-set}
use Rattle.std.proofs.lemmas.Int.{to_z-of_z, fits_signed_from_abs}
use Rattle.std.proofs.lemmas.Option.{slice_get_read, slice_get_within}
use mir.Val.{SFits}
use mir.Syntax.{w128}
use Rattle.qc_model.specs.Content.{Game, Rule}
use Rattle.qc_model.specs.Holds.{holds_on}
use Rattle.qc_model.specs.Valid.{IsValid, is_number, is_constraint}
use Rattle.model_evaluation.proofs.Readable.{passes_at}
use Rattle.check_assignment.specs.declared.standing.Standing.{Standing}
use Rattle.check_assignment.specs.declared.test.Test.{Test}
use Rattle.check_assignment.specs.declared.test.Test.TheVariants.{Equal, Different, AtMost, Other}
use Rattle.check_assignment.specs.Balance.{test_of, total_of, passes}
use Rattle.check_assignment.specs.Terms.{Terms}
use Rattle.check_assignment.specs.Keeping.{Stands, Keeps}
use Rattle.check_assignment.proofs.Standings.{get_here, get_other}
use Rattle.check_assignment.proofs.Moves.{total_small}
use Rattle.check_assignment.proofs.Tells.{holds_by_total}

bits_zero : (z : ℤ) → SFits w128 z → nat_eq (of_z w128 z) 0 ≡ int_eq z (pos 0)
bits_zero z f = grind (arith, to_z-of_z)

pub constraint_at : (g : Game) (k : ℕ) (c : Rule) → IsValid g → slice_get g.constraints k ≡ Some c → is_constraint g.variables c ≡ true
constraint_at g k c valid e = passes_at (is_constraint g.variables) g.constraints k c valid.constraints e

-- the standing of a constraint of a valid game
pub stands_at : (g : Game) (vs : List ℤ) (ts : Terms) (ss : List Standing) (k : ℕ) (c : Rule) (s : Standing) → Keeps g vs ts ss → slice_get g.constraints k ≡ Some c → s ≡ get_or ss k s → Stands vs c s
stands_at g vs ts ss k c s keeps e is = keeps.standings k c s e (slice_get_read ss (length g.constraints) k s (sym keeps.standing_each) (slice_get_within g.constraints k c e) is)

pub stands_small : (g : Game) (vs : List ℤ) (k : ℕ) (c : Rule) (s : Standing) → IsValid g → list_all is_number vs ≡ true → slice_get g.constraints k ≡ Some c → Stands vs c s → unsigned_abs s.total ≤ 10 ^ 22
stands_small g vs k c s valid numbers e stands =
    subst (λ z. unsigned_abs z ≤ 10 ^ 22) (sym stands.total) (total_small vs g.variables c (constraint_at g k c valid e) numbers)

total_fits : (z : ℤ) → unsigned_abs z ≤ 10 ^ 22 → SFits w128 z
total_fits z h = fits_signed_from_abs w128 z (omega (arith, h))

module _ (vs : List ℤ) (c : Rule) (s : Standing) (stands : Stands vs c s) (small : unsigned_abs s.total ≤ 10 ^ 22) where
  told : (t : Test) → s.test ≡ t → (t ≡ Other → ⊥) → passes t s.total ≡ holds_on c vs
  told t is known =
      let test : test_of c ≡ t = sym stands.test ∙ is in
      ap (passes t) (stands.total ∙ ap (λ r. total_of r vs c) test) ∙ sym (holds_by_total vs c t test known)

  pub told_equal : s.test ≡ Equal → nat_eq (of_z w128 s.total) 0 ≡ holds_on c vs
  told_equal is = bits_zero s.total (total_fits s.total small) ∙ told Equal is (λ e. cc)

  pub told_different : s.test ≡ Different → not (nat_eq (of_z w128 s.total) 0) ≡ holds_on c vs
  told_different is = ap not (bits_zero s.total (total_fits s.total small)) ∙ told Different is (λ e. cc)

  pub told_at_most : s.test ≡ AtMost → int_le (to_z w128 (of_z w128 s.total)) (pos 0) ≡ holds_on c vs
  told_at_most is = ap (λ z. int_le z (pos 0)) (to_z-of_z w128 s.total (total_fits s.total small)) ∙ told AtMost is (λ e. cc)

-- a constraint that holds is noted to hold
pub noted : (g : Game) (vs : List ℤ) (ts : Terms) (ss : List Standing) (k : ℕ) (s : Standing) → Keeps g vs ts ss → k < length g.constraints →
    ((c : Rule) → slice_get g.constraints k ≡ Some c → true ≡ holds_on c vs) → s ≡ get_or ss k s → Keeps g vs ts (set ss k (record { total = s.total; test = s.test; holds = true }))
noted g vs ts ss k s keeps within holds is = record {
  value_each = keeps.value_each;
  numbers = keeps.numbers;
  term_each = keeps.term_each;
  standing_each = length-set ss k x ∙ keeps.standing_each;
  terms = keeps.terms;
  standings = λ i c t e f. elim (cases_eq i k) [ inl same ↦ here i c t e f same | inr apart ↦ keeps.standings i c t e (sym (get_other ss k i x apart) ∙ f) ];
}
  where
    x : Standing
    x = record { total = s.total; test = s.test; holds = true }

    here : (i : ℕ) (c : Rule) (t : Standing) → slice_get g.constraints i ≡ Some c → slice_get (set ss k x) i ≡ Some t → i ≡ k → Stands vs c t
    here i c t e f same =
        let room : k < length ss = omega (arith, keeps.standing_each, within) in
        let there : slice_get g.constraints k ≡ Some c = sym (ap (slice_get g.constraints) same) ∙ e in
        let written : x ≡ t = some_same (sym (get_here ss k x room) ∙ (sym (ap (slice_get (set ss k x)) same) ∙ f)) in
        let was = stands_at g vs ts ss k c s keeps there is in
        subst (Stands vs c) written (record { test = was.test; total = was.total; holds = λ _. sym (holds c there) })
      where
        some_same : {a b : Standing} → ◌≡◌ {A = Option Standing} (Some a) (Some b) → a ≡ b
        some_same h = cc
