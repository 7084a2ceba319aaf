-- What a parity leaves to be removed.
use Rattle.std.proofs.Common.{◌≡◌, Bool, true, false, not, ◌&&◌, List, [], ◌∷◌, set, refl, ap, ◌∙◌}
use Rattle.qc_model.specs.declared.problem.Arg.{Arg}
use Rattle.qc_model.specs.declared.problem.VarId.{VarId}
use Rattle.qc_model.specs.Closed.{keeps_ends}
use Rattle.qc_model.specs.Content.{Game, Rule}
use Rattle.qc_model.specs.Domains.{Box}
use Rattle.qc_model.specs.Holds.{same_truth}
use Rattle.qc_model.specs.Refuted.{refuted_by}
use Rattle.model_arguments.specs.Asked.{IsAsked}
use Rattle.prop_bool.specs.declared.findings.Finding.TheVariants.{Loses}
use Rattle.prop_bool.specs.declared.tallies.Tally.TheVariants.{Free}
use Rattle.prop_bool.specs.Literals.{truth_number}
use Rattle.prop_bool.specs.Findings.{IsFinding, given}
use Rattle.prop_bool.specs.Parities.{differ, are_single, is_odd, IsOpen, IsTally, IsParity}
use Rattle.prop_bool.proofs.Closed.{closed_by}
use Rattle.prop_bool.proofs.Counting.{has_both, singles_stay, odd_stays}
use Rattle.prop_bool.proofs.Fixing.{asked_at}

module _ (g : Game) (c : Rule) (xs : List Arg) (odd : Bool) (d : IsParity g c xs odd) where
  decided : (box : Box) → IsAsked g c box → are_single box xs ≡ true → refuted_by c box ≡ differ odd (is_odd box xs)
  decided box a h = d.refuted box a ∙ ap (λ b. b && differ odd (is_odd box xs)) h

  pub odd_refuted : (box : Box) → IsAsked g c box → are_single box xs ≡ true → differ odd (is_odd box xs) ≡ true → refuted_by c box ≡ true
  odd_refuted box a h k = decided box a h ∙ k

  pub odd_closed : (box : Box) → IsAsked g c box → are_single box xs ≡ true → differ odd (is_odd box xs) ≡ false → keeps_ends box c ≡ true
  odd_closed box a h k =
      closed_by g c box a
      (λ y v m. decided (set box y (v ∷ [])) (asked_at g c box y v a m) (singles_stay box y v xs m h) ∙ (ap (differ odd) (odd_stays box y v xs m h) ∙ k))

  pub free_closed : (box : Box) → IsAsked g c box → IsTally Free box xs → keeps_ends box c ≡ true
  free_closed box a f =
      closed_by g c box a
      (λ y v m. let new = set box y (v ∷ []) in
      d.refuted new (asked_at g c box y v a m) ∙ ap (λ b. b && differ odd (is_odd new xs)) (f y v m))

  pub open_found : (box : Box) (x : VarId) (rest : Bool) → IsAsked g c box → IsOpen box xs x rest → IsFinding (Loses x (same_truth odd rest)) c box
  open_found box x rest a p =
      let b = same_truth odd rest in (
        p.unfixed,
        odd_refuted (given box x b) (asked_at g c box x.0 (truth_number b) a (has_both box x b p.unfixed)) (p.single b) (ap (differ odd) (p.odd b) ∙ wrong odd rest),
        odd_closed (given box x (not b)) (asked_at g c box x.0 (truth_number (not b)) a (has_both box x (not b) p.unfixed)) (p.single (not b)) (ap (differ odd) (p.odd (not b)) ∙ right odd rest),
      )
    where
      wrong : (o r : Bool) → differ o (differ (same_truth o r) r) ≡ true
      wrong true true = refl
      wrong true false = refl
      wrong false true = refl
      wrong false false = refl

      right : (o r : Bool) → differ o (differ (not (same_truth o r)) r) ≡ false
      right true true = refl
      right true false = refl
      right false true = refl
      right false false = refl
