-- Steps that end with an empty domain, without some on which it doesn't depend.
use Rattle.std.proofs.Common.{◌≡◌, ℕ, Bool, true, false, not, List, [], ◌∷◌, refl, sym, ap, subst, ◌∙◌, ℤ, Option}
use Rattle.std.specs.List.{list_all}
use Rattle.std.proofs.lemmas.Bool.{and_parts}
use Rattle.qc_model.specs.declared.problem.Condition.{Condition}
use Rattle.qc_model.specs.declared.problem.Scope.{Scope}
use Rattle.qc_model.specs.Content.{Game}
use Rattle.qc_model.specs.Domains.{Box, has_empty}
use Rattle.qc_model.specs.Block.{force_stop}
use Rattle.proof_tree.specs.declared.tree.Step.{Step}
use Rattle.proof_tree.specs.declared.tree.Step.TheVariants.{Prune, Bound}
use Rattle.proof_tree.specs.Place.{Tracked, tracked_variable, list_after}
use Rattle.proof_tree.specs.Steps.{after_steps, are_legal}
use Rattle.proof_tree.specs.Text.{step_fits}
use Rattle.search_trim.specs.Trims.{Trims}
use Rattle.search_parts.specs.Made.{StepsMade}

-- the steps that are left are made, and end with an empty domain too
pub record NeededMade (g : Game) (later : List Scope) (i : ℕ) (d : List Condition) (box : Box) (ms : List ℤ) (less : List Step) : Type 0 where
  pub made : StepsMade g later i d box ms less
  pub empties : has_empty (after_steps less box) ≡ true

none_of : (steps : List Step) → list_all (λ s. false) steps ≡ true → steps ≡ []
none_of [] e = refl
none_of (s ∷ steps) e = cc

pub needed_made : (g : Game) (later : List Scope) (i : ℕ) (d : List Condition) (box : Box) (ms : List ℤ) (steps less : List Step) → Trims g steps less → has_empty (after_steps steps box) ≡ true → StepsMade g later i d box ms steps → NeededMade g later i d box ms less
needed_made g later i d box ms steps less t e m = by (has_empty box) refl
  where
    tracked : Option Tracked
    tracked = tracked_variable g later i (list_after g later d)

    by : (b : Bool) → has_empty box ≡ b → NeededMade g later i d box ms less
    by false f =
        let r = t.right i (force_stop later i) tracked box m.legal f e in
        record { made = record { legal = r.legal; marked = m.marked ∙ sym r.marks; fits = t.tests step_fits m.fits }; empties = r.empties }
    by true f = none steps refl m e
      where
        none : (ss : List Step) → steps ≡ ss → StepsMade g later i d box ms ss → has_empty (after_steps ss box) ≡ true → NeededMade g later i d box ms less
        none [] q n k =
            let same : less ≡ [] = none_of less (t.tests (λ s. false) (ap (list_all (λ s. false)) q)) in
            record {
              made = subst (λ ls. StepsMade g later i d box ms ls) (sym same) n;
              empties = subst (λ ls. has_empty (after_steps ls box) ≡ true) (sym same) k;
            }
        none (s ∷ ss) q n k = by_step s ss n.legal
          where
            by_step : (s : Step) (ss : List Step) → are_legal g i (force_stop later i) tracked (s ∷ ss) box ≡ true → NeededMade g later i d box ms less
            by_step (Prune x low high c) ss legal = let p = (and_parts _ _ (and_parts _ _ (and_parts _ _ legal).0).0).0 in let z : not true ≡ true = sym (ap not f) ∙ p in cc
            by_step (Bound x low high) ss legal = let p = (and_parts _ _ (and_parts _ _ (and_parts _ _ legal).0).0).0 in let z : not true ≡ true = sym (ap not f) ∙ p in cc
