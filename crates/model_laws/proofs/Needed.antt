-- The law of universal positions is false without its premise: where the greatest is asked for first, and a sum after it, the
-- branches' best vectors don't make the best of the whole.
use Rattle.std.proofs.Common.{◌≡◌, ℕ, suc, true, false, List, [], ◌∷◌, refl, inl, inr, ℤ, pos, Option, None}
use Rattle.std.specs.Prelude.{negsuc}
use Rattle.qc_model.specs.declared.problem.Fold.TheVariants.{Sum, Greatest}
use Rattle.qc_model.specs.declared.problem.Pred.TheVariants.{IntLinLe}
use Rattle.qc_model.specs.declared.problem.Arg.TheVariants.{Num}
use Rattle.qc_model.specs.declared.problem.Argument.TheVariants.{One, Many, Numbers}
use Rattle.qc_model.specs.declared.problem.Kind.TheVariants.{Forall}
use Rattle.qc_model.specs.declared.problem.Scope.{Scope}
use Rattle.qc_model.specs.declared.problem.Condition.{Condition}
use Rattle.qc_model.specs.Content.{Game}
use Rattle.qc_model.specs.Game.{moves}
use Rattle.qc_model.specs.Plan.{Plan, finish, choose, answer, no_entries, entry}
use Rattle.qc_model.specs.Optimal.{Optimal}
use Rattle.qc_model.specs.Demands.{IsBestVector, demands_through}
use Rattle.qc_model.specs.Bottlenecks.{bottleneck_last}
use Rattle.qc_model.specs.ForallVerdict.{entry_values, numbers_for}
use Rattle.model_laws.specs.Branches.{BestAfter}
use Rattle.model_laws.proofs.Listed.{optimal_exact}
use Rattle.model_laws.proofs.Computed.{computed_best}
use Rattle.model_laws.proofs.CaseGames.{variable, rule, var, of_variable, of_aggregate, minimise, exists, forall_scope}

-- forall; var 0..1: t; aggregate m = greatest(w) else 0; aggregate s = sum(z); exists; var 0..1: w; var 0..1: z;
-- constraint int_lin_le([-1,-1],[t,w],-1); constraint int_lin_le([-1,-1],[w,z],-1); goal; solve;
-- so w is 1 against t = 0, and z is 1 where w is 0
abbrev spread : Game
spread = record {
  scopes = forall_scope ∷ exists None ∷ [];
  variables = variable 0 (pos 0) (pos 1) ∷ variable 1 (pos 0) (pos 1) ∷ variable 1 (pos 0) (pos 1) ∷ [];
  aggregates =
      record { name = []; scope = record { 0 = 0 }; fold = Greatest (pos 0); target = of_variable 1 }
      ∷ record { name = []; scope = record { 0 = 0 }; fold = Sum; target = of_variable 2 } ∷ [];
  constraints =
      rule 1 IntLinLe (Numbers (negsuc 0 ∷ negsuc 0 ∷ []) ∷ Many (var 0 ∷ var 1 ∷ []) ∷ One (Num (negsuc 0)) ∷ [])
      ∷ rule 1 IntLinLe (Numbers (negsuc 0 ∷ negsuc 0 ∷ []) ∷ Many (var 1 ∷ var 2 ∷ []) ∷ One (Num (negsuc 0)) ∷ []) ∷ [];
}

abbrev greatest_first : List Condition
greatest_first = minimise (of_aggregate 0) ∷ minimise (of_aggregate 1) ∷ []

greatest_is_first : bottleneck_last spread greatest_first ≡ false
greatest_is_first = refl

-- against t = 0 the best is w = 1 and z = 0, and against t = 1 it is w = 0, though z is 1 then: so the greatest w would be 1, and
-- the sum of the z 1. But w = 1 and z = 0 against both has a sum of 0
pub last_is_needed : ¬ ((g : Game) (later : List Scope) (x : Option Condition) (i : ℕ) (a : List ℤ) (d : List Condition) (ws : List (List ℤ)) →
    BestAfter g (demands_through g d) a (Optimal g later (suc i)) (moves g i a) ws →
    IsBestVector g d a (Optimal g (record { kind = Forall; condition = x } ∷ later) i a) (entry_values g d a (numbers_for d ws)))
last_is_needed law =
    let later = exists None ∷ [] in
    let e = demands_through spread greatest_first in
    let low = computed_best spread e later 1 (pos 0 ∷ []) (choose (pos 1 ∷ pos 0 ∷ []) finish) (pos 1 ∷ pos 0 ∷ []) (inl refl) refl refl in
    let high = computed_best spread e later 1 (pos 1 ∷ []) (choose (pos 0 ∷ pos 1 ∷ []) finish) (pos 0 ∷ pos 1 ∷ []) (inl refl) refl refl in
    let best = law spread later None 0 [] greatest_first ((pos 1 ∷ pos 0 ∷ []) ∷ (pos 0 ∷ pos 1 ∷ []) ∷ []) (low, (high, tt)) in
    let none = best.none_better better ((optimal_exact spread (forall_scope ∷ later) 0 []).to better (inr (inl refl))) in
    absurd (differ none)
  where
    better : Plan
    better = answer (entry (pos 0 ∷ []) (choose (pos 1 ∷ pos 0 ∷ []) finish) (entry (pos 1 ∷ []) (choose (pos 1 ∷ pos 0 ∷ []) finish) no_entries))

    differ : ¬ (true ≡ false)
    differ e = cc
