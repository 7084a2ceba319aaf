-- What the computed list of optimal strategies settles of a whole game and of a position.
use Rattle.std.proofs.Common.{◌≡◌, inl, inr, refl, sym, ap, ◌∙◌, subst, ℕ, true, not, List, [], ◌∷◌}
use Rattle.std.specs.Prelude.{ℤ}
use Rattle.std.specs.List.{list_all}
use Rattle.qc_model.specs.declared.problem.Target.{Target}
use Rattle.qc_model.specs.declared.problem.Condition.{Condition}
use Rattle.qc_model.specs.declared.problem.Scope.{Scope}
use Rattle.qc_model.specs.Content.{Game}
use Rattle.qc_model.specs.Lists.{Among}
use Rattle.qc_model.specs.Plan.{Plan}
use Rattle.qc_model.specs.Value.{value}
use Rattle.qc_model.specs.Optimal.{Optimal}
use Rattle.qc_model.specs.Demands.{vector, is_better_vector, IsBestVector}
use Rattle.model_laws.specs.Strategies.{optimal_strategies}
use Rattle.model_laws.proofs.Listed.{Lists, optimal_exact, all_to, not_true}

-- s is optimal in the whole game, where the target is worth v, and every optimal strategy has this worth
pub record IsOptimum (g : Game) (t : Target) (s : Plan) (v : ℤ) : Type 0 where
  pub optimal : Optimal g g.scopes 0 [] s
  pub worth : value g s t [] ≡ v
  pub always : (p : Plan) → Optimal g g.scopes 0 [] p → value g p t [] ≡ v

pub only_strategy : (g : Game) (t : Target) (s : Plan) (v : ℤ) → optimal_strategies g g.scopes 0 [] ≡ s ∷ [] → value g s t [] ≡ v → IsOptimum g t s v
only_strategy g t s v only w = record { optimal = exact.to s (subst (Among s) (sym only) (inl refl)); worth = w; always = λ p o. at p (subst (Among p) only (exact.from p o)) }
  where
    exact : Lists (Optimal g g.scopes 0 []) (optimal_strategies g g.scopes 0 [])
    exact = optimal_exact g g.scopes 0 []

    at : (p : Plan) → Among p (s ∷ []) → value g p t [] ≡ v
    at p m = elim m [ inl e ↦ ap (λ q. value g q t []) e ∙ w | inr n ↦ absurd n ]

pub none_optimal : (g : Game) → optimal_strategies g g.scopes 0 [] ≡ [] → (p : Plan) → ¬ Optimal g g.scopes 0 [] p
none_optimal g none p o = let m : Among p [] = subst (Among p) none ((optimal_exact g g.scopes 0 []).from p o) in m

-- v is the vector of the strategy s of the list, and none of the list has a better one
pub computed_best : (g : Game) (d : List Condition) (later : List Scope) (i : ℕ) (a : List ℤ) (s : Plan) (v : List ℤ) →
    Among s (optimal_strategies g later i a) → vector g d a s ≡ v → list_all (λ p. not (is_better_vector d (vector g d a p) v)) (optimal_strategies g later i a) ≡ true →
    IsBestVector g d a (Optimal g later i a) v
computed_best g d later i a s v m w h = record {
  some = (s, (optimal_exact g later i a).to s m, w);
  none_better = λ p o. not_true (is_better_vector d (vector g d a p) v) (all_to (λ q. not (is_better_vector d (vector g d a q) v)) (optimal_strategies g later i a) h p ((optimal_exact g later i a).from p o));
}
