-- Universal positions, with the branches in any order.
use Rattle.std.proofs.Common.{◌≡◌, inl, inr, ℕ, suc, true, List, [], ◌∷◌, ◌++◌, map, refl, sym, ap, ◌∙◌, subst, ℤ, pos, Option, Some, None}
use Rattle.std.specs.Prelude.{slice_get, slice_index_or}
use Rattle.qc_model.specs.declared.problem.Kind.TheVariants.{Forall}
use Rattle.qc_model.specs.declared.problem.Sense.{Sense}
use Rattle.qc_model.specs.declared.problem.Target.{Target}
use Rattle.qc_model.specs.declared.problem.Target.TheVariants.{Var, Aggregate as Agg}
use Rattle.qc_model.specs.declared.problem.Aggregate.{Aggregate}
use Rattle.qc_model.specs.declared.problem.Scope.{Scope}
use Rattle.qc_model.specs.declared.problem.Condition.{Condition}
use Rattle.qc_model.specs.Content.{Game}
use Rattle.qc_model.specs.Lists.{Among}
use Rattle.qc_model.specs.Game.{IsMove, moves}
use Rattle.qc_model.specs.Plan.{Plan, Turn, Covers}
use Rattle.qc_model.specs.Value.{aggregate_fold}
use Rattle.qc_model.specs.Optimal.{Optimal}
use Rattle.qc_model.specs.Demands.{IsBestVector, names, demands_through, place_of}
use Rattle.qc_model.specs.Bottlenecks.{bottleneck_last}
use Rattle.qc_model.specs.ForallVerdict.{entry_value, entry_values, numbers_for}
use Rattle.model_laws.specs.Positions.{AtMost}
use Rattle.model_laws.specs.Branches.{BestAfter, AtMostAfter, IsAggregate}
use Rattle.qc_model.proofs.Moves.{moves_to}
use Rattle.model_laws.specs.Distinct.{IsReordering}
use Rattle.model_laws.proofs.Universal.{entries_same, universal_best}
use Rattle.model_laws.proofs.Bounds.{fold_bound}
use Rattle.model_laws.proofs.Order.{folds_same}

map_twice : {X : Type 0} (f : List ℤ → X) (W : List ℤ → List ℤ) (ts : List (List ℤ)) → map f (map W ts) ≡ map (λ t. f (W t)) ts
map_twice f W [] = refl
map_twice f W (t ∷ ts) = ap (λ zs. f (W t) ∷ zs) (map_twice f W ts)

aggregate_same : (q : Option Aggregate) (p : List ℤ → ℤ) (ts us : List (List ℤ)) → IsReordering ts us → aggregate_fold q (map p ts) ≡ aggregate_fold q (map p us)
aggregate_same None p ts us h = refl
aggregate_same (Some q) p ts us h = folds_same q.fold p ts us h

-- so are the values of a list, where W tells the vector after each tuple
pub numbers_same : (g : Game) (d : List Condition) (a : List ℤ) (W : List ℤ → List ℤ) (ts us : List (List ℤ)) → IsReordering ts us →
    entry_values g d a (numbers_for d (map W ts)) ≡ entry_values g d a (numbers_for d (map W us))
numbers_same g d a W ts us h = entries_same g d a (numbers_for d (map W ts)) (numbers_for d (map W us)) same
  where
    same : (q : ℕ) → names q d ≡ true → aggregate_fold (slice_get g.aggregates q) (numbers_for d (map W ts) q) ≡ aggregate_fold (slice_get g.aggregates q) (numbers_for d (map W us) q)
    same q n =
        let at = λ (w : List ℤ). slice_index_or w (place_of q d) (pos 0) in
        ap (aggregate_fold (slice_get g.aggregates q)) (map_twice at W ts)
        ∙ aggregate_same (slice_get g.aggregates q) (λ t. at (W t)) ts us h
        ∙ ap (aggregate_fold (slice_get g.aggregates q)) (sym (map_twice at W us))

pub best_each : (g : Game) (e : List Condition) (a : List ℤ) (O : List ℤ → Plan → Type 0) (W : List ℤ → List ℤ) (ts : List (List ℤ)) → ((t : List ℤ) → Among t ts → IsBestVector g e (a ++ t) (O (a ++ t)) (W t)) → BestAfter g e a O ts (map W ts)
best_each g e a O W [] f = tt
best_each g e a O W (t ∷ ts) f = (f t (inl refl), best_each g e a O W ts (λ u m. f u (inr m)))

bound_each : (g : Game) (e : List Condition) (a : List ℤ) (O : List ℤ → Plan → Type 0) (p : List ℤ → ℤ) (ts : List (List ℤ)) → ((t : List ℤ) → Among t ts → AtMost g e (a ++ t) (O (a ++ t)) (p t)) → AtMostAfter g e a O ts (map p ts)
bound_each g e a O p [] f = tt
bound_each g e a O p (t ∷ ts) f = (f t (inl refl), bound_each g e a O p ts (λ u m. f u (inr m)))

entry_same : (g : Game) (a : List ℤ) (p : List ℤ → ℤ) (ts us : List (List ℤ)) (t : Target) → IsReordering ts us → entry_value g a (λ q. map p ts) t ≡ entry_value g a (λ q. map p us) t
entry_same g a p ts us (Var x) h = refl
entry_same g a p ts us (Agg q) h = aggregate_same (slice_get g.aggregates q.0) p ts us h

module _ (g : Game) (i : ℕ) (a : List ℤ) (O : List ℤ → Plan → Type 0) (C : List ℤ → Plan → Type 0) where
  pub best_of_leaves : (d : List Condition) (W : List ℤ → List ℤ) (ts : List (List ℤ)) → bottleneck_last g d ≡ true → IsReordering (moves g i a) ts →
      ((t : List ℤ) → IsMove g i a t → IsBestVector g (demands_through g d) (a ++ t) (O (a ++ t)) (W t)) →
      IsBestVector g d a (λ s. Turn Forall s C (Covers g i a O)) (entry_values g d a (numbers_for d (map W ts)))
  best_of_leaves d W ts h r f =
      subst (IsBestVector g d a (λ s. Turn Forall s C (Covers g i a O))) (numbers_same g d a W (moves g i a) ts r)
      (universal_best g i a O C d (map W (moves g i a)) h (best_each g (demands_through g d) a O W (moves g i a) (λ t m. f t (moves_to g i a t m))))

  pub bound_of_leaves : (s : Sense) (x : Target) (d : List Condition) (p : List ℤ → ℤ) (ts : List (List ℤ)) → IsAggregate x → IsReordering (moves g i a) ts →
      ((t : List ℤ) → IsMove g i a t → AtMost g (demands_through g (record { sense = s; target = x } ∷ d)) (a ++ t) (O (a ++ t)) (p t)) →
      AtMost g (record { sense = s; target = x } ∷ d) a (λ s. Turn Forall s C (Covers g i a O)) (entry_value g a (λ q. map p ts) x)
  bound_of_leaves s x d p ts h r f =
      let c : Condition = record { sense = s; target = x } in
      subst (AtMost g (c ∷ d) a (λ s. Turn Forall s C (Covers g i a O))) (entry_same g a p (moves g i a) ts x r)
      (fold_bound g i a O C s x d (map p (moves g i a)) h (bound_each g (demands_through g (c ∷ d)) a O p (moves g i a) (λ t m. f t (moves_to g i a t m))))

-- the same, of optimal strategies
pub optimal_bound : (g : Game) (later : List Scope) (x : Option Condition) (i : ℕ) (a : List ℤ) (c : Condition) (d : List Condition) (ps : List ℤ) → IsAggregate c.target →
    AtMostAfter g (demands_through g (c ∷ d)) a (Optimal g later (suc i)) (moves g i a) ps → AtMost g (c ∷ d) a (Optimal g (record { kind = Forall; condition = x } ∷ later) i a) (entry_value g a (λ q. ps) c.target)
optimal_bound g later x i a c d ps h b = fold_bound g i a (Optimal g later (suc i)) _ c.sense c.target d ps h b

pub optimal_leaves : (g : Game) (later : List Scope) (x : Option Condition) (i : ℕ) (a : List ℤ) (d : List Condition) (W : List ℤ → List ℤ) (ts : List (List ℤ)) → bottleneck_last g d ≡ true → IsReordering (moves g i a) ts →
    ((t : List ℤ) → IsMove g i a t → IsBestVector g (demands_through g d) (a ++ t) (Optimal g later (suc i) (a ++ t)) (W t)) →
    IsBestVector g d a (Optimal g (record { kind = Forall; condition = x } ∷ later) i a) (entry_values g d a (numbers_for d (map W ts)))
optimal_leaves g later x i a d W ts h r f = best_of_leaves g i a (Optimal g later (suc i)) _ d W ts h r f

pub optimal_bounds : (g : Game) (later : List Scope) (x : Option Condition) (i : ℕ) (a : List ℤ) (c : Condition) (d : List Condition) (p : List ℤ → ℤ) (ts : List (List ℤ)) → IsAggregate c.target → IsReordering (moves g i a) ts →
    ((t : List ℤ) → IsMove g i a t → AtMost g (demands_through g (c ∷ d)) (a ++ t) (Optimal g later (suc i) (a ++ t)) (p t)) →
    AtMost g (c ∷ d) a (Optimal g (record { kind = Forall; condition = x } ∷ later) i a) (entry_value g a (λ q. map p ts) c.target)
optimal_bounds g later x i a c d p ts h r f = bound_of_leaves g i a (Optimal g later (suc i)) _ c.sense c.target d p ts h r f
