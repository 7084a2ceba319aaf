-- Words on a universal scope: what its list names, and what is known after each allowed tuple, which is a branch.
use Rattle.std.specs.Prelude.{ℕ, List, [], ◌∷◌, ◌++◌, slice_get, Option, Some, None, ⊤, IsFalse, ℤ}
use Rattle.qc_model.specs.declared.problem.Sense.{Sense}
use Rattle.qc_model.specs.declared.problem.Fold.{Fold}
use Rattle.qc_model.specs.declared.problem.Target.{Target}
use Rattle.qc_model.specs.declared.problem.Target.TheVariants.{Var, Aggregate as Agg}
use Rattle.qc_model.specs.declared.problem.Condition.{Condition}
use Rattle.qc_model.specs.declared.problem.Aggregate.{Aggregate}
use Rattle.qc_model.specs.Content.{Game}
use Rattle.qc_model.specs.Game.{IsMove}
use Rattle.qc_model.specs.Plan.{Plan}
use Rattle.qc_model.specs.Optimal.{is_better}
use Rattle.qc_model.specs.Demands.{IsBestVector}
use Rattle.qc_model.specs.Sees.{IsVisibleHere}
use Rattle.model_laws.specs.Positions.{AtMost}

-- each entry names a variable of an earlier scope, or an aggregate of scope i
abbrev pub AllOwn : Game → ℕ → List Condition → Type 0
AllOwn g i [] = ⊤
AllOwn g i (c ∷ d) = IsVisibleHere g i c.target × AllOwn g i d

-- the target is an aggregate
abbrev pub IsAggregate : Target → Type 0
IsAggregate (Var x) = ⊥
IsAggregate (Agg q) = ⊤

-- how it folds
abbrev pub fold_of_aggregate : Option Aggregate → Option Fold
fold_of_aggregate None = None
fold_of_aggregate (Some x) = Some x.fold

abbrev pub fold_named : Game → Target → Option Fold
fold_named g (Var x) = None
fold_named g (Agg q) = fold_of_aggregate (slice_get g.aggregates q.0)

-- ws has the best vector after each of the tuples, in order; O is what is optimal after them
abbrev pub BestAfter : Game → List Condition → List ℤ → (List ℤ → Plan → Type 0) → List (List ℤ) → List (List ℤ) → Type 0
BestAfter g e a O [] [] = ⊤
BestAfter g e a O [] (w ∷ ws) = ⊥
BestAfter g e a O (t ∷ ts) [] = ⊥
BestAfter g e a O (t ∷ ts) (w ∷ ws) = IsBestVector g e (a ++ t) (O (a ++ t)) w × BestAfter g e a O ts ws

-- ps has a bound of the first value after each of the tuples, in order
abbrev pub AtMostAfter : Game → List Condition → List ℤ → (List ℤ → Plan → Type 0) → List (List ℤ) → List ℤ → Type 0
AtMostAfter g e a O [] [] = ⊤
AtMostAfter g e a O [] (p ∷ ps) = ⊥
AtMostAfter g e a O (t ∷ ts) [] = ⊥
AtMostAfter g e a O (t ∷ ts) (p ∷ ps) = AtMost g e (a ++ t) (O (a ++ t)) p × AtMostAfter g e a O ts ps

-- p bounds the first value after some allowed tuple
pub record IsKnown (g : Game) (e : List Condition) (i : ℕ) (a : List ℤ) (O : List ℤ → Plan → Type 0) (p : ℤ) : Type 0 where
  pub tuple : List ℤ
  pub is_move : IsMove g i a tuple
  pub bound : AtMost g e (a ++ tuple) (O (a ++ tuple)) p

-- each of the numbers does
abbrev pub AllKnown : Game → List Condition → ℕ → List ℤ → (List ℤ → Plan → Type 0) → List ℤ → Type 0
AllKnown g e i a O [] = ⊤
AllKnown g e i a O (p ∷ ps) = IsKnown g e i a O p × AllKnown g e i a O ps

-- place by place, the first list is never better than the second
abbrev pub NeverBetter : Sense → List ℤ → List ℤ → Type 0
NeverBetter s [] [] = ⊤
NeverBetter s [] (y ∷ ys) = ⊥
NeverBetter s (x ∷ xs) [] = ⊥
NeverBetter s (x ∷ xs) (y ∷ ys) = IsFalse (is_better s x y) × NeverBetter s xs ys
