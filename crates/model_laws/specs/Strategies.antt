-- All optimal strategies of a position, computed move by move: so that a small game can be settled by computing.
use Rattle.std.specs.Prelude.{ℕ, suc, Bool, not, cond, List, [], ◌∷◌, ◌++◌, map, filter, flat_map, Option, Some, None, ℤ}
use Rattle.std.specs.List.{list_all}
use Rattle.qc_model.specs.declared.problem.Kind.{Kind}
use Rattle.qc_model.specs.declared.problem.Kind.TheVariants.{Exists, Forall}
use Rattle.qc_model.specs.declared.problem.Condition.{Condition}
use Rattle.qc_model.specs.declared.problem.Scope.{Scope}
use Rattle.qc_model.specs.Content.{Game}
use Rattle.qc_model.specs.Game.{allows, moves}
use Rattle.qc_model.specs.Plan.{Plan, finish, choose, answer, Entries, no_entries, entry}
use Rattle.qc_model.specs.Value.{value}
use Rattle.qc_model.specs.Optimal.{is_better}

-- the choices of the tuples, with each of the plans after them
abbrev pub choices : (List ℤ → List Plan) → List ℤ → List (List ℤ) → List Plan
choices after a ts = flat_map (λ t. map (λ s. choose t s) (after (a ++ t))) ts

-- none of the plans is worth more than p
abbrev pub is_best : Game → Condition → List ℤ → List Plan → Plan → Bool
is_best g c a plans p = list_all (λ q. not (is_better c.sense (value g q c.target a) (value g p c.target a))) plans

-- those worth most; all of them where nothing is asked
abbrev pub best_choices : Game → Option Condition → List ℤ → List Plan → List Plan
best_choices g None a plans = plans
best_choices g (Some c) a plans = filter (is_best g c a plans) plans

-- each way of having one of the plans after each of the tuples
abbrev pub all_entries : (List ℤ → List Plan) → List ℤ → List (List ℤ) → List Entries
all_entries after a [] = no_entries ∷ []
all_entries after a (t ∷ ts) = flat_map (λ s. map (λ l. entry t s l) (all_entries after a ts)) (after (a ++ t))

abbrev pub turn_strategies : Kind → Option Condition → Game → List ℤ → (List ℤ → List Plan) → List (List ℤ) → List Plan
turn_strategies Exists x g a after ts = best_choices g x a (choices after a ts)
turn_strategies Forall x g a after ts = map (λ l. answer l) (all_entries after a ts)

-- the optimal strategies at the position before scope i; later has the scopes from i on
abbrev pub optimal_strategies : Game → List Scope → ℕ → List ℤ → List Plan
optimal_strategies g [] i a = cond (allows g i a) (finish ∷ []) []
optimal_strategies g (scope ∷ later) i a =
    turn_strategies scope.kind scope.condition g a (optimal_strategies g later (suc i)) (moves g i a)
