-- The game in which ties are broken against the chosen owners by owners of their own: after each chosen scope stands a new
-- existential one without variables and restrictions, with the same target and the other sense.
use Rattle.std.specs.Prelude.{ℕ, zero, suc, ◌+◌, Bool, List, [], ◌∷◌, ◌++◌, map, length, Option, Some, None}
use Rattle.qc_model.specs.declared.problem.Kind.TheVariants.{Exists}
use Rattle.qc_model.specs.declared.problem.Sense.{Sense}
use Rattle.qc_model.specs.declared.problem.Sense.TheVariants.{Min, Max}
use Rattle.qc_model.specs.declared.problem.Condition.{Condition}
use Rattle.qc_model.specs.declared.problem.Scope.{Scope}
use Rattle.qc_model.specs.declared.problem.Variable.{Variable}
use Rattle.qc_model.specs.declared.problem.Aggregate.{Aggregate}
use Rattle.qc_model.specs.Content.{Game, Rule}
use Rattle.qc_model.specs.Plan.{Plan, finish, choose, answer, Entries, no_entries, entry}
use Rattle.qc_pessimist.specs.Worst.{chosen_wish}

abbrev pub other_sense : Sense → Sense
other_sense Min = Max
other_sense Max = Min

abbrev pub opposed : Condition → Condition
opposed c = record { sense = other_sense c.sense; target = c.target }

-- the scope of an owner that wishes the opposite
abbrev pub opposing : Condition → Scope
opposing c = record { kind = Exists; condition = Some (opposed c) }

-- the scopes added for a wish
abbrev pub added : Option Condition → List Scope
added None = []
added (Some c) = opposing c ∷ []

-- those added after the scope, whose number is i
abbrev pub added_after : (ℕ → Bool) → ℕ → Scope → List Scope
added_after q i s = added (chosen_wish (q i) s.kind s.condition)

-- the scopes with those added; the first of them has the number i
abbrev pub with_opposing : (ℕ → Bool) → ℕ → List Scope → List Scope
with_opposing q i [] = []
with_opposing q i (s ∷ later) = s ∷ (added_after q i s ++ with_opposing q (suc i) later)

-- the new place of the scope, or of the goal, that had the place k: it moves up by the scopes added before it
abbrev pub moved : (ℕ → Bool) → ℕ → List Scope → ℕ → ℕ
moved q i [] k = k
moved q i (s ∷ later) zero = 0
moved q i (s ∷ later) (suc k) = suc (length (added_after q i s) + moved q (suc i) later k)

abbrev pub move_variable : (ℕ → ℕ) → Variable → Variable
move_variable f x = record { name = x.name; scope = record { 0 = f x.scope.0 }; domain = x.domain }

abbrev pub move_aggregate : (ℕ → ℕ) → Aggregate → Aggregate
move_aggregate f q = record { name = q.name; scope = record { 0 = f q.scope.0 }; fold = q.fold; target = q.target }

abbrev pub move_rule : (ℕ → ℕ) → Rule → Rule
move_rule f c = record { owner = record { 0 = f c.owner.0 }; pred = c.pred; args = c.args }

-- the game with a scope that opposes each chosen one
abbrev pub opposed_game : (ℕ → Bool) → Game → Game
opposed_game q g = record {
  scopes = with_opposing q 0 g.scopes;
  variables = map (move_variable (moved q 0 g.scopes)) g.variables;
  aggregates = map (move_aggregate (moved q 0 g.scopes)) g.aggregates;
  constraints = map (move_rule (moved q 0 g.scopes)) g.constraints;
}

-- an empty choice before the plan, where there is a wish
abbrev pub put_empty : Option Condition → Plan → Plan
put_empty None s = s
put_empty (Some c) s = choose [] s

abbrev pub map_entries : (Plan → Plan) → Entries → Entries
map_entries f no_entries = no_entries
map_entries f (entry t s rest) = entry t (f s) (map_entries f rest)

-- f on the plan after a choice, and h on those after an answer
abbrev pub map_turn : (Plan → Plan) → (Plan → Plan) → Plan → Plan
map_turn f h finish = finish
map_turn f h (choose t s) = choose t (f s)
map_turn f h (answer l) = answer (map_entries h l)

-- the plan with an empty choice put in after each choice of a chosen scope; later has the scopes from i on
abbrev pub with_empty_choices : (ℕ → Bool) → List Scope → ℕ → Plan → Plan
with_empty_choices q [] i s = s
with_empty_choices q (scope ∷ later) i s =
    map_turn (λ r. put_empty (chosen_wish (q i) scope.kind scope.condition) (with_empty_choices q later (suc i) r))
    (with_empty_choices q later (suc i)) s
