-- A problem as the parts of its text, in order.
use Rattle.std.specs.Prelude.{◌==◌, ℕ, suc, List, [], ◌∷◌, ◌++◌, map, filter, codes}
use Rattle.qc_model.specs.declared.problem.Scope.{Scope}
use Rattle.qc_model.specs.declared.problem.Variable.{Variable}
use Rattle.qc_model.specs.declared.problem.Aggregate.{Aggregate}
use Rattle.qc_model.specs.Content.{Game, Rule}
use Rattle.qc_model.specs.Canonical.{kind_text, condition_text, variable_text, aggregate_text, constraint_text}

pub data Part : Type 0 where
  head : Scope → Part
  variable : Variable → Part
  aggregate : Aggregate → Part
  constraint : Rule → Part
  goal : Part

-- the constraints of scope i, or of the goal
abbrev pub constraint_parts : Game → ℕ → List Part
constraint_parts g i = map constraint (filter (λ c. c.owner.0 == i) g.constraints)

-- scope i: its head, its variables, its aggregate and its constraints
abbrev pub scope_parts : Game → ℕ → Scope → List Part
scope_parts g i s =
    head s ∷ map variable (filter (λ x. x.scope.0 == i) g.variables) ++ map aggregate (filter (λ q. q.scope.0 == i) g.aggregates)
    ++ constraint_parts g i

-- the scopes from i on, and then the goal
abbrev pub parts_from : Game → List Scope → ℕ → List Part
parts_from g [] i = goal ∷ constraint_parts g i
parts_from g (s ∷ later) i = scope_parts g i s ++ parts_from g later (suc i)

abbrev pub parts_of : Game → List Part
parts_of g = parts_from g g.scopes 0

abbrev pub part_text : Game → Part → List ℕ
part_text g (head s) = kind_text s.kind ++ condition_text g s.condition ++ codes ";\n"
part_text g (variable x) = variable_text x
part_text g (aggregate q) = aggregate_text g q
part_text g (constraint c) = constraint_text g.variables c
part_text g goal = codes "goal;\n"
