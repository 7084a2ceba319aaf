-- What is shown where the first of the scopes has an owner who is stuck.
use Rattle.std.specs.Prelude.{List, [], ◌∷◌}
use Rattle.qc_model.specs.declared.problem.Kind.{Kind}
use Rattle.qc_model.specs.declared.problem.Kind.TheVariants.{Exists, Forall}
use Rattle.qc_model.specs.declared.problem.Scope.{Scope}
use Rattle.qc_model.specs.Plan.{Plan, finish, answer, no_entries}

-- whoever answers an owner who has no tuple has nothing to answer
abbrev pub nothing_answered : Kind → Kind → Plan
nothing_answered Exists Exists = answer no_entries
nothing_answered Exists Forall = finish
nothing_answered Forall Exists = finish
nothing_answered Forall Forall = answer no_entries

abbrev pub stuck_strategy : List Scope → Plan
stuck_strategy [] = finish
stuck_strategy (s ∷ later) = nothing_answered Forall s.kind

abbrev pub stuck_counterstrategy : List Scope → Plan
stuck_counterstrategy [] = finish
stuck_counterstrategy (s ∷ later) = nothing_answered Exists s.kind
