-- The game without wishes in which the player has to keep the quantity from getting worse than a value.
use Rattle.std.specs.Prelude.{nat_le, cond, List, [], ◌∷◌, map, None, ℤ, pos, ◌+ℤ◌, ◌-ℤ◌}
use Rattle.qc_model.specs.declared.problem.Sense.{Sense}
use Rattle.qc_model.specs.declared.problem.Sense.TheVariants.{Min, Max}
use Rattle.qc_model.specs.declared.problem.Pred.TheVariants.{IntLe}
use Rattle.qc_model.specs.declared.problem.Arg.TheVariants.{Var, Num}
use Rattle.qc_model.specs.declared.problem.Argument.{Argument}
use Rattle.qc_model.specs.declared.problem.Argument.TheVariants.{One}
use Rattle.qc_model.specs.declared.problem.VarId.{VarId}
use Rattle.qc_model.specs.declared.problem.Scope.{Scope}
use Rattle.qc_model.specs.Content.{Game, Rule}
use Rattle.zero_sum.specs.declared.stake.Stake.{Stake}

-- the better of the two values beside v
abbrev pub next_better : Sense → ℤ → ℤ
next_better Min v = v -ℤ pos 1
next_better Max v = v +ℤ pos 1

-- x is at most v, or at least v
abbrev pub bound_arguments : Sense → VarId → ℤ → List Argument
bound_arguments Min x v = One (Var x) ∷ One (Num v) ∷ []
bound_arguments Max x v = One (Num v) ∷ One (Var x) ∷ []

-- what is at stake is at least as good as v
abbrev pub bound : Stake → ℤ → Rule
bound z v = record { owner = z.place; pred = IntLe; args = bound_arguments z.sense z.variable v }

-- the constraints with one more, behind those of its own place and of earlier ones
abbrev pub with_rule : Rule → List Rule → List Rule
with_rule r [] = r ∷ []
with_rule r (c ∷ rest) = cond (nat_le c.owner.0 r.owner.0) (c ∷ with_rule r rest) (r ∷ c ∷ rest)

-- the scope without a condition
abbrev pub plain : Scope → Scope
plain s = record { kind = s.kind; condition = None }

abbrev pub bounded_game : Game → Stake → ℤ → Game
bounded_game g z v = record {
  scopes = map plain g.scopes;
  variables = g.variables;
  aggregates = [];
  constraints = with_rule (bound z v) g.constraints;
}
