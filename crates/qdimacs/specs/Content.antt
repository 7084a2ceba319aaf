-- The game of a formula: a scope for each block, and a constraint of the goal for each clause.
use Rattle.std.specs.Prelude.{◌==◌, ℕ, suc, not, cond, List, [], ◌∷◌, ◌++◌, map, filter, flat_map, length, None, codes}
use Rattle.std.specs.Fmt.{decimal}
use Rattle.qc_model.specs.declared.problem.Domain.TheVariants.{Bits}
use Rattle.qc_model.specs.declared.problem.Pred.TheVariants.{BoolClause}
use Rattle.qc_model.specs.declared.problem.Arg.{Arg}
use Rattle.qc_model.specs.declared.problem.Arg.TheVariants.{Var}
use Rattle.qc_model.specs.declared.problem.Argument.TheVariants.{Many}
use Rattle.qc_model.specs.declared.problem.Scope.{Scope}
use Rattle.qc_model.specs.declared.problem.Variable.{Variable}
use Rattle.qc_model.specs.Content.{Game, Rule}
use Rattle.qdimacs.specs.Formula.{Literal, Block, Formula}

-- the variables in the order of their blocks
abbrev pub order : List Block → List ℕ
order bs = flat_map (λ b. b.variables) bs

-- where a variable stands in that order
abbrev pub place : ℕ → List ℕ → ℕ
place x [] = 0
place x (y ∷ ys) = cond (x == y) 0 (suc (place x ys))

abbrev pub name_of : ℕ → List ℕ
name_of x = codes "v" ++ decimal x

abbrev pub scope_of : Block → Scope
scope_of b = record { kind = b.kind; condition = None }

abbrev pub variable_of : ℕ → ℕ → Variable
variable_of i x = record { name = name_of x; scope = record { 0 = i }; domain = Bits }

-- the variables of these blocks, the first of which is scope i
abbrev pub variables_of : ℕ → List Block → List Variable
variables_of i [] = []
variables_of i (b ∷ bs) = map (variable_of i) b.variables ++ variables_of (suc i) bs

abbrev pub positives : List Literal → List ℕ
positives ls = map (λ l. l.variable) (filter (λ l. l.positive) ls)

abbrev pub negatives : List Literal → List ℕ
negatives ls = map (λ l. l.variable) (filter (λ l. not l.positive) ls)

abbrev pub arg_of : (ℕ → ℕ) → ℕ → Arg
arg_of at x = Var (record { 0 = at x })

-- a clause as a constraint of scope i, where each variable stands at this place
abbrev pub rule_of : ℕ → (ℕ → ℕ) → List Literal → Rule
rule_of i at ls = record {
  owner = record { 0 = i };
  pred = BoolClause;
  args = Many (map (arg_of at) (positives ls)) ∷ Many (map (arg_of at) (negatives ls)) ∷ [];
}

abbrev pub game_of : Formula → Game
game_of φ = record {
  scopes = map scope_of φ.blocks;
  variables = variables_of 0 φ.blocks;
  aggregates = [];
  constraints = map (rule_of (length φ.blocks) (λ x. place x (order φ.blocks))) φ.clauses;
}
