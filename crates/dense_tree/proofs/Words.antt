-- Words to write games and dense trees with.
use Rattle.std.specs.Prelude.{ℕ, List, [], ◌∷◌, Some, None, ℤ, pos, true, false}
use Rattle.qc_model.specs.declared.problem.Arg.{Arg}
use Rattle.qc_model.specs.declared.problem.Arg.TheVariants.{Var, Num}
use Rattle.qc_model.specs.declared.problem.Argument.{Argument}
use Rattle.qc_model.specs.declared.problem.Argument.TheVariants.{One, Many, Numbers}
use Rattle.qc_model.specs.declared.problem.Target.{Target}
use Rattle.qc_model.specs.declared.problem.Target.TheVariants.{Var as TVar}
use Rattle.qc_model.specs.declared.problem.Domain.{Domain}
use Rattle.qc_model.specs.declared.problem.Domain.TheVariants.{Range}
use Rattle.qc_model.specs.declared.problem.Pred.{Pred}
use Rattle.qc_model.specs.declared.problem.Pred.TheVariants.{IntLinLe}
use Rattle.qc_model.specs.declared.problem.Scope.{Scope}
use Rattle.qc_model.specs.declared.problem.ScopeId.{ScopeId}
use Rattle.qc_model.specs.declared.problem.Variable.{Variable}
use Rattle.qc_model.specs.Content.{Game, Rule}
use Rattle.proof_tree.proofs.Build.{var, rule}
use Rattle.dense_tree.specs.Tree.{Step, Node, node, goal, cases, stuck, Ending, next, Branches, piece, skip, go, Given, Certificate}

-- var 0..1
abbrev pub bit : Domain
bit = Range (pos 0) (pos 1)

-- a game without aggregates
abbrev pub game : List Scope → List Variable → List Rule → Game
game scopes variables constraints = record { scopes = scopes; variables = variables; aggregates = []; constraints = constraints }

abbrev pub of_variable : ℕ → Target
of_variable x = TVar (var x)

abbrev pub at : ℕ → Argument
at x = One (Var (var x))

abbrev pub num : ℤ → Argument
num n = One (Num n)

-- a constraint on two arguments, of scope i
abbrev pub rule_two : ℕ → Pred → Argument → Argument → Rule
rule_two i p a b = rule i p (a ∷ b ∷ [])

-- a sum of products that is at most n, of scope i
abbrev pub sum_at_most : ℕ → List ℤ → List Arg → ℤ → Rule
sum_at_most i ns xs n = rule i IntLinLe (Numbers ns ∷ Many xs ∷ num n ∷ [])

-- a scope, or the goal, by its number
abbrev pub scope_id : ℕ → ScopeId
scope_id k = record { 0 = k }

-- a node without a name and a horizon
abbrev pub plainly : List Step → Ending → Node
plainly steps end = node false None (cases steps end)

abbrev pub named : List Step → Ending → Node
named steps end = node true None (cases steps end)

abbrev pub at_goal : Node
at_goal = node false None goal

abbrev pub at_stuck : Node
at_stuck = node false None stuck

abbrev pub no_steps : List Step
no_steps = []

-- n, g
abbrev pub on_to_goal : Ending
on_to_goal = next at_goal

-- cases of one value, and of those up to one
abbrev pub case_one : List Step → Ending → Branches → Branches
case_one steps end bs = piece None (go steps end) bs

abbrev pub case_to : ℤ → List Step → Ending → Branches → Branches
case_to high steps end bs = piece (Some high) (go steps end) bs

abbrev pub skip_one : Branches → Branches
skip_one bs = piece None skip bs

abbrev pub alone : Node → Certificate
alone t = record { given = []; root = t }

-- of a scope of one variable, by its number: u K V
abbrev pub given_of : ℕ → ℤ → Given
given_of k v = record { scope = scope_id k; tuple = v ∷ [] }

abbrev pub with_given : List Given → Node → Certificate
with_given us t = record { given = us; root = t }
