-- Small games whose strategies the worked cases compute. Variables are numbered in the order of the text.
use Rattle.std.proofs.Common.{ℕ, List, [], ◌∷◌, Option, Some, None}
use Rattle.std.specs.Prelude.{pos, negsuc, ℤ}
use Rattle.qc_model.specs.declared.problem.Kind.TheVariants.{Exists, Forall}
use Rattle.qc_model.specs.declared.problem.Sense.TheVariants.{Min, Max}
use Rattle.qc_model.specs.declared.problem.Fold.{Fold}
use Rattle.qc_model.specs.declared.problem.Fold.TheVariants.{Sum, Least, Greatest}
use Rattle.qc_model.specs.declared.problem.Target.{Target}
use Rattle.qc_model.specs.declared.problem.Target.TheVariants.{Var as VarTarget, Aggregate as Agg}
use Rattle.qc_model.specs.declared.problem.Domain.TheVariants.{Range}
use Rattle.qc_model.specs.declared.problem.Pred.TheVariants.{IntLe, IntLt, IntLinEq, IntLinLe}
use Rattle.qc_model.specs.declared.problem.Pred.{Pred}
use Rattle.qc_model.specs.declared.problem.Arg.{Arg}
use Rattle.qc_model.specs.declared.problem.Arg.TheVariants.{Var, Num}
use Rattle.qc_model.specs.declared.problem.Argument.{Argument}
use Rattle.qc_model.specs.declared.problem.Argument.TheVariants.{One, Many, Numbers}
use Rattle.qc_model.specs.declared.problem.Condition.{Condition}
use Rattle.qc_model.specs.declared.problem.Scope.{Scope}
use Rattle.qc_model.specs.declared.problem.Variable.{Variable}
use Rattle.qc_model.specs.Content.{Game, Rule}

-- a variable of scope s with the values from low to high; names tell nothing here
abbrev pub variable : ℕ → ℤ → ℤ → Variable
variable s low high = record { name = []; scope = record { 0 = s }; domain = Range low high }

abbrev pub rule : ℕ → Pred → List Argument → Rule
rule s p args = record { owner = record { 0 = s }; pred = p; args = args }

abbrev pub var : ℕ → Arg
var x = Var (record { 0 = x })

abbrev pub one_var : ℕ → Argument
one_var x = One (var x)

abbrev pub of_variable : ℕ → Target
of_variable x = VarTarget (record { 0 = x })

abbrev pub of_aggregate : ℕ → Target
of_aggregate q = Agg (record { 0 = q })

abbrev pub minimise : Target → Condition
minimise t = record { sense = Min; target = t }

abbrev pub maximise : Target → Condition
maximise t = record { sense = Max; target = t }

abbrev pub exists : Option Condition → Scope
exists x = record { kind = Exists; condition = x }

abbrev pub forall_scope : Scope
forall_scope = record { kind = Forall; condition = None }

-- exists minimize c; var 0..1: x; exists CONDITION; var 0..1: y; var 0..9: c; var 0..0: d;
-- constraint int_lin_eq([4,1,-1],[y,x,c],0); goal; solve;
-- so c is 4y + x, and d is 0; the follower's condition is left open
abbrev pub priced : Condition → Game
priced follower = record {
  scopes = exists (Some (minimise (of_variable 2))) ∷ exists (Some follower) ∷ [];
  variables = variable 0 (pos 0) (pos 1) ∷ variable 1 (pos 0) (pos 1) ∷ variable 1 (pos 0) (pos 9) ∷ variable 1 (pos 0) (pos 0) ∷ [];
  aggregates = [];
  constraints =
      rule 1 IntLinEq (Numbers (pos 4 ∷ pos 1 ∷ negsuc 0 ∷ []) ∷ Many (var 1 ∷ var 0 ∷ var 2 ∷ []) ∷ One (Num (pos 0)) ∷ []) ∷ [];
}

-- the follower minimises d, which is 0 whatever it does; or it maximises y
abbrev pub indifferent : Game
indifferent = priced (minimise (of_variable 3))

abbrev pub opposed : Game
opposed = priced (maximise (of_variable 1))

-- exists minimize s; var 0..2: x; forall; var 1..3: t; aggregate s = sum(z); exists; var 0..3: z;
-- goal; constraint int_lin_le([1,-1,-1],[t,x,z],0); solve;
-- so z is at least t - x in each branch
abbrev pub summed : Game
summed = record {
  scopes = exists (Some (minimise (of_aggregate 0))) ∷ forall_scope ∷ exists None ∷ [];
  variables = variable 0 (pos 0) (pos 2) ∷ variable 1 (pos 1) (pos 3) ∷ variable 2 (pos 0) (pos 3) ∷ [];
  aggregates = record { name = []; scope = record { 0 = 1 }; fold = Sum; target = of_variable 2 } ∷ [];
  constraints =
      rule 3 IntLinLe (Numbers (pos 1 ∷ negsuc 0 ∷ negsuc 0 ∷ []) ∷ Many (var 1 ∷ var 0 ∷ var 2 ∷ []) ∷ One (Num (pos 0)) ∷ []) ∷ [];
}

-- exists CONDITION on g; var 0..1: x; forall; var 1..2: t; aggregate g = FOLD of t else 7; constraint int_le(t,x);
-- goal; solve;
-- so with x = 0 the opponent has no move
abbrev pub unopposed : Condition → Fold → Game
unopposed c fold = record {
  scopes = exists (Some c) ∷ forall_scope ∷ [];
  variables = variable 0 (pos 0) (pos 1) ∷ variable 1 (pos 1) (pos 2) ∷ [];
  aggregates = record { name = []; scope = record { 0 = 1 }; fold = fold; target = of_variable 1 } ∷ [];
  constraints = rule 1 IntLe (one_var 1 ∷ one_var 0 ∷ []) ∷ [];
}

-- the greatest t, or the least, as great as can be
abbrev pub greatest_of_none : Game
greatest_of_none = unopposed (maximise (of_aggregate 0)) (Greatest (pos 7))

abbrev pub least_of_none : Game
least_of_none = unopposed (maximise (of_aggregate 0)) (Least (pos 7))

-- a scope that no values pass: KIND; var 0..1: x; constraint int_lt(x,0); goal; solve;
abbrev pub blocked : Scope → Game
blocked scope = record {
  scopes = scope ∷ [];
  variables = variable 0 (pos 0) (pos 1) ∷ [];
  aggregates = [];
  constraints = rule 0 IntLt (one_var 0 ∷ One (Num (pos 0)) ∷ []) ∷ [];
}

-- exists minimize CONDITION; exists minimize CONDITION; forall; var 1..2: t; aggregate s = sum(z);
-- aggregate m = greatest(w) else 0; exists; var 0..3: z; var 0..3: w; constraint int_lin_le([1,-1,-1],[t,z,w],0); goal; solve;
-- so z and w make up for t together; the conditions are on the aggregates with these numbers
abbrev pub figures : ℕ → ℕ → Game
figures first second = record {
  scopes = exists (Some (minimise (of_aggregate first))) ∷ exists (Some (minimise (of_aggregate second))) ∷ forall_scope ∷ exists None ∷ [];
  variables = variable 2 (pos 1) (pos 2) ∷ variable 3 (pos 0) (pos 3) ∷ variable 3 (pos 0) (pos 3) ∷ [];
  aggregates =
      record { name = []; scope = record { 0 = 2 }; fold = Sum; target = of_variable 1 }
      ∷ record { name = []; scope = record { 0 = 2 }; fold = Greatest (pos 0); target = of_variable 2 } ∷ [];
  constraints =
      rule 3 IntLinLe (Numbers (pos 1 ∷ negsuc 0 ∷ negsuc 0 ∷ []) ∷ Many (var 0 ∷ var 1 ∷ var 2 ∷ []) ∷ One (Num (pos 0)) ∷ []) ∷ [];
}

-- the sum is asked for before the greatest
abbrev pub sum_then_greatest : Game
sum_then_greatest = figures 1 0
