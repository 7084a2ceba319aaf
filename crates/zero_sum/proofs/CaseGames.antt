-- Small games for the worked cases. Variables are numbered in the order of the text.
use Rattle.std.proofs.Common.{ℕ, [], ◌∷◌, Some, None}
use Rattle.std.specs.Prelude.{codes, pos}
use Rattle.qc_model.specs.declared.problem.Sense.{Sense}
use Rattle.qc_model.specs.declared.problem.Fold.{Fold}
use Rattle.qc_model.specs.declared.problem.Fold.TheVariants.{Greatest}
use Rattle.qc_model.specs.declared.problem.Domain.TheVariants.{Range}
use Rattle.qc_model.specs.declared.problem.Pred.TheVariants.{IntLe, IntLt}
use Rattle.qc_model.specs.declared.problem.Arg.TheVariants.{Num}
use Rattle.qc_model.specs.declared.problem.Argument.TheVariants.{One}
use Rattle.qc_model.specs.Content.{Game}
use Rattle.model_laws.proofs.CaseGames.{variable, rule, one_var, of_variable, of_aggregate, minimise, exists, forall_scope}
use Rattle.zero_sum.specs.declared.stake.Stake.{Stake}

abbrev pub stake : Sense → ℕ → ℕ → Stake
stake c x p = record { sense = c; variable = record { 0 = x }; place = record { 0 = p } }

-- exists minimize m; forall; var 1..2: t; aggregate m = FOLD of z; exists; var 1..2: z; goal; constraint int_le(t,z); solve;
abbrev pub answered : Fold → Game
answered fold = record {
  scopes = exists (Some (minimise (of_aggregate 0))) ∷ forall_scope ∷ exists None ∷ [];
  variables =
      record { name = codes "t"; scope = record { 0 = 1 }; domain = Range (pos 1) (pos 2) }
      ∷ record { name = codes "z"; scope = record { 0 = 2 }; domain = Range (pos 1) (pos 2) } ∷ [];
  aggregates = record { name = codes "m"; scope = record { 0 = 1 }; fold = fold; target = of_variable 1 } ∷ [];
  constraints = rule 3 IntLe (one_var 0 ∷ one_var 1 ∷ []) ∷ [];
}

-- exists minimize x; var 1..2: x; forall; var 1..1: y; constraint int_le(x,y); goal; constraint int_lt(x,1); solve;
-- so the player has to leave the opponent without a move
abbrev pub priced : Game
priced = record {
  scopes = exists (Some (minimise (of_variable 0))) ∷ forall_scope ∷ [];
  variables = variable 0 (pos 1) (pos 2) ∷ variable 1 (pos 1) (pos 1) ∷ [];
  aggregates = [];
  constraints = rule 1 IntLe (one_var 0 ∷ one_var 1 ∷ []) ∷ rule 2 IntLt (one_var 0 ∷ One (Num (pos 1)) ∷ []) ∷ [];
}

-- exists minimize m; forall; var 1..2: t; aggregate m = greatest(t) else 0; forall; var 1..1: u; constraint int_le(t,u); goal; solve;
-- so after t = 2 the opponent has no move
abbrev pub unanswered : Game
unanswered = record {
  scopes = exists (Some (minimise (of_aggregate 0))) ∷ forall_scope ∷ forall_scope ∷ [];
  variables = variable 1 (pos 1) (pos 2) ∷ variable 2 (pos 1) (pos 1) ∷ [];
  aggregates = record { name = []; scope = record { 0 = 1 }; fold = Greatest (pos 0); target = of_variable 0 } ∷ [];
  constraints = rule 2 IntLe (one_var 0 ∷ one_var 1 ∷ []) ∷ [];
}

-- exists minimize m; forall; var 1..2: t; aggregate m = greatest(n) else 0; exists; var 0..1: y; forall; var 1..2: u;
-- aggregate n = greatest(z) else 0; exists; var 1..3: z; goal; solve;
abbrev pub two_rounds : Game
two_rounds = record {
  scopes = exists (Some (minimise (of_aggregate 0))) ∷ forall_scope ∷ exists None ∷ forall_scope ∷ exists None ∷ [];
  variables = variable 1 (pos 1) (pos 2) ∷ variable 2 (pos 0) (pos 1) ∷ variable 3 (pos 1) (pos 2) ∷ variable 4 (pos 1) (pos 3) ∷ [];
  aggregates =
      record { name = []; scope = record { 0 = 1 }; fold = Greatest (pos 0); target = of_aggregate 1 }
      ∷ record { name = []; scope = record { 0 = 3 }; fold = Greatest (pos 0); target = of_variable 3 } ∷ [];
  constraints = [];
}
