use Rattle.std.specs.Prelude.{IsTrue}
use Rattle.qc_model.specs.declared.problem.Arg.TheVariants.{Var}
use Rattle.qc_model.specs.Valid.{arg_sees}
use Rattle.prop_base.proofs.emptying.last_variable.Given as goal

abbrev pub invariant-loop-argument : goal.invariant-loop-argument
invariant-loop-argument l = IsTrue (arg_sees l.problem.variables l.rule.owner.0 (Var l.last))
