use Rattle.std.specs.Prelude.{IsTrue}
use Rattle.qc_model.specs.declared.problem.Arg.TheVariants.{Var}
use Rattle.qc_model.specs.Valid.{arg_sees}
use Rattle.prop_base.proofs.emptying.last_among.Given as goal

abbrev pub invariant-loop-item : goal.invariant-loop-item
invariant-loop-item l = IsTrue (arg_sees l.problem.variables l.rule.owner.0 (Var l.last))
