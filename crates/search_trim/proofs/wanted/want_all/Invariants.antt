use Rattle.std.proofs.Common.{◌≡◌, drop}
use Rattle.qc_model.specs.Arguments.{variables_of}
use Rattle.search_trim.specs.Slice.{wanting_all}
use Rattle.search_trim.proofs.wanted.want_all.Given as goal

abbrev pub invariant-loop-argument : goal.invariant-loop-argument
invariant-loop-argument l = wanting_all l.marks (variables_of (drop l.argument-index l.args)) ≡ wanting_all l.initial.marks (variables_of l.args)
