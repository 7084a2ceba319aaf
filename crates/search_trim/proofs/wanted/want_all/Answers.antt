use Rattle.std.proofs.Common.{◌∙◌}
use Rattle.search_trim.proofs.Marks.{argument_more}
use Rattle.search_trim.proofs.wanted.want_all.Goals as goal

pub loop-argument-preserved : goal.loop-argument-preserved
loop-argument-preserved c =
    argument_more c.loop-argument.marks c.want_argument.new.marks c.args.args.now c.loop-argument.argument-index c.argument-item.result c.loop-argument-test.true c.argument-item.is c.want_argument.ensures
    ∙ c.loop-argument.invariant
