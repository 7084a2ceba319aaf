use Rattle.std.proofs.Common.{◌∙◌}
use Rattle.dense_box.proofs.Scoped.{stuck_is}
use Rattle.dense_box.proofs.freedom.Freedom.is_never_stuck.Goals as goal

pub returns : goal.returns
returns c = λ g us t. c.is_never_stuck.ensures ∙ stuck_is g us c.args.self.now c.args.i.0 c.index.result.now c.requires c.index.ensures t
