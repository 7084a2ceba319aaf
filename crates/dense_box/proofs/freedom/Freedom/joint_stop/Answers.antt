use Rattle.std.proofs.Common.{◌∙◌, sym}
use Rattle.dense_box.proofs.Scoped.{block_ends}
use Rattle.dense_box.proofs.freedom.Freedom.joint_stop.Goals as goal

pub returns : goal.returns
returns c = λ g us t. block_ends g us c.args.self.now c.args.i.0 c.index.result.now c.requires c.index.ensures t (sym (c.is_joint.ensures g us t) ∙ c.if-is_joint.false)
