use Rattle.dense_ledger.specs.Ledger.{horizoned, node_line}
use Rattle.dense_check.proofs.Turning.{node_default}
use Rattle.dense_check.proofs.Dispatching.{node_is}
use Rattle.dense_check.proofs.machine.DenseMachine.node_line.Goals as goal

pub returns-in_default : goal.returns-in_default
returns-in_default c = record {
  goes = node_default c.named_body_line.result c.args.self.now c.args.e c.named_body_line.new.self c.args.tuple.now c.args.line node_line horizoned (λ s d x t. node_is s d x t c.args.line c.in_default.not-Named c.in_default.not-Again c.in_default.not-NoPlay) c.named_body_line.ensures.goes;
  same = c.named_body_line.ensures.same;
}
