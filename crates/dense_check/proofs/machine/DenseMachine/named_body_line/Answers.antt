use Rattle.dense_ledger.specs.Ledger.{body_line, horizoned}
use Rattle.dense_check.proofs.Turning.{node_default}
use Rattle.dense_check.proofs.Dispatching.{horizoned_is}
use Rattle.dense_check.proofs.machine.DenseMachine.named_body_line.Goals as goal

pub returns-in_default : goal.returns-in_default
returns-in_default c = record {
  goes = node_default c.body_line.result c.args.self.now c.args.e c.body_line.new.self c.args.tuple.now c.args.line horizoned body_line (λ s d x t. horizoned_is s d x t c.args.line c.in_default.not-Horizon) c.body_line.ensures.goes;
  same = c.body_line.ensures.same;
}
