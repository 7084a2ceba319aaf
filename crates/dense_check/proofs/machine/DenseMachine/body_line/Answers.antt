use Rattle.dense_ledger.specs.Ledger.{tree_line, body_line}
use Rattle.dense_check.proofs.Turning.{node_default}
use Rattle.dense_check.proofs.Dispatching.{body_is}
use Rattle.dense_check.proofs.machine.DenseMachine.body_line.Goals as goal

pub returns-in_default : goal.returns-in_default
returns-in_default c = record {
  goes = node_default c.tree_line.result c.args.self.now c.args.e c.tree_line.new.self c.args.tuple.now c.args.line body_line tree_line (λ s d x t. body_is s d x t c.args.line c.in_default.not-Stuck c.in_default.not-Goal) c.tree_line.ensures.goes;
  same = c.tree_line.ensures.same;
}
