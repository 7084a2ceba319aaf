use Rattle.dense_ledger.specs.Ledger.{tree_line}
use Rattle.dense_check.specs.Telling.{begins_with}
use Rattle.dense_check.proofs.Turning.{node_default}
use Rattle.dense_check.proofs.Dispatching.{tree_is}
use Rattle.dense_check.proofs.machine.DenseMachine.tree_line.Goals as goal

pub returns-in_default : goal.returns-in_default
returns-in_default c = record {
  goes = node_default c.first_part_line.result c.args.self.now c.args.e c.first_part_line.new.self c.args.tuple.now c.args.line tree_line begins_with (λ s d x t. tree_is s d x t c.args.line c.in_default.not-NoPlay) c.first_part_line.ensures.goes;
  same = c.first_part_line.ensures.same;
}
