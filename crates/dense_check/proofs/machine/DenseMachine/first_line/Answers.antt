use Rattle.dense_check.proofs.Turning.{first_default}
use Rattle.dense_check.proofs.machine.DenseMachine.first_line.Goals as goal

pub returns-in_default : goal.returns-in_default
returns-in_default c = record {
  goes = first_default c.node_line.result c.args.self.now c.node_line.new.self c.args.tuple.now c.args.line c.in_default.not-Given c.node_line.ensures.goes;
  same = c.node_line.ensures.same;
}
