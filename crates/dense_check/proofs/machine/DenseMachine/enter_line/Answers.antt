use Rattle.dense_check.specs.Lines.{line_told}
use Rattle.dense_check.proofs.Casing.{not_entered, in_case, enter_goes}
use Rattle.dense_check.proofs.machine.DenseMachine.enter_line.Goals as goal

pub part_line-requires : goal.part_line-requires
part_line-requires c = record { part = in_case c.args.self.now c.enter.new.self c.args.upto c.in-Some.bounded c.enter.ensures.same c.in-Some.ensures.some c.requires.fork }

pub returns-in-None-clause-goes : goal.returns-in-None-clause-goes
returns-in-None-clause-goes c = λ t x. not_entered c.args.self.now c.enter.new.self c.args.upto (line_told c.args.line t) c.in-None.ensures.wrong c.in-None.ensures.none

pub returns-in-Some-clause-goes : goal.returns-in-Some-clause-goes
returns-in-Some-clause-goes c = enter_goes c.part_line.result c.args.self.now c.part_line.new.self c.enter.new.self c.args.upto c.in-Some.bounded c.args.tuple.now c.args.line c.enter.ensures.same c.in-Some.ensures.some c.part_line.ensures.goes
