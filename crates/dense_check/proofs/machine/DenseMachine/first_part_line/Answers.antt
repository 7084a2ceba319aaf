use Rattle.std.proofs.Common.{◌∙◌, sym, false}
use Rattle.dense_check.proofs.Noding.{first_goes, cases_are, in_part_begun}
use Rattle.dense_check.proofs.machine.DenseMachine.first_part_line.Goals as goal

pub part_line-requires : goal.part_line-requires
part_line-requires c = record { part = in_part_begun c.args.self.now c.args.e c.begin.new.self c.begin.ensures.same c.begin.ensures.goes c.requires.node }

pub returns-clause-goes : goal.returns-clause-goes
returns-clause-goes c =
    first_goes c.part_line.result c.args.self.now c.part_line.new.self c.args.e c.begin.new.self c.args.tuple.now c.args.line c.begin.ensures.same c.begin.ensures.entry c.begin.ensures.remains c.begin.ensures.goes
    (sym (cases_are c.args.self.now c.args.e false false (sym c.if-is_at_horizon.false ∙ c.is_at_horizon.ensures) (sym c.if-is_at_goal.false ∙ c.is_at_goal.ensures))) c.part_line.ensures.goes
