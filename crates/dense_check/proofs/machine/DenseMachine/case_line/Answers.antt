use Rattle.std.proofs.Common.{refl, ap, true, false}
use Rattle.dense_tree.specs.Lines.{skip_line, open_line}
use Rattle.dense_check.specs.Lines.{line_told}
use Rattle.dense_ledger.specs.Ledger.{passed, case_line}
use Rattle.dense_check.specs.Telling.{enters_with}
use Rattle.dense_check.proofs.Casing.{fork_told_so, fork_default}
use Rattle.dense_check.proofs.Dispatching.{case_is}
use Rattle.dense_check.proofs.machine.DenseMachine.case_line.Goals as goal

pub returns-in-Skip-clause-goes : goal.returns-in-Skip-clause-goes
returns-in-Skip-clause-goes c = λ t x.
    fork_told_so c.args.self.now c.pass.new.self c.args.line skip_line t c.args.upto (λ d b fs. passed d b fs c.args.upto false) (ap (λ l. line_told l t) c.in-Skip.is) c.pass.ensures.same c.pass.ensures.goes (λ d b fs. refl)

pub returns-in-Open-clause-goes : goal.returns-in-Open-clause-goes
returns-in-Open-clause-goes c = λ t x.
    fork_told_so c.args.self.now c.pass-in-Open.new.self c.args.line open_line t c.args.upto (λ d b fs. passed d b fs c.args.upto true) (ap (λ l. line_told l t) c.in-Open.is) c.pass-in-Open.ensures.same c.pass-in-Open.ensures.goes (λ d b fs. refl)

pub returns-in_default : goal.returns-in_default
returns-in_default c = record {
  goes =
      fork_default c.enter_line.result c.args.self.now c.enter_line.new.self c.args.tuple.now c.args.line (λ s d b fs l. case_line s d b fs c.args.upto l) (λ s d b fs l. enters_with s d b fs c.args.upto l)
      (λ s d b fs t. case_is s d b fs t c.args.upto c.args.line c.in_default.not-Skip c.in_default.not-Open) c.enter_line.ensures.goes;
  same = c.enter_line.ensures.same;
}
