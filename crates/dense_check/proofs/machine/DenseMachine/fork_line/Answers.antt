use Rattle.std.proofs.Common.{ap, None, rules}
use Rattle.std.proofs.lemmas.Int.{to_z-of_z}
use mir.Val.{SFits}
use mir.Syntax.{w64}
use Rattle.dense_check.specs.Lines.{line_told}
use Rattle.dense_ledger.specs.Ledger.{case_line, fork_line}
use Rattle.dense_check.proofs.Casing.{fork_default, dot_goes, range_goes}
use Rattle.dense_check.proofs.Dispatching.{fork_is}
use Rattle.dense_check.proofs.machine.DenseMachine.fork_line.Goals as goal

pub returns-in-Dot-clause-goes : goal.returns-in-Dot-clause-goes
returns-in-Dot-clause-goes c = dot_goes c.end_cases.result c.args.self.now c.end_cases.new.self c.args.tuple.now c.args.line (λ t. ap (λ l. line_told l t) c.in-Dot.is) c.end_cases.ensures.same c.end_cases.ensures.goes

pub returns-in-Range-clause-goes : goal.returns-in-Range-clause-goes
returns-in-Range-clause-goes c = λ t x.
    let high : SFits w64 c.in-Range.high = search rules in
    range_goes c.args.self.now c.range.new.self c.args.line t c.in-Range.high (ap (λ l. line_told l t) c.in-Range.is) c.range.ensures.same (simp to_z-of_z at c.range.ensures.goes)

pub returns-in_default : goal.returns-in_default
returns-in_default c = record {
  goes =
      fork_default c.case_line.result c.args.self.now c.case_line.new.self c.args.tuple.now c.args.line fork_line (λ s d b fs l. case_line s d b fs None l)
      (λ s d b fs t. fork_is s d b fs t c.args.line c.in_default.not-Dot c.in_default.not-Range) c.case_line.ensures.goes;
  same = c.case_line.ensures.same;
}
