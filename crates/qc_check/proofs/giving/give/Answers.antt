use Rattle.std.proofs.Common.{sym, subst}
use Rattle.qc_model.specs.Valid.{IsValid}
use Rattle.qc_check.proofs.Given.{takes_line}
use Rattle.qc_check.proofs.giving.give.Goals as goal

pub returns-clause-takes : goal.returns-clause-takes
returns-clause-takes c = takes_line _ _ c.args.line (subst IsValid (sym c.args.space.now.of_problem) c.known.ensures) c.line.ensures.same c.line.ensures.base c.line.ensures.tells
