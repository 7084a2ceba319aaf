use Rattle.std.proofs.Common.{sym, subst}
use Rattle.proof_tree.specs.Lines.{upto_lines}
use Rattle.qc_check.specs.Giving.{Takes}
use Rattle.qc_check.proofs.Given.{takes_none}
use Rattle.qc_check.proofs.giving.give_upto.Goals as goal

pub returns-in-None-clause-takes : goal.returns-in-None-clause-takes
returns-in-None-clause-takes c = subst (λ z. Takes c.args.space.now c.args.space.now (upto_lines z)) (sym c.in-None.is) (takes_none c.args.space.now)
