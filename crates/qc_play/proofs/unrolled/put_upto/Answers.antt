use Rattle.std.proofs.Common.{sym, subst}
use Rattle.proof_tree.specs.Lines.{upto_lines}
use Rattle.qc_play.proofs.Putting.{IsPut, none_put}
use Rattle.qc_play.proofs.unrolled.put_upto.Goals as goal

pub returns-in-None : goal.returns-in-None
returns-in-None c = subst (λ z. IsPut c.args.lines.now.items c.args.lines.now.items (upto_lines z)) (sym c.in-None.is) (none_put c.args.lines.now.items)
