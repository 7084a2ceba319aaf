use Rattle.std.proofs.Common.{◌∙◌, sym, append-nil}
use Rattle.qecode_commands.proofs.Written.{Wrote-weaker}
use Rattle.qecode_commands.proofs.generate.write_summary.Goals as goal

pub returns-in-True-clause-wrote : goal.returns-in-True-clause-wrote
returns-in-True-clause-wrote g c = Wrote-weaker _ _ _ _ c.finish.result _ _ (λ s t is. rw c.in-True.is (is.0, is.1 ∙ sym (append-nil c.args.summary.now))) c.finish.ensures.wrote

pub returns-in-False-clause-wrote : goal.returns-in-False-clause-wrote
returns-in-False-clause-wrote g c = Wrote-weaker _ _ _ _ c.finish-in-False.result _ _ (λ s t is. rw c.in-False.is (is.0, is.1 ∙ sym (append-nil c.args.summary.now))) c.finish-in-False.ensures.wrote
