use Rattle.std.proofs.Common.{refl}
use Rattle.qecode_commands.proofs.Written.{Wrote-weaker}
use Rattle.qecode_commands.proofs.check.confirm.Goals as goal

pub returns-in-False-clause-wrote : goal.returns-in-False-clause-wrote
returns-in-False-clause-wrote g c = Wrote-weaker _ _ _ _ c.finish.result _ _ (λ s t is. (is.0, rw (c.in-False.is, is.1) refl)) c.finish.ensures.wrote
