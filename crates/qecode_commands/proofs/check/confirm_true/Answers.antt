use Rattle.std.proofs.Common.{refl}
use Rattle.qecode_commands.proofs.Written.{Wrote-weaker}
use Rattle.qecode_commands.proofs.check.confirm_true.Goals as goal

pub returns-in-None-clause-wrote : goal.returns-in-None-clause-wrote
returns-in-None-clause-wrote g c = Wrote-weaker _ _ _ _ c.finish.result _ _ (λ s t is. (is.0, rw (c.in-None.is, is.1) refl)) c.finish.ensures.wrote
