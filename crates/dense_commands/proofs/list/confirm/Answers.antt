use Rattle.std.proofs.Common.{refl}
use Rattle.qecode_commands.proofs.Written.{Wrote-weaker}
use Rattle.dense_commands.proofs.list.confirm.Goals as goal

pub returns-in-Exists-clause-wrote : goal.returns-in-Exists-clause-wrote
returns-in-Exists-clause-wrote g c = Wrote-weaker _ _ _ _ c.finish.result _ _ (λ s t is. (is.0, rw (c.in-Exists.is, is.1) refl)) c.finish.ensures.wrote

pub returns-in-Forall-clause-wrote : goal.returns-in-Forall-clause-wrote
returns-in-Forall-clause-wrote g c = Wrote-weaker _ _ _ _ c.finish-in-Forall.result _ _ (λ s t is. (is.0, rw (c.in-Forall.is, is.1) refl)) c.finish-in-Forall.ensures.wrote
