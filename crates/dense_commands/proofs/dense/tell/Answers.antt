use Rattle.std.proofs.Common.{subst}
use Rattle.dense_judge.specs.Checking.{Comes}
use Rattle.qecode_commands.proofs.Written.{Wrote-weaker}
use Rattle.dense_commands.proofs.dense.tell.Goals as goal

pub returns-in-Yes-clause-wrote : goal.returns-in-Yes-clause-wrote
returns-in-Yes-clause-wrote g c = Wrote-weaker _ _ _ _ c.confirm.result _ _
    (λ s t is game bytes p. rw is.0 (record { outcome = c.in-Yes.outcome; optimum = c.in-Yes.optimum; proof = subst (Comes game bytes) c.in-Yes.is p; line = is.1 })) c.confirm.ensures.wrote

pub returns-in-NotProved-clause-wrote : goal.returns-in-NotProved-clause-wrote
returns-in-NotProved-clause-wrote g c = Wrote-weaker _ _ _ _ c.finish.result _ _
    (λ s t is game bytes p. rw is.0 (record { no_proof = subst (Comes game bytes) c.in-NotProved.is p; line = is.1 })) c.finish.ensures.wrote

pub returns-in-NotACertificate-clause-wrote : goal.returns-in-NotACertificate-clause-wrote
returns-in-NotACertificate-clause-wrote g c = Wrote-weaker _ _ _ _ c.refuse.result _ _
    (λ s t is game bytes p. rw is.0 (record { place = c.in-NotACertificate.at; fault = subst (Comes game bytes) c.in-NotACertificate.is p; line = is.1 })) c.refuse.ensures.wrote
