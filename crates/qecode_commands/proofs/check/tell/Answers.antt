use Rattle.std.proofs.Common.{subst}
use Rattle.proof_text.specs.declared.fault.CertFault.TheVariants as fault
use Rattle.qc_check.specs.Checking.{Comes}
use Rattle.qecode_commands.proofs.Written.{Wrote-weaker}
use Rattle.qecode_commands.proofs.check.tell.Goals as goal

pub returns-in-Yes-clause-wrote : goal.returns-in-Yes-clause-wrote
returns-in-Yes-clause-wrote g c = Wrote-weaker _ _ _ _ c.confirm.result _ _
    (λ s t is game bytes p. rw is.0 (record { outcome = c.in-Yes.outcome; optimum = c.in-Yes.optimum; proof = subst (Comes game bytes) c.in-Yes.is p; line = is.1 })) c.confirm.ensures.wrote

pub returns-in-NotProved-clause-wrote : goal.returns-in-NotProved-clause-wrote
returns-in-NotProved-clause-wrote g c = Wrote-weaker _ _ _ _ c.finish.result _ _
    (λ s t is game bytes p. rw is.0 (record { no_proof = subst (Comes game bytes) c.in-NotProved.is p; line = is.1 })) c.finish.ensures.wrote

pub returns-in-NotACertificate-clause-wrote : goal.returns-in-NotACertificate-clause-wrote
returns-in-NotACertificate-clause-wrote g c = Wrote-weaker _ _ _ _ c.refuse.result _ _
    (λ s t is game bytes p. rw is.0 (fault.NotACertificate c.in-NotACertificate.at, subst (Comes game bytes) c.in-NotACertificate.is p, is.1)) c.refuse.ensures.wrote

pub returns-in-TooDeep-clause-wrote : goal.returns-in-TooDeep-clause-wrote
returns-in-TooDeep-clause-wrote g c = Wrote-weaker _ _ _ _ c.refuse-in-TooDeep.result _ _
    (λ s t is game bytes p. rw is.0 (fault.TooDeep c.in-TooDeep.at, subst (Comes game bytes) c.in-TooDeep.is p, is.1)) c.refuse-in-TooDeep.ensures.wrote
