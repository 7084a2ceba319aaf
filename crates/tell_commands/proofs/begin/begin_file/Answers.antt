use Rattle.std.proofs.Common.{inl, inr}
use Rattle.qecode_commands.proofs.Written.{Wrote-weaker, wrote_from}
use Rattle.tell_commands.proofs.begin.begin_file.Goals as goal

pub begin_certificate-requires : goal.begin_certificate-requires
begin_certificate-requires g c = c.in-Ok.ensures.certificate.listed

pub returns-in-Ok-clause-wrote : goal.returns-in-Ok-clause-wrote
returns-in-Ok-clause-wrote g c =
    let cert = c.in-Ok.cert in
    let known = c.in-Ok.ensures.certificate in
    wrote_from g.K.Sink.written g.K.Sink.faults c.args.out.now c.open_certificate.new.out _ _ c.begin_certificate.result _ c.in-Ok.ensures.silent
    (Wrote-weaker _ _ _ _ c.begin_certificate.result _ _ (λ s t h. inr (cert.outcome, cert.optimum, known.root, known.of, h known.root known.is)) c.begin_certificate.ensures.wrote)

pub returns-in-Err-clause-wrote : goal.returns-in-Err-clause-wrote
returns-in-Err-clause-wrote g c = Wrote-weaker _ _ _ _ c.in-Err.status _ _ (λ s t d. inl d) c.in-Err.ensures.refused
