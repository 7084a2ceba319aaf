use Rattle.qc_play.proofs.Outcomes.{if_ok}
use Rattle.qecode_commands.proofs.Written.{Wrote-weaker, wrote_from, if_err}
use Rattle.qecode_commands.proofs.Played.{certificate_text_down, no_certificate_file, read_lines_of}
use Rattle.qecode_commands.proofs.certificate_file.open_certificate.Goals as goal

pub returns-in-Ok-clause-certificate : goal.returns-in-Ok-clause-certificate
returns-in-Ok-clause-certificate g c = if_ok c.certificate_in.result (λ cert read. read_lines_of _ _ cert.outcome cert.optimum cert.lines.items (rw c.deref.ensures.value c.in-Ok.ensures.bytes) read) c.certificate_in.ensures.certificate

pub returns-in-Ok-clause-refused : goal.returns-in-Ok-clause-refused
returns-in-Ok-clause-refused g c =
    if_err c.certificate_in.result _ _
    (λ e wrote. wrote_from g.K.Sink.written g.K.Sink.faults c.args.out.now c.open_file.new.out _ _ e _ c.in-Ok.ensures.silent
    (Wrote-weaker _ _ _ _ e _ _ (λ s t h. certificate_text_down _ _ _ _ (rw c.deref.ensures.value c.in-Ok.ensures.bytes) s t h) wrote)) c.certificate_in.ensures.refused

pub returns-in-Err-clause-refused : goal.returns-in-Err-clause-refused
returns-in-Err-clause-refused g c = Wrote-weaker _ _ _ _ c.in-Err.status _ _ (no_certificate_file _ _ _) c.in-Err.ensures.refused
