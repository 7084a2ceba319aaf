use Rattle.qecode_commands.proofs.Written.{Wrote-weaker, wrote_from, if_err}
use Rattle.qecode_commands.proofs.Down.{text_down, no_problem_file}
use Rattle.qecode_commands.proofs.problem_file.open_problem.Goals as goal

pub returns-in-Ok-clause-refused : goal.returns-in-Ok-clause-refused
returns-in-Ok-clause-refused g c =
    if_err c.problem_in.result _ _
    (λ e wrote. wrote_from g.K.Sink.written g.K.Sink.faults c.args.out.now c.open_file.new.out _ _ e _ c.in-Ok.ensures.silent
    (Wrote-weaker _ _ _ _ e _ _ (λ s t h. text_down _ _ _ _ (rw c.deref.ensures.value c.in-Ok.ensures.bytes) s t h) wrote)) c.problem_in.ensures.refused

pub returns-in-Err-clause-refused : goal.returns-in-Err-clause-refused
returns-in-Err-clause-refused g c = Wrote-weaker _ _ _ _ c.in-Err.status _ _ (no_problem_file _ _ _) c.in-Err.ensures.refused
