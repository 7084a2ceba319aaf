use Rattle.qecode_commands.proofs.Written.{Wrote-weaker, wrote_from, if_err}
use Rattle.qecode_commands.proofs.Down.{formula_down, no_formula_file}
use Rattle.qecode_commands.proofs.formula_file.open_formula.Goals as goal

pub returns-in-Ok-clause-refused : goal.returns-in-Ok-clause-refused
returns-in-Ok-clause-refused g c =
    if_err c.game_in.result _ _
    (λ e wrote. wrote_from g.K.Sink.written g.K.Sink.faults c.args.out.now c.open_file.new.out _ _ e _ c.in-Ok.ensures.silent
    (Wrote-weaker _ _ _ _ e _ _ (λ s t h. formula_down _ _ _ _ (rw c.deref.ensures.value c.in-Ok.ensures.bytes) s t h) wrote)) c.game_in.ensures.refused

pub returns-in-Err-clause-refused : goal.returns-in-Err-clause-refused
returns-in-Err-clause-refused g c = Wrote-weaker _ _ _ _ c.in-Err.status _ _ (no_formula_file _ _ _) c.in-Err.ensures.refused
