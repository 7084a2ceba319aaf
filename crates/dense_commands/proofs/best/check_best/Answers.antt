use Rattle.std.proofs.Common.{inl, inr, refl}
use Rattle.qecode_commands.proofs.Written.{Wrote-weaker, wrote_from}
use Rattle.dense_commands.proofs.best.check_best.Goals as goal

pub returns-in-Ok-clause-wrote : goal.returns-in-Ok-clause-wrote
returns-in-Ok-clause-wrote g c =
    wrote_from g.K.Sink.written g.K.Sink.faults c.args.out.now c.open_file.new.out _ _ c.judge.result _ c.in-Ok.ensures.silent
    (Wrote-weaker _ _ _ _ c.judge.result _ _
    (λ s t h. elim h [ inl m ↦ inl (rw (m.0, m.1) refl) | inr k ↦ inr (c.in-Ok.bytes.items, c.in-Ok.ensures.bytes, rw (← c.as_slice.ensures.value) k) ])
    c.judge.ensures.wrote)

pub returns-in-Err-clause-wrote : goal.returns-in-Err-clause-wrote
returns-in-Err-clause-wrote g c = Wrote-weaker _ _ _ _ c.in-Err.status _ _ (λ s t d. inl d) c.in-Err.ensures.refused
