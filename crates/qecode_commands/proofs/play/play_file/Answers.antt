use Rattle.std.proofs.Common.{inl, inr, subst}
use Rattle.qc_play.specs.Sides.{kind_of, choices_of}
use Rattle.qecode_commands.specs.Plays.{PlaysBytes}
use Rattle.qecode_commands.proofs.Written.{Wrote-weaker, wrote_from}
use Rattle.qecode_commands.proofs.play.play_file.Goals as goal

pub returns-in-Ok-clause-wrote : goal.returns-in-Ok-clause-wrote
returns-in-Ok-clause-wrote g c =
    wrote_from g.K.Sink.written g.K.Sink.faults c.args.out.now c.open_file.new.out _ _ c.play_text.result _ c.in-Ok.ensures.silent
    (Wrote-weaker _ _ _ _ c.play_text.result _ _
    (λ s t h. inr (c.in-Ok.text.items, c.in-Ok.ensures.bytes, subst (λ b. PlaysBytes c.args.problem.now (kind_of c.args.side) (choices_of c.args.side) b s t) c.deref.ensures.value h))
    c.play_text.ensures.wrote)

pub returns-in-Err-clause-wrote : goal.returns-in-Err-clause-wrote
returns-in-Err-clause-wrote g c = Wrote-weaker _ _ _ _ c.in-Err.status _ _ (λ s t d. inl d) c.in-Err.ensures.refused
