use Rattle.std.proofs.Common.{inl, inr, subst}
use Rattle.qecode_commands.proofs.Written.{Wrote-weaker, wrote_from}
use Rattle.tell_commands.specs.Allowed.{ListsBytes}
use Rattle.tell_commands.proofs.allowed.list_file.Goals as goal

pub returns-in-Ok-clause-wrote : goal.returns-in-Ok-clause-wrote
returns-in-Ok-clause-wrote g c =
    wrote_from g.K.Sink.written g.K.Sink.faults c.args.out.now c.open_file.new.out _ _ c.list_text.result _ c.in-Ok.ensures.silent
    (Wrote-weaker _ _ _ _ c.list_text.result _ _
    (λ s t h. inr (c.in-Ok.text.items, c.in-Ok.ensures.bytes, subst (λ b. ListsBytes c.args.problem.now c.args.most b s t) c.deref.ensures.value h))
    c.list_text.ensures.wrote)

pub returns-in-Err-clause-wrote : goal.returns-in-Err-clause-wrote
returns-in-Err-clause-wrote g c = Wrote-weaker _ _ _ _ c.in-Err.status _ _ (λ s t d. inl d) c.in-Err.ensures.refused
