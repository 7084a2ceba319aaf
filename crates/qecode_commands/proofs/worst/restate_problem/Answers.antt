use Rattle.std.proofs.Common.{inl, inr, subst}
use Rattle.qecode_commands.specs.Answers.{PrintsProblem}
use Rattle.qecode_commands.proofs.Written.{Wrote-weaker, wrote_from}
use Rattle.qecode_commands.proofs.worst.restate_problem.Goals as goal

pub returns-in-Ok-clause-wrote : goal.returns-in-Ok-clause-wrote
returns-in-Ok-clause-wrote g c =
    wrote_from g.K.Sink.written g.K.Sink.faults c.args.out.now c.oppose.new.out _ _ c.write_problem.result _ c.in-Ok.ensures.silent
    (Wrote-weaker _ _ _ _ c.write_problem.result _ _ (λ s t h. inr (c.in-Ok.ensures.reading, subst (λ q. PrintsProblem q s t) c.in-Ok.ensures.made h)) c.write_problem.ensures.wrote)

pub returns-in-Err-clause-wrote : goal.returns-in-Err-clause-wrote
returns-in-Err-clause-wrote g c = Wrote-weaker _ _ _ _ c.in-Err.status _ _ (λ s t d. inl d) c.in-Err.ensures.refused
