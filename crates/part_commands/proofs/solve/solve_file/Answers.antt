use Rattle.std.proofs.Common.{inl, inr}
use Rattle.qecode_commands.proofs.Written.{Wrote-weaker, wrote_from}
use Rattle.part_commands.proofs.solve.solve_file.Goals as goal

pub returns-in-Ok-clause-wrote : goal.returns-in-Ok-clause-wrote
returns-in-Ok-clause-wrote g c =
    wrote_from g.K.Sink.written g.K.Sink.faults c.args.out.now c.open_problem.new.out _ _ c.solve_for.result _ c.in-Ok.ensures.silent
    (Wrote-weaker _ _ _ _ c.solve_for.result _ _ (λ s t h. inr (c.in-Ok.problem, c.in-Ok.ensures.problem, h)) c.solve_for.ensures.wrote)

pub returns-in-Err-clause-wrote : goal.returns-in-Err-clause-wrote
returns-in-Err-clause-wrote g c = Wrote-weaker _ _ _ _ c.in-Err.status _ _ (λ s t d. inl d) c.in-Err.ensures.refused
