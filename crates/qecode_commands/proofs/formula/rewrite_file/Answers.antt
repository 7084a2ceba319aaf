use Rattle.std.proofs.Common.{inl, inr}
use Rattle.qecode_commands.proofs.Written.{Wrote-weaker, wrote_from}
use Rattle.qecode_commands.proofs.FormulaGames.{rewritten}
use Rattle.qecode_commands.proofs.formula.rewrite_file.Goals as goal

pub returns-in-Ok-clause-wrote : goal.returns-in-Ok-clause-wrote
returns-in-Ok-clause-wrote g c =
    let game = c.in-Ok.ensures.game in
    wrote_from g.K.Sink.written g.K.Sink.faults c.args.out.now c.open_formula.new.out _ _ c.write_problem.result _ c.in-Ok.ensures.silent
    (Wrote-weaker _ _ _ _ c.write_problem.result _ _
    (λ s t h. inr (game.read.file, record { bytes = game.bytes; file = game.file; states = game.read.states }, rewritten game.bytes c.in-Ok.problem game.read s t h)) c.write_problem.ensures.wrote)

pub returns-in-Err-clause-wrote : goal.returns-in-Err-clause-wrote
returns-in-Err-clause-wrote g c = Wrote-weaker _ _ _ _ c.in-Err.status _ _ (λ s t d. inl d) c.in-Err.ensures.refused
