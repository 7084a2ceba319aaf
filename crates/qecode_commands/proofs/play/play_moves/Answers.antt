use Rattle.std.proofs.Common.{◌∙◌, sym, subst}
use Rattle.qc_play.specs.Play.{play_of}
use Rattle.qc_play.specs.Playing.{IsTextOf}
use Rattle.qc_play.specs.Sides.{kind_of, choices_of}
use Rattle.qecode_commands.proofs.Written.{Wrote-weaker}
use Rattle.qecode_commands.proofs.Played.{play_down}
use Rattle.qecode_commands.proofs.play.play_moves.Goals as goal

pub returns-in-Ok-clause-wrote : goal.returns-in-Ok-clause-wrote
returns-in-Ok-clause-wrote g c =
    let play = play_of c.args.problem.now (kind_of c.args.side) (choices_of c.args.side) c.args.moves.now in
    Wrote-weaker _ _ _ _ c.finish.result _ _
    (λ s t is. rw is.0 (record { told = subst (IsTextOf play) (sym (is.1 ∙ c.deref.ensures.value)) c.in-Ok.ensures.told; ends = c.in-Ok.ensures.ends })) c.finish.ensures.wrote

pub returns-in-Err-clause-wrote : goal.returns-in-Err-clause-wrote
returns-in-Err-clause-wrote g c =
    Wrote-weaker _ _ _ _ c.turn_play_down.result _ _
    (λ s t is. play_down c.args.problem.now (kind_of c.args.side) (choices_of c.args.side) c.args.moves.now c.in-Err.fault s t c.in-Err.ensures.told is) c.turn_play_down.ensures.wrote
