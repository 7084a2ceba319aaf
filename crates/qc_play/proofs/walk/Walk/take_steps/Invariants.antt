use Rattle.std.proofs.Common.{◌≤◌, length, ◌∷◌}
use Rattle.qc_play.specs.Walk.{game_of}
use Rattle.qc_play.proofs.StepLines.{StepsLeft}
use Rattle.qc_play.proofs.walk.Walk.take_steps.Given as goal

abbrev pub invariant-loop-step : goal.invariant-loop-step
invariant-loop-step l = record {
  left : StepsLeft (game_of l.tables) l.i.0 (l.fn.first ∷ l.fn.lines) (l.line ∷ l.lines) l.fn.self l.self;
  shorter : length l.lines ≤ length l.fn.lines;
}

abbrev pub decreases-loop-step : goal.decreases-loop-step
decreases-loop-step l = length l.lines
