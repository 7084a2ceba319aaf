use Rattle.std.proofs.Common.{◌≡◌, ◌++◌, drop}
use Rattle.proof_text.specs.Parts.{steps_text}
use Rattle.proof_text.proofs.write.put_steps.Given as goal

abbrev pub invariant-loop-step : goal.invariant-loop-step
invariant-loop-step l = l.out.items ++ steps_text (drop l.step-index l.steps) ≡ l.fn.out.items ++ steps_text l.steps
