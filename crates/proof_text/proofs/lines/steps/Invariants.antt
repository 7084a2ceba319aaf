use Rattle.std.proofs.Common.{◌≡◌, ◌++◌, length, true}
use Rattle.std.specs.List.{list_all}
use Rattle.proof_tree.specs.Text.{step_fits}
use Rattle.proof_text.specs.Parts.{steps_text}
use Rattle.proof_text.specs.Reading.{GoesOn}
use Rattle.proof_text.proofs.lines.steps.Given as goal

abbrev pub invariant-loop-steps : goal.invariant-loop-steps
invariant-loop-steps l = record {
  told : steps_text l.steps ++ l.rest ≡ l.text;
  fit : list_all step_fits l.steps ≡ true;
  goes : GoesOn l.text l.rest;
}

abbrev pub decreases-loop-steps : goal.decreases-loop-steps
decreases-loop-steps l = length l.rest
