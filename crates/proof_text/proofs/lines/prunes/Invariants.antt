use Rattle.std.proofs.Common.{◌≡◌, ◌++◌, ◌∷◌, List, length, true}
use Rattle.std.specs.List.{list_all}
use Rattle.proof_tree.specs.Steps.{is_prune}
use Rattle.proof_tree.specs.Text.{step_fits}
use Rattle.proof_text.specs.Parts.{steps_text}
use Rattle.proof_text.specs.Symbols.{Symbol, prunes}
use Rattle.proof_text.specs.Running.{run}
use Rattle.proof_text.proofs.lines.prunes.Given as goal

abbrev pub invariant-loop-line : goal.invariant-loop-line
invariant-loop-line l = record {
  told : steps_text l.steps ++ l.rest ≡ l.text;
  fit : list_all step_fits l.steps ≡ true;
  are : list_all is_prune l.steps ≡ true;
  goes : (k : List Symbol) → run (prunes ∷ k) l.text ≡ run (prunes ∷ k) l.rest;
}

abbrev pub decreases-loop-line : goal.decreases-loop-line
decreases-loop-line l = length l.rest
