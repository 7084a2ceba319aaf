-- What a value is worth that was found.
use Rattle.std.specs.Prelude.{◌≤◌, length}
use Rattle.qc_model.specs.Content.{Game}
use Rattle.best_judge.specs.Proof.{IsBestProof}
use Rattle.best_solver.specs.declared.solving.Best.{Best}

-- Its text proves that it is the optimum, which is so, and is no longer than a certificate may be.
pub record IsBest (g : Game) (it : Best) : Type 0 where
  pub proof : IsBestProof g it.text.items it.value
  pub within : length it.text.items ≤ 1073741824
