-- What a text is worth that was judged.
use Rattle.std.specs.Prelude.{◌≤◌, length}
use Rattle.qc_model.specs.Content.{Game}
use Rattle.lemma_judge.specs.Checking.{IsProof}
use Rattle.lemma_solver.specs.declared.solving.Believed.{Believed}

-- It is that of a list that proves who loses, which is so, and is no longer than the text of a list may be.
pub record IsBelieved (g : Game) (it : Believed) : Type 0 where
  pub proof : IsProof g it.text.items it.loser
  pub within : length it.text.items ≤ 1073741824
