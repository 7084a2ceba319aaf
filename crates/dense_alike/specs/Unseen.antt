-- From which scopes on no earlier variable is seen one by one.
use Rattle.std.specs.Prelude.{◌≡◌, ◌<◌, ◌+◌, ℕ, Bool, true, false, List, length, get_or}
use Rattle.qc_model.specs.Content.{Game}
use Rattle.qc_model.specs.Game.{before}
use Rattle.proof_alike.specs.Alike.{is_seen}

-- no variable before scope i is seen from it on
abbrev pub SeesNone : Game → ℕ → Type 0
SeesNone g i = (x : ℕ) → x < before g i → is_seen g i x ≡ false

-- for each scope, and for the goal, only if that is so
pub record AreUnseen (g : Game) (unseen : List Bool) : Type 0 where
  pub count : length unseen ≡ length g.scopes + 1
  pub each : (i : ℕ) → get_or unseen i false ≡ true → SeesNone g i
