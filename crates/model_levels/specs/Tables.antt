-- What the table of a problem's scopes holds.
use Rattle.std.specs.Prelude.{◌≡◌, ℕ, Some, List, length, slice_get}
use Rattle.qc_model.specs.Content.{Game}
use Rattle.model_levels.specs.declared.level.Level.{Level}

-- one level of the problem for each scope, in their order
pub record AreLevelsOf (g : Game) (levels : List Level) : Type 0 where
  pub count : length levels ≡ length g.scopes
  pub numbers : (i : ℕ) (l : Level) → slice_get levels i ≡ Some l → l.number ≡ i
  pub problems : (i : ℕ) (l : Level) → slice_get levels i ≡ Some l → l.problem.now ≡ g
