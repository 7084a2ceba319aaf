-- What a store is once values of one variable are gone.
use Rattle.std.specs.Prelude.{◌≡◌, ◌==◌, ℕ, length, IsTrue, IsFalse, ℤ}
use Rattle.qc_model.specs.Domains.{Box, Values, has_value, values_left, is_sub_box}
use Rattle.fd_store.specs.Held.{Held, Follows}

-- each of the values is one of the others
pub record AreAmong (vs ws : Values) : Type 0 where
  pub each : (v : ℤ) → IsTrue (has_value vs v) → IsTrue (has_value ws v)

-- t comes after s, and at most values of x have gone
pub record IsNarrowed (x : ℕ) (s t : Held) : Type 0 where
  pub follows : Follows s t
  pub count : length t.box ≡ length s.box
  pub others : (y : ℕ) → IsFalse (x == y) → values_left t.box y ≡ values_left s.box y
  pub fewer : AreAmong (values_left t.box x) (values_left s.box x)
  pub within : (large : Box) → IsTrue (is_sub_box s.box large) → IsTrue (is_sub_box t.box large)
