-- What a store is once values of one variable are gone.
use Rattle.std.specs.Prelude.{◌≡◌, ◌==◌, ℕ, length, IsTrue, IsFalse}
use Rattle.qc_model.specs.Domains.{Box, values_left, is_sub_box}
use Rattle.fd_store.specs.Held.{Held, Follows}

-- t comes after s, and at most values of x have gone
pub record IsNarrowed (x : ℕ) (s t : Held) : Type 0 where
  pub follows : Follows s t
  pub count : length t.box ≡ length s.box
  pub others : (y : ℕ) → IsFalse (x == y) → values_left t.box y ≡ values_left s.box y
  pub within : (large : Box) → IsTrue (is_sub_box s.box large) → IsTrue (is_sub_box t.box large)
