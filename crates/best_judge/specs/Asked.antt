-- The two games that a value asks for.
use Rattle.std.specs.Prelude.{◌≡◌, Some, ℤ, IsTrue}
use Rattle.qc_model.specs.Content.{Game}
use Rattle.zero_sum.specs.declared.stake.Stake.{Stake}
use Rattle.zero_sum.specs.Stake.{stake_of, defaults_fit}
use Rattle.zero_sum.specs.Bounded.{next_better, bounded_game}
use Rattle.zero_sum.specs.Refusals.{HasRoom}

-- both can be asked
pub record CanAsk (g : Game) (z : Stake) (v : ℤ) : Type 0 where
  pub at_stake : stake_of g ≡ Some z
  pub defaults : IsTrue (defaults_fit g v)
  pub room : HasRoom g v
  pub more_room : HasRoom g (next_better z.sense v)

-- the one that is won where the value can be had, and the one that isn't where no better one can
pub record AreAsked (g : Game) (v : ℤ) (won lost : Game) : Type 0 where
  pub stake : Stake
  pub can : CanAsk g stake v
  pub won_is : won ≡ bounded_game g stake v
  pub lost_is : lost ≡ bounded_game g stake (next_better stake.sense v)

abbrev pub NotAsked : Game → ℤ → Type 0
NotAsked g v = (z : Stake) → CanAsk g z v → ⊥
