-- What the sink in memory is.
use Rattle.std.specs.Prelude.{ℕ, List}

-- the bytes taken, the room for them, the most in one call, the numbers of the calls that fail, and the counts
pub record SinkState : Type 0 where
  pub bytes : List ℕ
  pub room : ℕ
  pub most : ℕ
  pub failing : List ℕ
  pub calls : ℕ
  pub faults : ℕ
