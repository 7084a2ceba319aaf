-- What the next line may be, and a count.
use Rattle.std.specs.Prelude.{ℕ, ◌+◌, ◌-◌, min, ◌^◌, ℤ}
use Rattle.qc_model.specs.Domains.{Box}

-- what the next line may be
pub data Awaited : Type 0 where
  node_awaited : Awaited
  -- a step of a horizon at this scope, or the dot after the steps; and the node's box
  prune_awaited : ℕ → Box → Awaited
  body_awaited : Awaited
  part_awaited : Awaited
  case_awaited : Awaited
  ranged_awaited : ℤ → Awaited
  none_awaited : Awaited

-- counted up to the greatest number of 64 bits
abbrev pub one_more : ℕ → ℕ
one_more n = min (n + 1) (2 ^ 64 - 1)
