-- The value of a scope's own condition.
use Rattle.std.specs.Prelude.{◌≤◌, ◌*◌, ⊤, ℕ, Option, Some, None, ℤ, unsigned_abs}

-- it is at most n * 10^9 by its absolute value
abbrev pub IsOwnSized : ℕ → Option ℤ → Type 0
IsOwnSized n None = ⊤
IsOwnSized n (Some v) = unsigned_abs v ≤ n * 1000000000
