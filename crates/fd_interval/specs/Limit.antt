-- How far from 0 the ends of a span may lie.
use Rattle.std.specs.Prelude.{ℤ, unsigned_abs, ◌^◌, ◌≤◌}

-- from -10^24 to 10^24
abbrev pub IsWithinLimit : ℤ → Type 0
IsWithinLimit n = unsigned_abs n ≤ 10 ^ 24
