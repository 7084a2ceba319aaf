-- When no bounded game is given.
use Rattle.std.specs.Prelude.{◌≤◌, ◌<◌, ◌+◌, length, ⊤, IsTrue, IsFalse, ℤ}
use Rattle.qc_model.specs.Content.{Game}
use Rattle.qc_model.specs.Valid.{is_number}
use Rattle.zero_sum.specs.declared.made.NoBound.{NoBound}
use Rattle.zero_sum.specs.declared.made.NoBound.TheVariants.{NoNumber, TooManyConstraints, Memory}

-- the value is a number of the problem text, and there is room for one more constraint
abbrev pub HasRoom : Game → ℤ → Type 0
HasRoom g v = IsTrue (is_number v) × (length g.constraints + 1 ≤ 20000)

-- none is given for this
abbrev pub Refuses : NoBound → Game → ℤ → Type 0
Refuses NoNumber g v = IsFalse (is_number v)
Refuses TooManyConstraints g v = IsTrue (is_number v) × (20000 < length g.constraints + 1)
Refuses (Memory e) g v = ⊤
