-- Values as they were declared.
use Rattle.std.specs.Prelude.{◌≡◌, ◌<◌, ◌≤◌, ℕ, length}
use Rattle.qc_model.specs.Content.{Game}
use Rattle.qc_model.specs.Domains.{Box, declared_box, values_left}

-- each variable from n on has all its declared values left
abbrev pub IsFreshFrom : Game → ℕ → Box → Type 0
IsFreshFrom g n box = (x : ℕ) → n ≤ x → x < length box → values_left box x ≡ values_left (declared_box g) x
