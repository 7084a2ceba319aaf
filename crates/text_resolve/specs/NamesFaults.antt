-- Why there are no names of a text.
use Rattle.std.specs.Prelude.{◌≡◌, ℕ, Option, Some}
use Rattle.text_resolve.specs.declared.fault.NamesFault.{NamesFault}
use Rattle.text_resolve.specs.declared.fault.NamesFault.TheVariants.{Repeated, Memory}

-- the fault is the first name that is declared again, which has this place, or memory
abbrev pub IsNamesFault : Option ℕ → NamesFault → Type 0
IsNamesFault first (Repeated at) = first ≡ Some at
IsNamesFault first (Memory e) = Unit {0}
