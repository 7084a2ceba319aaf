-- Each text says one thing.
use Rattle.std.specs.Prelude.{◌≡◌, ◌⊎◌, ℕ, List}
use Rattle.qc_model.specs.Content.{Game}
use Rattle.qc_model.specs.Valid.{IsValid}
use Rattle.qc_syntax.specs.declared.fault.Refused13.{Refused13}
use Rattle.qc_syntax.specs.Reads.{Reads, Refuses}

-- a text is that of a problem, or it is refused
abbrev pub ReadsOrRefuses : Type 0
ReadsOrRefuses = (text : List ℕ) → ((g : Game) × Reads text g) ⊎ ((kind : Refused13) × (at : ℕ) × Refuses text kind at)

-- a text that is that of a problem isn't refused
abbrev pub NeverBoth : Type 0
NeverBoth = (text : List ℕ) (g : Game) (kind : Refused13) (at : ℕ) → Reads text g → Refuses text kind at → ⊥

-- a text is that of one problem at most
abbrev pub ReadsOne : Type 0
ReadsOne = (text : List ℕ) (g h : Game) → Reads text g → Reads text h → g ≡ h

-- a text is refused for one kind, at one place
abbrev pub RefusesOne : Type 0
RefusesOne =
    (text : List ℕ) (kind other : Refused13) (at place : ℕ) → Refuses text kind at → Refuses text other place →
    (kind ≡ other) × (at ≡ place)

-- the problem of a text is valid
abbrev pub ReadsValid : Type 0
ReadsValid = (text : List ℕ) (g : Game) → Reads text g → IsValid g
