-- How a tree goes on with the letter of a line.
use Rattle.std.specs.Prelude.{ℕ, ◌+◌, ◌<◌, ◌≡◌, List, [], ◌∷◌, ◌++◌, Option, Some, None}
use Rattle.proof_tree.specs.declared.tree.Version.{Version}
use Rattle.proof_text.specs.declared.letters.Place.{Place}
use Rattle.proof_text.specs.declared.letters.Place.TheVariants.{Node, Horizon, Body, Cases, Case, Closed}
use Rattle.proof_text.specs.declared.letters.Opened.{Opened}
use Rattle.proof_text.specs.declared.letters.Opened.TheVariants.{Line, Next, Branch, TooDeep, Wrong}
use Rattle.proof_text.specs.PartLines.{part_owes, part_text, FitsPart}
use Rattle.proof_text.specs.Symbols.{Symbol, byte, number, prunes, node, body, cases, case, branches}
use Rattle.proof_text.specs.Standing.{owing, too_deep, no_text, chosen_standing, next_standing}

-- what is owed at the beginning of a line, up to the next end of a branch
abbrev pub place_owes : Version → ℕ → Place → List Symbol
place_owes version n Node = node version n ∷ []
place_owes version n Horizon = prunes ∷ body version n ∷ []
place_owes version n Body = body version n ∷ []
place_owes version n Cases = cases version n ∷ []
place_owes version n Case = case version n ∷ []
place_owes version n Closed = []

-- what is owed after a letter, at this nesting
abbrev pub Opens : Version → ℕ → ℕ → Option (List Symbol) → Opened → Type 0
Opens version n b o (Line part place) = (o ≡ Some (part_owes part ++ place_owes version n place)) × FitsPart part × (part_text part ≡ b ∷ [])
Opens version n b o Next = (o ≡ Some (byte 10 ∷ node version (n + 1) ∷ [])) × (n < 1000) × (b ≡ 110)
Opens version n b o Branch = (o ≡ Some (byte 32 ∷ number 500 10 ∷ branches version (n + 1) ∷ [])) × (n < 1000) × (b ≡ 118)
Opens version n b o TooDeep = (later : List Symbol) → chosen_standing o later ≡ too_deep
Opens version n b o Wrong = o ≡ None

-- what is owed after a letter, where some of what was owed is kept, and more comes later
abbrev pub Opening : Version → ℕ → List Symbol → List Symbol → ℕ → Opened → Type 0
Opening version n before kept b (Line part place) =
    ((later : List Symbol) → next_standing (owing (before ++ later)) b ≡ owing (part_owes part ++ (place_owes version n place ++ (kept ++ later)))) × FitsPart part × (part_text part ≡ b ∷ [])
Opening version n before kept b Next = ((later : List Symbol) → next_standing (owing (before ++ later)) b ≡ owing (byte 10 ∷ node version (n + 1) ∷ (kept ++ later))) × (n < 1000) × (b ≡ 110)
Opening version n before kept b Branch = ((later : List Symbol) → next_standing (owing (before ++ later)) b ≡ owing (byte 32 ∷ number 500 10 ∷ branches version (n + 1) ∷ (kept ++ later))) × (n < 1000) × (b ≡ 118)
Opening version n before kept b TooDeep = (later : List Symbol) → next_standing (owing (before ++ later)) b ≡ too_deep
Opening version n before kept b Wrong = (later : List Symbol) → next_standing (owing (before ++ later)) b ≡ no_text
