-- What a text that begins with the bytes so far still owes.
use Rattle.std.specs.Prelude.{ℕ, ◌<◌, ◌≡◌, cond, List, [], ◌∷◌, ◌++◌, length, Option, Some, None}
use Rattle.std.specs.List.{list_all}
use Rattle.proof_text.specs.Symbols.{Symbol, after, start}
use Rattle.proof_text.specs.Running.{nests_within}
use Rattle.proof_text.specs.Places.{IsText, BeginsText, IsNotACertificate, IsTooDeep}

-- the bytes begin a text within the limit, which owes these parts; or their last byte that mattered
-- opened a line that nests too deep; or no text goes on with it
pub data Standing : Type 0 where
  owing : List Symbol → Standing
  too_deep : Standing
  no_text : Standing

abbrev pub chosen_standing : Option (List Symbol) → List Symbol → Standing
chosen_standing None later = no_text
chosen_standing (Some more) later = cond (list_all (nests_within 1000) more) (owing (more ++ later)) too_deep

abbrev pub next_standing : Standing → ℕ → Standing
next_standing (owing []) b = no_text
next_standing (owing (s ∷ later)) b = chosen_standing (after s b) later
next_standing too_deep b = too_deep
next_standing no_text b = no_text

abbrev pub standing_from : Standing → List ℕ → Standing
standing_from s [] = s
standing_from s (b ∷ bs) = standing_from (next_standing s b) bs

abbrev pub standing : List ℕ → Standing
standing bytes = standing_from (owing start) bytes

-- the bytes go on to a text within the limit, a whole one exactly where nothing is owed
pub record IsOwed (owed : List Symbol) (bytes : List ℕ) : Type 0 where
  pub begins : BeginsText 1000 bytes
  pub ended : owed ≡ [] → IsText 1000 bytes
  pub unended : IsText 1000 bytes → owed ≡ []

-- what a standing says of the bytes
abbrev pub Tells : Standing → List ℕ → Type 0
Tells (owing owed) bytes = IsOwed owed bytes
Tells too_deep bytes = (at : ℕ) × (at < length bytes) × IsTooDeep at bytes
Tells no_text bytes = (at : ℕ) × (at < length bytes) × IsNotACertificate at bytes
