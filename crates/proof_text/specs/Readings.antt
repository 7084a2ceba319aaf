-- A reading of a text, byte by byte: what stands of it, and how it goes on.
use Rattle.std.specs.Prelude.{ℕ, ◌≡◌, List, [], ◌∷◌, ◌++◌, Bool, true, false, IsTrue}
use Rattle.proof_tree.specs.declared.tree.Version.{Version}
use Rattle.proof_tree.specs.Text.{version_text, outcome_text, outcome_fits, line_text}
use Rattle.proof_tree.specs.declared.line.Line.{Line}
use Rattle.proof_text.specs.declared.answer.Read.{Read}
use Rattle.proof_text.specs.declared.answer.Read.TheVariants.{Within, Head, Whole, TooDeep, Bad}
use Rattle.proof_text.specs.LineRanges.{line_fits}
use Rattle.proof_text.specs.Symbols.{Symbol}
use Rattle.proof_text.specs.Standing.{Standing, owing, too_deep, no_text, next_standing, standing_from}

-- what the bytes so far still owe, whether their head isn't whole yet, and the bytes since the last
-- answer that was a head or a line
pub record Reading : Type 0 where
  pub standing : Standing
  pub in_head : Bool
  pub unfinished : List ℕ

-- the bytes begin a text
abbrev pub IsGoing : Standing → Type 0
IsGoing s = (owed : List Symbol) × (s ≡ owing owed)

-- only the end of the first line is a line feed without an answer of its own
abbrev pub IsFirstLine : Reading → Type 0
IsFirstLine r = (r.in_head ≡ true) × (version : Version) × (r.unfinished ≡ version_text version)

-- a reading goes on with a byte, and this is answered
abbrev pub Goes : Reading → ℕ → Reading → Read → Type 0
Goes old b new Within = IsGoing new.standing × (new.in_head ≡ old.in_head) × (new.unfinished ≡ old.unfinished ++ b ∷ []) × (b ≡ 10 → IsFirstLine new)
Goes old b new (Head version outcome optimum) =
    IsGoing new.standing × (old.in_head ≡ true) × (new.in_head ≡ false) × (new.unfinished ≡ [])
    × (version_text version ++ outcome_text outcome optimum ≡ old.unfinished ++ b ∷ []) × IsTrue (outcome_fits outcome optimum)
Goes old b new (Whole line) = IsGoing new.standing × (old.in_head ≡ false) × (new.in_head ≡ false) × (new.unfinished ≡ []) × (line_text line ≡ old.unfinished ++ b ∷ []) × IsTrue (line_fits line)
Goes old b new TooDeep = new.standing ≡ too_deep
Goes old b new Bad = new.standing ≡ no_text

abbrev pub GoesOn : Reading → ℕ → Reading → Read → Type 0
GoesOn old b new read = (new.standing ≡ next_standing old.standing b) × Goes old b new read

-- a reading goes on with a whole line of the tree
abbrev pub GoesOnLine : Reading → Line → Reading → Type 0
GoesOnLine old line new =
    (new.standing ≡ standing_from old.standing (line_text line)) × IsGoing old.standing × IsGoing new.standing × (old.in_head ≡ false) × (new.in_head ≡ false) × (old.unfinished ≡ []) × (new.unfinished ≡ [])
    × IsTrue (line_fits line)
