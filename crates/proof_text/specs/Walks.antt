-- Where a reader is in a text.
use Rattle.std.specs.Prelude.{ℕ, ◌+◌, ◌<◌, ◌≡◌, List, [], ◌∷◌, ◌++◌, Bool, true, false}
use Rattle.proof_tree.specs.declared.tree.Version.{Version}
use Rattle.proof_text.specs.declared.letters.Opened.{Opened}
use Rattle.proof_text.specs.declared.letters.Opened.TheVariants.{Line as LineOpened, Next, Branch, TooDeep as DeepOpened, Wrong}
use Rattle.proof_text.specs.declared.walk.Nested.{Nested}
use Rattle.proof_text.specs.declared.walk.At.{At}
use Rattle.proof_text.specs.declared.walk.At.TheVariants.{Head, Letter, Line, TooDeep, Bad}
use Rattle.proof_text.specs.Fronts.{front_owes, front_text, FitsFront}
use Rattle.proof_text.specs.PartLines.{part_owes, part_text, FitsPart}
use Rattle.proof_text.specs.Letters.{place_owes}
use Rattle.proof_text.specs.Nesting.{tree_owes, open_branches}
use Rattle.proof_text.specs.Symbols.{Symbol, byte, number, node, branches}
use Rattle.proof_text.specs.Standing.{Standing, owing, too_deep, no_text, next_standing}
use Rattle.proof_text.specs.Readings.{Reading}

abbrev pub at_standing : Nested → At → Standing
at_standing t (Head front) = owing (front_owes t.version front)
at_standing t (Letter place) = owing (tree_owes t.version t.levels.marks t.nesting place)
at_standing t (Line part place) = owing (part_owes part ++ tree_owes t.version t.levels.marks t.nesting place)
at_standing t TooDeep = too_deep
at_standing t Bad = no_text

abbrev pub at_head : At → Bool
at_head (Head front) = true
at_head (Letter place) = false
at_head (Line part place) = false
at_head TooDeep = false
at_head Bad = false

abbrev pub at_text : Version → At → List ℕ
at_text version (Head front) = front_text version front
at_text version (Letter place) = []
at_text version (Line part place) = part_text part
at_text version TooDeep = []
at_text version Bad = []

abbrev pub FitsAt : At → Type 0
FitsAt (Head front) = FitsFront front
FitsAt (Letter place) = Unit {0}
FitsAt (Line part place) = FitsPart part
FitsAt TooDeep = Unit {0}
FitsAt Bad = Unit {0}

abbrev pub reading_of : Nested → At → Reading
reading_of t at = record { standing = at_standing t at; in_head = at_head at; unfinished = at_text t.version at }

-- what is owed after a letter, where so much was owed, above branches that are open
abbrev pub OpensIn : Version → ℕ → List Symbol → List Symbol → ℕ → Opened → Type 0
OpensIn version n owed below b (LineOpened part place) = (next_standing (owing owed) b ≡ owing (part_owes part ++ (place_owes version n place ++ below))) × FitsPart part × (part_text part ≡ b ∷ [])
OpensIn version n owed below b Next = (next_standing (owing owed) b ≡ owing (byte 10 ∷ node version (n + 1) ∷ below)) × (n < 1000) × (b ≡ 110)
OpensIn version n owed below b Branch = (next_standing (owing owed) b ≡ owing (byte 32 ∷ number 500 10 ∷ branches version (n + 1) ∷ below)) × (n < 1000) × (b ≡ 118)
OpensIn version n owed below b DeepOpened = next_standing (owing owed) b ≡ too_deep
OpensIn version n owed below b Wrong = next_standing (owing owed) b ≡ no_text

-- a letter is read in a tree
abbrev pub OpensTree : Nested → List Symbol → ℕ → Opened → Type 0
OpensTree t owed b opened = OpensIn t.version t.nesting owed (open_branches t.version t.levels.marks t.nesting) b opened
