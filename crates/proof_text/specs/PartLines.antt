-- A line of a tree, as far as it is read.
use Rattle.std.specs.Prelude.{ℕ, ◌≡◌, List, [], ◌∷◌, ◌++◌, Bool, true, false, IsTrue}
use Rattle.std.specs.Fmt.{signed_decimal}
use Rattle.qc_model.specs.Valid.{is_number}
use Rattle.proof_tree.specs.declared.line.Line.{Line}
use Rattle.proof_tree.specs.Text.{line_text, place_text, is_place}
use Rattle.proof_text.specs.declared.part_line.Kind.{Kind}
use Rattle.proof_text.specs.declared.part_line.Kind.TheVariants.{Horizon as HorizonKind, Branch as BranchKind, Range as RangeKind, Prune as PruneKind, Bound as BoundKind}
use Rattle.proof_text.specs.declared.part_line.PartLine.{PartLine}
use Rattle.proof_text.specs.declared.part_line.PartLine.TheVariants.{Short, Letter, Horizon, Branch, Range, Variable, Low, High, Constraint}
use Rattle.proof_text.specs.declared.part_line.PartNext.{PartNext}
use Rattle.proof_text.specs.declared.part_line.PartNext.TheVariants.{More, Whole, Wrong}
use Rattle.proof_text.specs.LineRanges.{line_fits}
use Rattle.proof_text.specs.Numerals.{counted_owes, counted_text, FitsCounted, signed_owes, signed_text, FitsSigned}
use Rattle.proof_text.specs.Symbols.{Symbol, byte, number, signed, prune_line, bound_line}
use Rattle.proof_text.specs.Standing.{owing, no_text, next_standing, standing_from}

-- a removal of refuted values names a constraint at last
abbrev pub removal_end : Bool → ℕ
removal_end true = 32
removal_end false = 10

abbrev pub constraint_owed : Bool → List Symbol
constraint_owed true = number 20000 10 ∷ []
constraint_owed false = []

abbrev pub removal_letter : Bool → ℕ
removal_letter true = 112
removal_letter false = 98

abbrev pub kind_owes : Kind → List Symbol
kind_owes HorizonKind = byte 32 ∷ number 65 10 ∷ []
kind_owes BranchKind = byte 32 ∷ number 500 10 ∷ []
kind_owes RangeKind = byte 32 ∷ signed 1000000000 10 ∷ []
kind_owes PruneKind = prune_line
kind_owes BoundKind = bound_line

abbrev pub kind_letter : Kind → ℕ
kind_letter HorizonKind = 104
kind_letter BranchKind = 118
kind_letter RangeKind = 114
kind_letter PruneKind = 112
kind_letter BoundKind = 98

-- the rest of the line, as a text owes it
abbrev pub part_owes : PartLine → List Symbol
part_owes (Short letter line) = byte 10 ∷ []
part_owes (Letter kind) = kind_owes kind
part_owes (Horizon k) = counted_owes 65 10 k ∷ []
part_owes (Branch x) = counted_owes 500 10 x ∷ []
part_owes (Range high) = signed_owes 1000000000 10 high ∷ []
part_owes (Variable prune x) = counted_owes 500 32 x ∷ signed 1000000000 32 ∷ signed 1000000000 (removal_end prune) ∷ constraint_owed prune
part_owes (Low prune x low) = signed_owes 1000000000 32 low ∷ signed 1000000000 (removal_end prune) ∷ constraint_owed prune
part_owes (High prune x low high) = signed_owes 1000000000 (removal_end prune) high ∷ constraint_owed prune
part_owes (Constraint x low high c) = counted_owes 20000 10 c ∷ []

-- the bytes of it so far
abbrev pub part_text : PartLine → List ℕ
part_text (Short letter line) = letter ∷ []
part_text (Letter kind) = kind_letter kind ∷ []
part_text (Horizon k) = 104 ∷ 32 ∷ counted_text k
part_text (Branch x) = 118 ∷ 32 ∷ counted_text x
part_text (Range high) = 114 ∷ 32 ∷ signed_text high
part_text (Variable prune x) = removal_letter prune ∷ 32 ∷ counted_text x
part_text (Low prune x low) = removal_letter prune ∷ 32 ∷ (place_text x ++ 32 ∷ signed_text low)
part_text (High prune x low high) = removal_letter prune ∷ 32 ∷ (place_text x ++ 32 ∷ (signed_decimal low ++ 32 ∷ signed_text high))
part_text (Constraint x low high c) = 112 ∷ 32 ∷ (place_text x ++ 32 ∷ (signed_decimal low ++ 32 ∷ (signed_decimal high ++ 32 ∷ counted_text c)))

abbrev pub FitsPart : PartLine → Type 0
FitsPart (Short letter line) = (line_text line ≡ letter ∷ 10 ∷ []) × IsTrue (line_fits line)
FitsPart (Letter kind) = Unit {0}
FitsPart (Horizon k) = FitsCounted 65 k
FitsPart (Branch x) = FitsCounted 500 x
FitsPart (Range high) = FitsSigned 1000000000 high
FitsPart (Variable prune x) = FitsCounted 500 x
FitsPart (Low prune x low) = FitsSigned 1000000000 low × IsTrue (is_place 500 x)
FitsPart (High prune x low high) = FitsSigned 1000000000 high × IsTrue (is_place 500 x) × IsTrue (is_number low)
FitsPart (Constraint x low high c) = FitsCounted 20000 c × IsTrue (is_place 500 x) × IsTrue (is_number low) × IsTrue (is_number high)

-- how it goes on with a byte, whatever is owed after the line
abbrev pub PartGoes : PartLine → ℕ → PartNext → Type 0
PartGoes part b (More next) = ((later : List Symbol) → next_standing (owing (part_owes part ++ later)) b ≡ owing (part_owes next ++ later)) × (part_text next ≡ part_text part ++ b ∷ []) × FitsPart next
PartGoes part b (Whole line) = ((later : List Symbol) → next_standing (owing (part_owes part ++ later)) b ≡ owing later) × (line_text line ≡ part_text part ++ b ∷ []) × IsTrue (line_fits line)
PartGoes part b Wrong = (later : List Symbol) → next_standing (owing (part_owes part ++ later)) b ≡ no_text

-- the line is this part of it, and then bytes that are all that the part owes
abbrev pub EndsPart : PartLine → Line → Type 0
EndsPart part line = (more : List ℕ) × (line_text line ≡ part_text part ++ more) × ((later : List Symbol) → standing_from (owing (part_owes part ++ later)) more ≡ owing later) × IsTrue (line_fits line)

-- with so much of it read, the text goes on with the rest of the line, and then with other bytes
abbrev pub ReadsPart : PartLine → List ℕ → Line → List ℕ → Type 0
ReadsPart part text line rest = (part_text part ++ text ≡ line_text line ++ rest) × EndsPart part line
