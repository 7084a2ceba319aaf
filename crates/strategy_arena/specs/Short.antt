-- Lines in half the memory, and what they stand for.
use Rattle.std.specs.Prelude.{◌≡◌, ℕ, ◌≤◌, ◌+◌, List, [], ◌∷◌, ◌++◌, length, map, take, drop, slice_index_or}
use Rattle.proof_tree.specs.declared.line.Line.{Line}
use Rattle.proof_tree.specs.declared.line.Line.TheVariants.{Horizon, Prune, Bound, Dot, Stuck, Goal, Empty, Barred, Next, Branch, Skip, Open, Range}
use Rattle.proof_tree.specs.Text.{line_text}
use Rattle.strategy_arena.specs.declared.short.Short.{Short}
use Rattle.strategy_arena.specs.declared.short.Short.TheVariants.{Horizon as Horizon_, Prune as Prune_, Bound as Bound_, Dot as Dot_, Stuck as Stuck_, Goal as Goal_, Empty as Empty_, Barred as Barred_, Next as Next_, Branch as Branch_, Skip as Skip_, Open as Open_, Range as Range_, Wide}

-- the line that a short one stands for, where `wide` has those whose numbers do not fit 32 bits
abbrev pub line_of : List Line → Short → Line
line_of wide (Horizon_ k) = Horizon k
line_of wide (Prune_ x low high c) = Prune x low high c
line_of wide (Bound_ x low high) = Bound x low high
line_of wide Dot_ = Dot
line_of wide Stuck_ = Stuck
line_of wide Goal_ = Goal
line_of wide Empty_ = Empty
line_of wide Barred_ = Barred
line_of wide Next_ = Next
line_of wide (Branch_ x) = Branch x
line_of wide Skip_ = Skip
line_of wide Open_ = Open
line_of wide (Range_ high) = Range high
line_of wide (Wide at) = slice_index_or wide at Dot

-- how many wide lines there have to be, so that it stands for one
abbrev pub reach : Short → ℕ
reach (Wide at) = at + 1
reach _ = 0

-- each stands for a line where there are so many wide ones
abbrev pub AllStand : ℕ → List Short → Type 0
AllStand n [] = Unit {0}
AllStand n (s ∷ shorts) = (reach s ≤ n) × AllStand n shorts

-- the lines that these stand for
abbrev pub lines_of : List Line → List Short → List Line
lines_of wide shorts = map (line_of wide) shorts

-- `n` of the lines of `with` stand over those of `ss` from `start` on
abbrev pub written_over : List Short → ℕ → List Short → ℕ → List Short
written_over ss start with n = take start ss ++ take n with ++ drop (start + n) ss

-- lines were appended, or none
abbrev pub Extends : List Line → List Line → Type 0
Extends old new = old ≡ take (length old) new

-- the text of the line that it stands for
abbrev pub short_text : List Line → Short → List ℕ
short_text wide short = line_text (line_of wide short)
