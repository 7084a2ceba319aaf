-- The lines that pieces are gathered to.
use Rattle.std.specs.Prelude.{◌≡◌, Bool, true, cond, Option, Some, None, List, [], ◌∷◌, ◌++◌, ℤ}
use Rattle.proof_tree.specs.declared.tree.Outcome.{Outcome}
use Rattle.dense_tree.specs.Tree.{Certificate}
use Rattle.dense_tree.specs.Lines.{Line as LineTold, certificate_lines}
use Rattle.dense_text.specs.declared.piece.Piece.{Piece}
use Rattle.dense_text.specs.declared.piece.Piece.TheVariants as piece
use Rattle.dense_text.specs.Pieces.{certificate_pieces}
use Rattle.dense_check.specs.declared.line.Line.{Line}
use Rattle.dense_check.specs.declared.line.Line.TheVariants as line
use Rattle.dense_check.specs.Lines.{line_told}

-- a line, and the values of its tuple so far
pub record LineSoFar : Type 0 where
  pub line : Line
  pub tuple : List ℤ

abbrev pub bare_line : Line → LineSoFar
bare_line l = record { line = l; tuple = [] }

-- with one value more, where a line has begun
abbrev pub longer : ℤ → Option LineSoFar → Option LineSoFar
longer v None = None
longer v (Some p) = Some (record p { tuple = p.tuple ++ v ∷ [] })

-- what a piece leaves: a line that is whole with it, or one that goes on
pub record Turn : Type 0 where
  pub whole : Option LineSoFar
  pub begun : Option LineSoFar

-- a line, after its last piece or before
abbrev pub turned : Option LineSoFar → Bool → Turn
turned p last = record { whole = cond last p None; begun = cond last None p }

-- after the line that has begun, if one has
abbrev pub turn : Option LineSoFar → Piece → Turn
turn p (piece.Head outcome optimum) = turned None true
turn p (piece.Given k bare) = turned (Some (bare_line (line.Given k))) bare
turn p (piece.Reply bare) = turned (Some (bare_line line.Reply)) bare
turn p (piece.Chosen bare) = turned (Some (bare_line line.Chosen)) bare
turn p (piece.Value u v last) = turned (longer v p) last
turn p piece.Named = turned (Some (bare_line line.Named)) true
turn p (piece.Horizon k) = turned (Some (bare_line (line.Horizon k))) true
turn p piece.Stuck = turned (Some (bare_line line.Stuck)) true
turn p piece.Goal = turned (Some (bare_line line.Goal)) true
turn p (piece.Again n) = turned (Some (bare_line (line.Again n))) true
turn p (piece.NoPlay k) = turned (Some (bare_line (line.NoPlay k))) true
turn p piece.Close = turned (Some (bare_line line.Close)) true
turn p (piece.Bound x low high) = turned (Some (bare_line (line.Bound x low high))) true
turn p piece.Empty = turned (Some (bare_line line.Empty)) true
turn p piece.Barred = turned (Some (bare_line line.Barred)) true
turn p piece.BestLeft = turned (Some (bare_line line.Best)) true
turn p piece.Next = turned (Some (bare_line line.Next)) true
turn p (piece.Branch x) = turned (Some (bare_line (line.Branch x))) true
turn p (piece.Range high) = turned (Some (bare_line (line.Range high))) true
turn p piece.Skip = turned (Some (bare_line line.Skip)) true
turn p piece.LeftOpen = turned (Some (bare_line line.Open)) true
turn p piece.Dot = turned (Some (bare_line line.Dot)) true

-- the whole lines of some pieces, and the one that has begun, where its tuple isn't whole
pub record Gathered : Type 0 where
  pub lines : List LineTold
  pub begun : Option LineSoFar

abbrev pub no_pieces : Gathered
no_pieces = record { lines = []; begun = None }

abbrev pub with_line : List LineTold → Option LineSoFar → List LineTold
with_line ls None = ls
with_line ls (Some p) = ls ++ line_told p.line p.tuple ∷ []

abbrev pub gathered : Gathered → Piece → Gathered
gathered a i = record { lines = with_line a.lines (turn a.begun i).whole; begun = (turn a.begun i).begun }

abbrev pub all_gathered : Gathered → List Piece → Gathered
all_gathered a [] = a
all_gathered a (i ∷ is) = all_gathered (gathered a i) is

-- the pieces of a certificate are gathered to its lines, and nothing has begun after them
abbrev pub PiecesGatherToLines : Type 0
PiecesGatherToLines =
    (outcome : Outcome) (optimum : Option ℤ) (c : Certificate) →
    all_gathered no_pieces (certificate_pieces outcome optimum c) ≡ record { lines = certificate_lines c; begun = None }
