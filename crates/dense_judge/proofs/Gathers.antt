-- The lines that pieces are gathered to, and a machine that takes them.
use Rattle.std.proofs.Common.{◌≡◌, List, [], ◌∷◌, ◌++◌, flat_map, refl, sym, ap, ◌∙◌, subst, append-nil, append_assoc, Option, Some, None, ℤ}
use Rattle.qc_model.specs.Content.{Game}
use Rattle.dense_tree.specs.Lines.{Line as LineTold, given_line, named_line, horizon_line, stuck_line, goal_line, again_line, no_play_line, close_line, bound_line, reply_line, empty_line, barred_line, best_line, next_line, chosen_line, branch_line, range_line, skip_line, open_line, dot_line, certificate_lines}
use Rattle.dense_ledger.specs.Ledger.{Ledger, goes, goes_through, first_ledger}
use Rattle.dense_text.specs.declared.piece.Tuple.{Tuple}
use Rattle.dense_text.specs.declared.piece.Tuple.TheVariants as tuple
use Rattle.dense_text.specs.declared.piece.Piece.{Piece}
use Rattle.dense_text.specs.Pieces.{value_pieces, line_pieces}
use Rattle.dense_check.specs.declared.line.Line.{Line}
use Rattle.dense_check.specs.declared.line.Line.TheVariants as line
use Rattle.dense_check.specs.declared.machine.DenseMachine.{DenseMachine}
use Rattle.dense_check.specs.Lines.{line_told}
use Rattle.dense_check.specs.Telling.{game_of, TellsOf, IsGathered}
use Rattle.dense_judge.specs.declared.gather.Gather.{Gather}
use Rattle.dense_judge.specs.Gathered.{LineSoFar, turn, Gathered, with_line, gathered, all_gathered, PiecesGatherToLines}
use Rattle.dense_judge.specs.Gathering.{Keeps, Hands}
use Rattle.dense_judge.specs.Checking.{HasTaken}

-- nothing has begun
abbrev between : List LineTold → Gathered
between ls = record { lines = ls; begun = None }

-- the values of a tuple, after some
values_gathered : (ls : List LineTold) (l : Line) (u : Tuple) (t : List ℤ) (v : ℤ) (vs : List ℤ) →
    all_gathered (record { lines = ls; begun = Some (record { line = l; tuple = t }) }) (value_pieces u (v ∷ vs)) ≡ between (ls ++ line_told l (t ++ v ∷ vs) ∷ [])
values_gathered ls l u t v [] = refl
values_gathered ls l u t v (w ∷ vs) =
    values_gathered ls l u (t ++ v ∷ []) w vs ∙ ap (λ s. between (ls ++ line_told l s ∷ [])) (append_assoc t (v ∷ []) (w ∷ vs))

line_gathered : (ls : List LineTold) (l : LineTold) → all_gathered (between ls) (line_pieces l) ≡ between (ls ++ l ∷ [])
line_gathered ls (given_line k []) = refl
line_gathered ls (given_line k (v ∷ vs)) = values_gathered ls (line.Given k) tuple.Given [] v vs
line_gathered ls named_line = refl
line_gathered ls (horizon_line k) = refl
line_gathered ls stuck_line = refl
line_gathered ls goal_line = refl
line_gathered ls (again_line n) = refl
line_gathered ls (no_play_line k) = refl
line_gathered ls close_line = refl
line_gathered ls (bound_line x low high) = refl
line_gathered ls (reply_line []) = refl
line_gathered ls (reply_line (v ∷ vs)) = values_gathered ls line.Reply tuple.Reply [] v vs
line_gathered ls empty_line = refl
line_gathered ls barred_line = refl
line_gathered ls best_line = refl
line_gathered ls next_line = refl
line_gathered ls (chosen_line []) = refl
line_gathered ls (chosen_line (v ∷ vs)) = values_gathered ls line.Chosen tuple.Chosen [] v vs
line_gathered ls (branch_line x) = refl
line_gathered ls (range_line high) = refl
line_gathered ls skip_line = refl
line_gathered ls open_line = refl
line_gathered ls dot_line = refl

gathered_then : (a : Gathered) (is js : List Piece) → all_gathered a (is ++ js) ≡ all_gathered (all_gathered a is) js
gathered_then a [] js = refl
gathered_then a (i ∷ is) js = gathered_then (gathered a i) is js

pub gathered_more : (a : Gathered) (is : List Piece) (i : Piece) → all_gathered a (is ++ i ∷ []) ≡ gathered (all_gathered a is) i
gathered_more a is i = gathered_then a is (i ∷ [])

lines_gathered : (ls ms : List LineTold) → all_gathered (between ls) (flat_map line_pieces ms) ≡ between (ls ++ ms)
lines_gathered ls [] = ap between (sym (append-nil ls))
lines_gathered ls (m ∷ ms) =
    gathered_then (between ls) (line_pieces m) (flat_map line_pieces ms) ∙ ap (λ a. all_gathered a (flat_map line_pieces ms)) (line_gathered ls m)
    ∙ lines_gathered (ls ++ m ∷ []) ms ∙ ap between (append_assoc ls (m ∷ []) ms)

pub pieces_gather : PiecesGatherToLines
pieces_gather outcome optimum c = lines_gathered [] (certificate_lines c)

goes_more : (g : Game) (p : Option Ledger) (ls : List LineTold) (l : LineTold) → goes_through g p (ls ++ l ∷ []) ≡ goes g (goes_through g p ls) l
goes_more g p [] l = refl
goes_more g p (m ∷ ls) l = goes_more g (goes g p m) ls l

-- what a ledger is after some lines
abbrev ledger_after : Game → List LineTold → Option Ledger
ledger_after g ls = goes_through g (Some (first_ledger g)) ls

-- no line is whole with a piece
pub none_whole : (k k2 : Gather) (m : DenseMachine) (a : Gathered) (i : Piece) (o : Option Line) → o ≡ None → HasTaken k m a →
    Keeps k2 (turn a.begun i).begun → Hands o k2.values (turn a.begun i).whole → HasTaken k2 m (gathered a i)
none_whole k k2 m a i o e h begun hands =
    record { begun = begun; ledger = by (turn a.begun i).whole (subst (λ q. Hands q k2.values (turn a.begun i).whole) e hands) }
  where
    by : (w : Option LineSoFar) → Hands None k2.values w → TellsOf m (ledger_after (game_of m) (with_line a.lines w))
    by None u = h.ledger
    by (Some p) u = absurd u

-- one is, and the machine takes it, with the values that are kept
pub one_whole : (k k2 : Gather) (m n : DenseMachine) (a : Gathered) (i : Piece) (o : Option Line) (l : Line) (vs : List ℤ) → o ≡ Some l → HasTaken k m a →
    Keeps k2 (turn a.begun i).begun → Hands o k2.values (turn a.begun i).whole → vs ≡ k2.values → game_of n ≡ game_of m →
    ((t : List ℤ) → IsGathered vs t → (p : Option Ledger) → TellsOf m p → TellsOf n (goes (game_of m) p (line_told l t))) → HasTaken k2 n (gathered a i)
one_whole k k2 m n a i o l vs e h begun hands same game takes =
    record { begun = begun; ledger = by (turn a.begun i).whole (subst (λ q. Hands q k2.values (turn a.begun i).whole) e hands) }
  where
    by : (w : Option LineSoFar) → Hands (Some l) k2.values w → TellsOf n (ledger_after (game_of n) (with_line a.lines w))
    by None u = absurd u
    by (Some p) (is, full) =
        subst (λ g. TellsOf n (ledger_after g (a.lines ++ line_told p.line p.tuple ∷ []))) (sym game)
        (subst (TellsOf n) (sym (goes_more (game_of m) (Some (first_ledger (game_of m))) a.lines (line_told p.line p.tuple)))
        (subst (λ q. TellsOf n (goes (game_of m) (ledger_after (game_of m) a.lines) (line_told q p.tuple))) is
        (takes p.tuple (same ∙ full) (ledger_after (game_of m) a.lines) h.ledger)))
