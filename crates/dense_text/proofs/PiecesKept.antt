-- Values of a piece's fields spell the piece that they come to.
use Rattle.std.proofs.Common.{◌≡◌, refl, sym, ap, ◌∙◌, subst, ℕ, suc, ◌+◌, List, [], ◌∷◌, ◌++◌, Bool, true, false, ◌&&◌, arith, leb-true, le-leb, lt-ltb, append_assoc}
use Rattle.std.specs.Prelude.{ℤ, pos, nat_le, nat_lt, codes, ◌^◌}
use Rattle.std.specs.Fmt.{signed_decimal}
use Rattle.std.proofs.lemmas.Bool.{and_from}
use Rattle.proof_tree.specs.Text.{range_text, is_place}
use Rattle.lemma_text.specs.declared.parts.Field.TheVariants.{Variable, Scope, Node as NodeField, Turns as TurnsField, Value as ValueField, Total}
use Rattle.lemma_text.specs.Numerals.{value_fits}
use Rattle.lemma_text.specs.Pieces.{all_fit, end_byte}
use Rattle.lemma_text.proofs.PiecesRead.{counted_text}
use Rattle.lemma_text.proofs.PiecesKept.{none, one, single, triple}
use Rattle.dense_text.specs.declared.piece.Tuple.{Tuple}
use Rattle.dense_text.specs.declared.parts.Form.{Form}
use Rattle.dense_text.specs.declared.parts.Form.TheVariants.{Optimum, Turns, ValueOf, GivenLine, NameLine, HorizonLine, StuckLine, GoalLine, AgainLine, NoPlayLine, CloseLine, BoundLine, ReplyLine, EmptyLine, BarredLine, BestLine, NextLine, ChosenLine, BranchLine, RangeLine, SkipLine, OpenLine, DotLine}
use Rattle.dense_text.specs.Pieces.{piece_text, piece_fits}
use Rattle.dense_text.specs.Forms.{fields, may_go_on, piece_of, spelled}
use Rattle.dense_text.specs.Grammar.{Place, at_start, at_value, at, allows}
use Rattle.dense_text.specs.Unfinished.{allows_form}

pub record IsPiece (p : Place) (f : Form) (last : Bool) (ws : List ℤ) : Type 0 where
  pub text : piece_text (piece_of f ws last) ≡ spelled f ws (end_byte last)
  pub fits : piece_fits (piece_of f ws last) ≡ true
  pub allowed : allows p (piece_of f ws last) ≡ allows_form p f

bound_text : (x low high : List ℕ) → 98 ∷ 32 ∷ (x ++ (codes " " ++ ((low ++ codes " " ++ high) ++ codes "\n"))) ≡ 98 ∷ 32 ∷ (x ++ 32 ∷ (low ++ 32 ∷ (high ++ 10 ∷ [])))
bound_text x low high = ap (λ (u : List ℕ). 98 ∷ 32 ∷ (x ++ 32 ∷ u)) (append_assoc (low ++ codes " ") high (codes "\n") ∙ append_assoc low (codes " ") (high ++ codes "\n"))

node_fits : (k : ℕ) → is_place 1073741824 k ≡ true → nat_lt k (2 ^ 30) ≡ true
node_fits k h = let le = leb-true (k + 1) 1073741824 h in lt-ltb k (2 ^ 30) (omega arith)

turns_fit : (k : ℕ) → is_place 10000000 k ≡ true → (nat_le 1 (suc k) && nat_le (suc k) 10000000) ≡ true
turns_fit k h = let le = leb-true (k + 1) 10000000 h in and_from _ _ (le-leb 1 (suc k) (omega arith)) (le-leb (suc k) 10000000 (omega arith))

optimum_piece : (p : Place) (v : ℤ) → value_fits Total v ≡ true → IsPiece p Optimum true (v ∷ [])
optimum_piece p v h = record { text = refl; fits = h; allowed = by_place p }
  where
    by_place : (p : Place) → allows p (piece_of Optimum (v ∷ []) true) ≡ allows_form p Optimum
    by_place at_start = refl
    by_place (at_value w) = refl
    by_place (at d) = refl

turns_piece : (p : Place) (k : ℕ) → is_place 10000000 k ≡ true → IsPiece p Turns true (pos (suc k) ∷ [])
turns_piece p k h = record { text = refl; fits = turns_fit k h; allowed = by_place p }
  where
    by_place : (p : Place) → allows p (piece_of Turns (pos (suc k) ∷ []) true) ≡ allows_form p Turns
    by_place at_start = refl
    by_place (at_value w) = refl
    by_place (at d) = refl

value_piece_true : (p : Place) (u : Tuple) (v : ℤ) → value_fits ValueField v ≡ true → IsPiece p (ValueOf u) true (v ∷ [])
value_piece_true p u v h = record { text = refl; fits = h; allowed = by_place p }
  where
    by_place : (p : Place) → allows p (piece_of (ValueOf u) (v ∷ []) true) ≡ allows_form p (ValueOf u)
    by_place at_start = refl
    by_place (at_value w) = refl
    by_place (at d) = refl

value_piece_false : (p : Place) (u : Tuple) (v : ℤ) → value_fits ValueField v ≡ true → IsPiece p (ValueOf u) false (v ∷ [])
value_piece_false p u v h = record { text = refl; fits = h; allowed = by_place p }
  where
    by_place : (p : Place) → allows p (piece_of (ValueOf u) (v ∷ []) false) ≡ allows_form p (ValueOf u)
    by_place at_start = refl
    by_place (at_value w) = refl
    by_place (at d) = refl

given_piece_true : (p : Place) (k : ℕ) → is_place 65 k ≡ true → IsPiece p GivenLine true (pos (suc k) ∷ [])
given_piece_true p k h = record { text = ap (λ (u : List ℕ). 117 ∷ 32 ∷ (u ++ 10 ∷ [])) (counted_text k); fits = h; allowed = by_place p }
  where
    by_place : (p : Place) → allows p (piece_of GivenLine (pos (suc k) ∷ []) true) ≡ allows_form p GivenLine
    by_place at_start = refl
    by_place (at_value w) = refl
    by_place (at d) = refl

given_piece_false : (p : Place) (k : ℕ) → is_place 65 k ≡ true → IsPiece p GivenLine false (pos (suc k) ∷ [])
given_piece_false p k h = record { text = ap (λ (u : List ℕ). 117 ∷ 32 ∷ (u ++ 32 ∷ [])) (counted_text k); fits = h; allowed = by_place p }
  where
    by_place : (p : Place) → allows p (piece_of GivenLine (pos (suc k) ∷ []) false) ≡ allows_form p GivenLine
    by_place at_start = refl
    by_place (at_value w) = refl
    by_place (at d) = refl

name_piece : (p : Place) → IsPiece p NameLine true []
name_piece p = record { text = refl; fits = refl; allowed = by_place p }
  where
    by_place : (p : Place) → allows p (piece_of NameLine [] true) ≡ allows_form p NameLine
    by_place at_start = refl
    by_place (at_value w) = refl
    by_place (at d) = refl

horizon_piece : (p : Place) (k : ℕ) → is_place 65 k ≡ true → IsPiece p HorizonLine true (pos (suc k) ∷ [])
horizon_piece p k h = record { text = ap (λ (u : List ℕ). 104 ∷ 32 ∷ (u ++ 10 ∷ [])) (counted_text k); fits = h; allowed = by_place p }
  where
    by_place : (p : Place) → allows p (piece_of HorizonLine (pos (suc k) ∷ []) true) ≡ allows_form p HorizonLine
    by_place at_start = refl
    by_place (at_value w) = refl
    by_place (at d) = refl

stuck_piece : (p : Place) → IsPiece p StuckLine true []
stuck_piece p = record { text = refl; fits = refl; allowed = by_place p }
  where
    by_place : (p : Place) → allows p (piece_of StuckLine [] true) ≡ allows_form p StuckLine
    by_place at_start = refl
    by_place (at_value w) = refl
    by_place (at d) = refl

goal_piece : (p : Place) → IsPiece p GoalLine true []
goal_piece p = record { text = refl; fits = refl; allowed = by_place p }
  where
    by_place : (p : Place) → allows p (piece_of GoalLine [] true) ≡ allows_form p GoalLine
    by_place at_start = refl
    by_place (at_value w) = refl
    by_place (at d) = refl

again_piece : (p : Place) (k : ℕ) → is_place 1073741824 k ≡ true → IsPiece p AgainLine true (pos (suc k) ∷ [])
again_piece p k h = record { text = ap (λ (u : List ℕ). 97 ∷ 32 ∷ (u ++ 10 ∷ [])) (counted_text k); fits = node_fits k h; allowed = by_place p }
  where
    by_place : (p : Place) → allows p (piece_of AgainLine (pos (suc k) ∷ []) true) ≡ allows_form p AgainLine
    by_place at_start = refl
    by_place (at_value w) = refl
    by_place (at d) = refl

noplay_piece : (p : Place) (k : ℕ) → is_place 65 k ≡ true → IsPiece p NoPlayLine true (pos (suc k) ∷ [])
noplay_piece p k h = record { text = ap (λ (u : List ℕ). 108 ∷ 32 ∷ (u ++ 10 ∷ [])) (counted_text k); fits = h; allowed = by_place p }
  where
    by_place : (p : Place) → allows p (piece_of NoPlayLine (pos (suc k) ∷ []) true) ≡ allows_form p NoPlayLine
    by_place at_start = refl
    by_place (at_value w) = refl
    by_place (at d) = refl

close_piece : (p : Place) → IsPiece p CloseLine true []
close_piece p = record { text = refl; fits = refl; allowed = by_place p }
  where
    by_place : (p : Place) → allows p (piece_of CloseLine [] true) ≡ allows_form p CloseLine
    by_place at_start = refl
    by_place (at_value w) = refl
    by_place (at d) = refl

bound_piece : (p : Place) (k : ℕ) (low high : ℤ) → is_place 500 k ≡ true → value_fits ValueField low ≡ true → value_fits ValueField high ≡ true → IsPiece p BoundLine true (pos (suc k) ∷ low ∷ high ∷ [])
bound_piece p k low high f g h = record { text = ap (λ (u : List ℕ). 98 ∷ 32 ∷ (u ++ (codes " " ++ (range_text low high ++ codes "\n")))) (counted_text k) ∙ bound_text (signed_decimal (pos (suc k))) (signed_decimal low) (signed_decimal high); fits = and_from _ _ (and_from _ _ f g) h; allowed = by_place p }
  where
    by_place : (p : Place) → allows p (piece_of BoundLine (pos (suc k) ∷ low ∷ high ∷ []) true) ≡ allows_form p BoundLine
    by_place at_start = refl
    by_place (at_value w) = refl
    by_place (at d) = refl

reply_piece_true : (p : Place) → IsPiece p ReplyLine true []
reply_piece_true p = record { text = refl; fits = refl; allowed = by_place p }
  where
    by_place : (p : Place) → allows p (piece_of ReplyLine [] true) ≡ allows_form p ReplyLine
    by_place at_start = refl
    by_place (at_value w) = refl
    by_place (at d) = refl

reply_piece_false : (p : Place) → IsPiece p ReplyLine false []
reply_piece_false p = record { text = refl; fits = refl; allowed = by_place p }
  where
    by_place : (p : Place) → allows p (piece_of ReplyLine [] false) ≡ allows_form p ReplyLine
    by_place at_start = refl
    by_place (at_value w) = refl
    by_place (at d) = refl

empty_piece : (p : Place) → IsPiece p EmptyLine true []
empty_piece p = record { text = refl; fits = refl; allowed = by_place p }
  where
    by_place : (p : Place) → allows p (piece_of EmptyLine [] true) ≡ allows_form p EmptyLine
    by_place at_start = refl
    by_place (at_value w) = refl
    by_place (at d) = refl

barred_piece : (p : Place) → IsPiece p BarredLine true []
barred_piece p = record { text = refl; fits = refl; allowed = by_place p }
  where
    by_place : (p : Place) → allows p (piece_of BarredLine [] true) ≡ allows_form p BarredLine
    by_place at_start = refl
    by_place (at_value w) = refl
    by_place (at d) = refl

best_piece : (p : Place) → IsPiece p BestLine true []
best_piece p = record { text = refl; fits = refl; allowed = by_place p }
  where
    by_place : (p : Place) → allows p (piece_of BestLine [] true) ≡ allows_form p BestLine
    by_place at_start = refl
    by_place (at_value w) = refl
    by_place (at d) = refl

next_piece : (p : Place) → IsPiece p NextLine true []
next_piece p = record { text = refl; fits = refl; allowed = by_place p }
  where
    by_place : (p : Place) → allows p (piece_of NextLine [] true) ≡ allows_form p NextLine
    by_place at_start = refl
    by_place (at_value w) = refl
    by_place (at d) = refl

chosen_piece_true : (p : Place) → IsPiece p ChosenLine true []
chosen_piece_true p = record { text = refl; fits = refl; allowed = by_place p }
  where
    by_place : (p : Place) → allows p (piece_of ChosenLine [] true) ≡ allows_form p ChosenLine
    by_place at_start = refl
    by_place (at_value w) = refl
    by_place (at d) = refl

chosen_piece_false : (p : Place) → IsPiece p ChosenLine false []
chosen_piece_false p = record { text = refl; fits = refl; allowed = by_place p }
  where
    by_place : (p : Place) → allows p (piece_of ChosenLine [] false) ≡ allows_form p ChosenLine
    by_place at_start = refl
    by_place (at_value w) = refl
    by_place (at d) = refl

branch_piece : (p : Place) (k : ℕ) → is_place 500 k ≡ true → IsPiece p BranchLine true (pos (suc k) ∷ [])
branch_piece p k h = record { text = ap (λ (u : List ℕ). 118 ∷ 32 ∷ (u ++ 10 ∷ [])) (counted_text k); fits = h; allowed = by_place p }
  where
    by_place : (p : Place) → allows p (piece_of BranchLine (pos (suc k) ∷ []) true) ≡ allows_form p BranchLine
    by_place at_start = refl
    by_place (at_value w) = refl
    by_place (at d) = refl

range_piece : (p : Place) (v : ℤ) → value_fits ValueField v ≡ true → IsPiece p RangeLine true (v ∷ [])
range_piece p v h = record { text = refl; fits = h; allowed = by_place p }
  where
    by_place : (p : Place) → allows p (piece_of RangeLine (v ∷ []) true) ≡ allows_form p RangeLine
    by_place at_start = refl
    by_place (at_value w) = refl
    by_place (at d) = refl

skip_piece : (p : Place) → IsPiece p SkipLine true []
skip_piece p = record { text = refl; fits = refl; allowed = by_place p }
  where
    by_place : (p : Place) → allows p (piece_of SkipLine [] true) ≡ allows_form p SkipLine
    by_place at_start = refl
    by_place (at_value w) = refl
    by_place (at d) = refl

open_piece : (p : Place) → IsPiece p OpenLine true []
open_piece p = record { text = refl; fits = refl; allowed = by_place p }
  where
    by_place : (p : Place) → allows p (piece_of OpenLine [] true) ≡ allows_form p OpenLine
    by_place at_start = refl
    by_place (at_value w) = refl
    by_place (at d) = refl

dot_piece : (p : Place) → IsPiece p DotLine true []
dot_piece p = record { text = refl; fits = refl; allowed = by_place p }
  where
    by_place : (p : Place) → allows p (piece_of DotLine [] true) ≡ allows_form p DotLine
    by_place at_start = refl
    by_place (at_value w) = refl
    by_place (at d) = refl

-- only where a value may follow the line may go on
pub is_piece : (p : Place) (f : Form) (last : Bool) (ws : List ℤ) → all_fit (fields f) ws ≡ true → (may_go_on f ≡ false → last ≡ true) → IsPiece p f last ws
is_piece p Optimum last ws h e =
    let a = one Total [] ws h in
    subst (λ (b : Bool). IsPiece p Optimum b ws) (sym (e refl)) (subst (IsPiece p Optimum true) (sym (a.is ∙ ap (λ (t : List ℤ). a.v ∷ t) (none a.vs a.later))) (optimum_piece p a.v a.fits))
is_piece p Turns last ws h e =
    let s = single TurnsField ws refl h in
    subst (λ (b : Bool). IsPiece p Turns b ws) (sym (e refl)) (subst (IsPiece p Turns true) (sym s.is) (turns_piece p s.k s.fits))
is_piece p (ValueOf u) true ws h e =
    let a = one ValueField [] ws h in
    subst (IsPiece p (ValueOf u) true) (sym (a.is ∙ ap (λ (t : List ℤ). a.v ∷ t) (none a.vs a.later))) (value_piece_true p u a.v a.fits)
is_piece p (ValueOf u) false ws h e =
    let a = one ValueField [] ws h in
    subst (IsPiece p (ValueOf u) false) (sym (a.is ∙ ap (λ (t : List ℤ). a.v ∷ t) (none a.vs a.later))) (value_piece_false p u a.v a.fits)
is_piece p GivenLine true ws h e = let s = single Scope ws refl h in subst (IsPiece p GivenLine true) (sym s.is) (given_piece_true p s.k s.fits)
is_piece p GivenLine false ws h e = let s = single Scope ws refl h in subst (IsPiece p GivenLine false) (sym s.is) (given_piece_false p s.k s.fits)
is_piece p NameLine last ws h e =
    subst (λ (b : Bool). IsPiece p NameLine b ws) (sym (e refl)) (subst (IsPiece p NameLine true) (sym (none ws h)) (name_piece p))
is_piece p HorizonLine last ws h e =
    let s = single Scope ws refl h in
    subst (λ (b : Bool). IsPiece p HorizonLine b ws) (sym (e refl)) (subst (IsPiece p HorizonLine true) (sym s.is) (horizon_piece p s.k s.fits))
is_piece p StuckLine last ws h e =
    subst (λ (b : Bool). IsPiece p StuckLine b ws) (sym (e refl)) (subst (IsPiece p StuckLine true) (sym (none ws h)) (stuck_piece p))
is_piece p GoalLine last ws h e =
    subst (λ (b : Bool). IsPiece p GoalLine b ws) (sym (e refl)) (subst (IsPiece p GoalLine true) (sym (none ws h)) (goal_piece p))
is_piece p AgainLine last ws h e =
    let s = single NodeField ws refl h in
    subst (λ (b : Bool). IsPiece p AgainLine b ws) (sym (e refl)) (subst (IsPiece p AgainLine true) (sym s.is) (again_piece p s.k s.fits))
is_piece p NoPlayLine last ws h e =
    let s = single Scope ws refl h in
    subst (λ (b : Bool). IsPiece p NoPlayLine b ws) (sym (e refl)) (subst (IsPiece p NoPlayLine true) (sym s.is) (noplay_piece p s.k s.fits))
is_piece p CloseLine last ws h e =
    subst (λ (b : Bool). IsPiece p CloseLine b ws) (sym (e refl)) (subst (IsPiece p CloseLine true) (sym (none ws h)) (close_piece p))
is_piece p BoundLine last ws h e =
    let t = triple Variable ValueField ValueField [] ws refl h in
    subst (λ (b : Bool). IsPiece p BoundLine b ws) (sym (e refl))
    (subst (IsPiece p BoundLine true) (sym (t.is ∙ ap (λ (vs : List ℤ). pos (suc t.k) ∷ t.low ∷ t.high ∷ vs) (none t.vs t.later))) (bound_piece p t.k t.low t.high t.fits t.low_fits t.high_fits))
is_piece p ReplyLine true ws h e = subst (IsPiece p ReplyLine true) (sym (none ws h)) (reply_piece_true p)
is_piece p ReplyLine false ws h e = subst (IsPiece p ReplyLine false) (sym (none ws h)) (reply_piece_false p)
is_piece p EmptyLine last ws h e =
    subst (λ (b : Bool). IsPiece p EmptyLine b ws) (sym (e refl)) (subst (IsPiece p EmptyLine true) (sym (none ws h)) (empty_piece p))
is_piece p BarredLine last ws h e =
    subst (λ (b : Bool). IsPiece p BarredLine b ws) (sym (e refl)) (subst (IsPiece p BarredLine true) (sym (none ws h)) (barred_piece p))
is_piece p BestLine last ws h e =
    subst (λ (b : Bool). IsPiece p BestLine b ws) (sym (e refl)) (subst (IsPiece p BestLine true) (sym (none ws h)) (best_piece p))
is_piece p NextLine last ws h e =
    subst (λ (b : Bool). IsPiece p NextLine b ws) (sym (e refl)) (subst (IsPiece p NextLine true) (sym (none ws h)) (next_piece p))
is_piece p ChosenLine true ws h e = subst (IsPiece p ChosenLine true) (sym (none ws h)) (chosen_piece_true p)
is_piece p ChosenLine false ws h e = subst (IsPiece p ChosenLine false) (sym (none ws h)) (chosen_piece_false p)
is_piece p BranchLine last ws h e =
    let s = single Variable ws refl h in
    subst (λ (b : Bool). IsPiece p BranchLine b ws) (sym (e refl)) (subst (IsPiece p BranchLine true) (sym s.is) (branch_piece p s.k s.fits))
is_piece p RangeLine last ws h e =
    let a = one ValueField [] ws h in
    subst (λ (b : Bool). IsPiece p RangeLine b ws) (sym (e refl)) (subst (IsPiece p RangeLine true) (sym (a.is ∙ ap (λ (t : List ℤ). a.v ∷ t) (none a.vs a.later))) (range_piece p a.v a.fits))
is_piece p SkipLine last ws h e =
    subst (λ (b : Bool). IsPiece p SkipLine b ws) (sym (e refl)) (subst (IsPiece p SkipLine true) (sym (none ws h)) (skip_piece p))
is_piece p OpenLine last ws h e =
    subst (λ (b : Bool). IsPiece p OpenLine b ws) (sym (e refl)) (subst (IsPiece p OpenLine true) (sym (none ws h)) (open_piece p))
is_piece p DotLine last ws h e =
    subst (λ (b : Bool). IsPiece p DotLine b ws) (sym (e refl)) (subst (IsPiece p DotLine true) (sym (none ws h)) (dot_piece p))
