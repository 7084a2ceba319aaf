-- What a ledger makes of a line that isn't of the first kinds that it asks for.
use Rattle.std.proofs.Common.{◌≡◌, refl, ℕ, false, Option, None, List}
use Rattle.std.specs.Prelude.{ℤ}
use Rattle.qc_model.specs.declared.problem.ScopeId.{ScopeId}
use Rattle.qc_model.specs.Content.{Game}
use Rattle.dense_tree.specs.Place.{Setting}
use Rattle.dense_ledger.specs.Ledger.{Ledger, Entry, Fork, Frame, setting_of, entry_at, first_line, node_line, horizoned, body_line, tree_line, fork_line, case_line}
use Rattle.dense_tree.specs.Place.{root_place}
use Rattle.dense_check.specs.declared.line.Line.{Line}
use Rattle.dense_check.specs.declared.line.Line.TheVariants.{Given, Named, Horizon, Stuck, Goal, Again, NoPlay, Range, Skip, Open, Dot}
use Rattle.dense_check.specs.Lines.{line_told}
use Rattle.dense_check.specs.Telling.{begins_with, enters_with}

module _ (s : Setting) (d : Ledger) (e : Entry) (t : List ℤ) where
  pub tree_is : (l : Line) → ((k : ScopeId) → l ≡ NoPlay k → ⊥) → tree_line s d e (line_told l t) ≡ begins_with s d e (line_told l t)
  tree_is (NoPlay k) f = absurd (f k refl)
  tree_is l f = refl

  pub body_is : (l : Line) → (l ≡ Stuck → ⊥) → (l ≡ Goal → ⊥) → body_line s d e (line_told l t) ≡ tree_line s d e (line_told l t)
  body_is Stuck f g = absurd (f refl)
  body_is Goal f g = absurd (g refl)
  body_is l f g = refl

  pub horizoned_is : (l : Line) → ((k : ScopeId) → l ≡ Horizon k → ⊥) → horizoned s d e (line_told l t) ≡ body_line s d e (line_told l t)
  horizoned_is (Horizon k) f = absurd (f k refl)
  horizoned_is l f = refl

  pub node_is : (l : Line) → (l ≡ Named → ⊥) → ((n : ℕ) → l ≡ Again n → ⊥) → ((k : ScopeId) → l ≡ NoPlay k → ⊥) → node_line s d e (line_told l t) ≡ horizoned s d e (line_told l t)
  node_is Named f g h = absurd (f refl)
  node_is (Again n) f g h = absurd (g n refl)
  node_is (NoPlay k) f g h = absurd (h k refl)
  node_is l f g h = refl

module _ (s : Setting) (d : Ledger) (b : Fork) (fs : List Frame) (t : List ℤ) where
  pub case_is : (upto : Option ℤ) (l : Line) → (l ≡ Skip → ⊥) → (l ≡ Open → ⊥) → case_line s d b fs upto (line_told l t) ≡ enters_with s d b fs upto (line_told l t)
  case_is upto Skip f g = absurd (f refl)
  case_is upto Open f g = absurd (g refl)
  case_is upto l f g = refl

  pub fork_is : (l : Line) → (l ≡ Dot → ⊥) → ((high : ℤ) → l ≡ Range high → ⊥) → fork_line s d b fs (line_told l t) ≡ case_line s d b fs None (line_told l t)
  fork_is Dot f g = absurd (f refl)
  fork_is (Range high) f g = absurd (g high refl)
  fork_is l f g = refl

pub first_is : (g : Game) (d : Ledger) (t : List ℤ) (l : Line) → ((k : ScopeId) → l ≡ Given k → ⊥) → first_line g d (line_told l t) ≡ node_line (setting_of g d) d (entry_at (root_place g) false) (line_told l t)
first_is g d t (Given k) f = absurd (f k refl)
first_is g d t l f = refl
