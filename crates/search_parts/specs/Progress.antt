-- The cases of a branch so far, one after the other: what ends them from here on ends them whole.
use Rattle.std.specs.Prelude.{◌≡◌, ◌≤◌, ◌+◌, ◌*◌, ℕ, Bool, Option, List, ◌++◌, ℤ}
use Rattle.qc_model.specs.declared.problem.Condition.{Condition}
use Rattle.qc_model.specs.declared.problem.Scope.{Scope}
use Rattle.qc_model.specs.Content.{Game}
use Rattle.qc_model.specs.Domains.{Box, Values}
use Rattle.qc_model.specs.Verdict.{Seen}
use Rattle.proof_tree.specs.Tree.{Branches}
use Rattle.proof_tree.specs.Place.{list_after}
use Rattle.proof_tree.specs.Lines.{branches_lines}
use Rattle.proof_tree.specs.declared.line.Line.{Line}
use Rattle.joins.specs.Sizes.{HasSizes}
use Rattle.search_parts.specs.Settled.{is_settled}
use Rattle.search_parts.specs.Made.{CasesMade}
use Rattle.search_parts.specs.Written.{CasesWritten}

-- cases for the values here are owed; what was seen, the turns and the lines are at seen, left and now
pub record Progress (cuts : Bool) (above : ℤ → Bool) (g : Game) (later : List Scope) (i : ℕ) (d : List Condition) (box : Box) (h : Option ℕ) (x : ℕ) (vs : Values) (before : List Seen) (had : ℕ) (old : List Line)
    (here : Values) (seen : List Seen) (left : ℕ) (now : List Line) : Type 0 where
  -- the turns only fall, and what was seen is no larger than those used can make it
  pub used : ℕ
  pub fell : used + left ≤ had
  pub sizes : HasSizes (2 * used) seen
  -- the lines are those before and more
  pub written : List Line
  pub now_is : now ≡ old ++ written
  pub ends : (bs : Branches) (rest : List Seen) (last : ℕ) (new : List Line) → CasesMade cuts above g later i d box h x here (is_settled later (list_after g later d) seen) (before ++ seen) rest left last bs → new ≡ now ++ branches_lines bs →
      CasesWritten cuts above g later i d box h x vs before (seen ++ rest) had last old new
