-- The cases of a branch from one value on, where those before it stand.
use Rattle.std.specs.Prelude.{◌≡◌, ◌++◌, ◌*◌, ℕ, suc, List, drop, take, length, ℤ}
use Rattle.qc_model.specs.Demands.{demands}
use Rattle.qc_model.specs.Domains.{Values, values_left}
use Rattle.qc_model.specs.Verdict.{Seen}
use Rattle.proof_tree.specs.declared.line.Line.{Line}
use Rattle.joins.specs.declared.joins.Joins.{Joins}
use Rattle.fd_store.specs.Held.{values_from}
use Rattle.search_parts.specs.Progress.{Progress}
use Rattle.search_walk.specs.Here.{Here}
use Rattle.search_walk.specs.Put.{IsReady, IsTold, CasesPut}
use Rattle.search_walk.specs.Told.{IsBackAt}
use Rattle.search_walk.specs.declared.stage.Stage.{Stage}
use Rattle.search_walk.specs.declared.walk.Walk.{Walk}

-- the cases of a branch on x so far: what was seen in them, and what the join stands for
pub record Passing (node : Here) (x : ℕ) (vs : Values) (before : List Seen) (had : ℕ) (old : List Line) (here : Values) (left : ℕ) (now : List Line) (joins : Joins) : Type 0 where
  pub seen : List Seen
  pub progress : Progress node.cuts node.above node.game (drop node.number node.game.scopes) node.number (demands node.game node.number) node.box node.horizon x vs before had old here seen left now
  pub told : IsTold node.game node.number joins (before ++ seen)

-- so whatever was seen before a branch that began with so many turns, these lines and these joins, where the cases of these values
-- are left; and all cases of it
abbrev pub SoFar : Here → ℕ → ℕ → List Line → Joins → Values → ℕ → List Line → Joins → Type 0
SoFar p x had old first here left now joins = (xs : List Seen) → IsReady p.game p.number first (suc (2 * had)) xs → Passing p x (values_left p.box x) xs had old here left now joins

abbrev pub AllDone : Here → ℕ → ℕ → List Line → Joins → ℕ → List Line → Joins → Type 0
AllDone p x had old first left new joins = (xs : List Seen) → IsReady p.game p.number first (suc (2 * had)) xs → CasesPut p x (values_left p.box x) xs had left old new joins

-- the cases from v on complete those of a branch whose lines begin at `start`
abbrev pub LaterAnswers : Here → ℕ → ℕ → ℤ → Walk → Walk → Type 0
LaterAnswers p x start v old new =
    (had : ℕ) (lines : List Line) (first : Joins) → start ≡ length lines → SoFar p x had lines first (values_from v (values_left p.box x)) old.left old.lines old.joins → AllDone p x had lines first new.left new.lines new.joins

-- the walk with its first lines alone
abbrev pub cut_to : ℕ → Walk → Walk
cut_to start w = record {
  alloc = w.alloc;
  remains = w.remains;
  joins = w.joins;
  lines = take start w.lines;
  steps = w.steps;
  needed = w.needed;
  left = w.left;
  advice = w.advice;
  known = w.known;
  aside = w.aside;
  same = w.same;
  beside = w.beside;
}

-- but for the lines from `start` on, and the turns, the walk is as before
abbrev pub LaterBack : Stage → ℕ → Walk → Walk → Type 0
LaterBack s start old new = IsBackAt s (cut_to start old) new
