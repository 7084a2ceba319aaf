-- What the calls of the search say: the lines that they wrote, and what the joins stand for afterwards.
use Rattle.std.specs.Prelude.{◌≡◌, ◌≤◌, ◌<◌, ◌+◌, ◌⊎◌, ℕ, Bool, true, false, None, Option, List, [], ◌++◌, length, drop, ℤ, IsTrue}
use Rattle.qc_model.specs.Content.{Game}
use Rattle.qc_model.specs.Demands.{demands}
use Rattle.qc_model.specs.Domains.{Values, Box}
use Rattle.qc_model.specs.Verdict.{Verdict, Seen}
use Rattle.proof_tree.specs.Incumbents.{has_no_worse}
use Rattle.proof_tree.specs.Lines.{body_lines}
use Rattle.proof_tree.specs.Read.{read, read_body}
use Rattle.proof_tree.specs.Tree.{Body, tree}
use Rattle.proof_tree.specs.Steps.{after_steps}
use Rattle.proof_tree.specs.declared.line.Line.{Line}
use Rattle.proof_tree.specs.declared.tree.Step.{Step}
use Rattle.joins.specs.Verdicts.{settled_at, own_at, wishes_at}
use Rattle.joins.specs.Joins.{game_of, StandsAt}
use Rattle.joins.specs.Sizes.{HasSizes}
use Rattle.joins.specs.declared.joins.Joins.{Joins}
use Rattle.search_walk.specs.declared.walk.Walk.{Walk}
use Rattle.search_box.specs.Boxed.{KeepsValues}
use Rattle.search_walk.specs.Aims.{tracked_at}
use Rattle.search_walk.specs.Here.{Here}
use Rattle.search_parts.specs.Beaten.{firsts, seen_bounds, are_beaten}
use Rattle.search_parts.specs.Made.{NodeMade, StepsMade}
use Rattle.search_parts.specs.Written.{NodeWritten, EndingWritten, PartWritten, BoundedWritten, CasesWritten}

-- before a part of scope i's own tree: its join stands for what was seen so far, which doesn't settle the scope, and no
-- number gets large with so many more
pub record IsReady (g : Game) (i : ℕ) (joins : Joins) (more : ℕ) (before : List Seen) : Type 0 where
  pub stands : StandsAt joins i before
  pub unsettled : settled_at g i before ≡ false
  pub size : ℕ
  pub sizes : HasSizes size before
  pub room : size + more ≤ 4294967296

-- after it: the join stands for all that was seen, or both it and what was seen settle the scope
pub record IsTold (g : Game) (i : ℕ) (joins : Joins) (seen : List Seen) : Type 0 where
  pub stood : List Seen
  pub stands : StandsAt joins i stood
  pub same : (stood ≡ seen) ⊎ ((settled_at g i stood ≡ true) × (settled_at g i seen ≡ true))

-- the values left, the trail, the places of the variables before scope i and the joins of the scopes before it are as they
-- were; the lines are those before and more, and no more turns are left
pub record IsBack (g : Game) (i : ℕ) (old new : Walk) : Type 0 where
  pub problem : new.remains.game ≡ old.remains.game
  pub box : new.remains.store.box ≡ old.remains.store.box
  pub past : new.remains.store.past ≡ old.remains.store.past
  pub kept : KeepsValues g i old.remains new.remains
  pub game : game_of new.joins ≡ game_of old.joins
  pub joins : (j : ℕ) (xs : List Seen) → j < i → StandsAt old.joins j xs → StandsAt new.joins j xs
  pub written : List Line
  pub lines : new.lines ≡ old.lines ++ written
  pub left : new.left ≤ old.left

-- the lines are those of an end of scope i's own tree in this box, below the horizon h, after what was seen before
pub record EndingPut (node : Here) (before : List Seen) (had left : ℕ) (old new : List Line) (joins : Joins) : Type 0 where
  pub seen : List Seen
  pub written : EndingWritten node.cuts node.above node.game (drop node.number node.game.scopes) node.number (demands node.game node.number) node.box node.horizon before seen had left old new
  pub told : IsTold node.game node.number joins (before ++ seen)

-- steps from the box to what is left, with the marks ms: what was seen before beats these, of which there is one at most,
-- and no worse value stays
pub record StepsTold (g : Game) (i : ℕ) (box left : Box) (before : List Seen) (ms : List ℤ) (steps : List Step) : Type 0 where
  pub reached : left ≡ after_steps steps box
  pub stepped : StepsMade g (drop i g.scopes) i (demands g i) box ms steps
  pub beaten : IsTrue (are_beaten (wishes_at g i) (firsts before) ms)
  pub one : HasSizes 1 (seen_bounds ms)
  pub worse : IsTrue (has_no_worse (tracked_at g i) (firsts before) left)

-- the same, whatever beats the marks
pub record BoundedSteps (g : Game) (i : ℕ) (box left : Box) (before : List Seen) (ms : List ℤ) (steps : List Step) : Type 0 where
  pub reached : left ≡ after_steps steps box
  pub stepped : StepsMade g (drop i g.scopes) i (demands g i) box ms steps
  pub one : HasSizes 1 (seen_bounds ms)
  pub worse : IsTrue (has_no_worse (tracked_at g i) (firsts before) left)

-- the lines are those of steps with these marks and an end
pub record PartPut (node : Here) (before : List Seen) (ms : List ℤ) (had left : ℕ) (old new : List Line) (joins : Joins) : Type 0 where
  pub seen : List Seen
  pub written : PartWritten node.cuts node.above node.game (drop node.number node.game.scopes) node.number (demands node.game node.number) node.box node.horizon before ms seen had left old new
  pub told : IsTold node.game node.number joins (before ++ seen)

-- the same, whatever beats the marks
pub record BoundedPut (node : Here) (before : List Seen) (ms : List ℤ) (had left : ℕ) (old new : List Line) (joins : Joins) : Type 0 where
  pub seen : List Seen
  pub written : BoundedWritten node.cuts node.above node.game (drop node.number node.game.scopes) node.number (demands node.game node.number) node.box node.horizon before ms seen had left old new
  pub told : IsTold node.game node.number joins (before ++ seen)

-- so where a node's own tree begins with a bound
pub record FirstPut (node : Here) (had left : ℕ) (old new : List Line) (joins : Joins) : Type 0 where
  pub ms : List ℤ
  pub part : BoundedPut node [] ms had left old new joins

-- so in a case that is taken
pub record CasePut (node : Here) (before : List Seen) (had left : ℕ) (old new : List Line) (joins : Joins) : Type 0 where
  pub ms : List ℤ
  pub part : PartPut node before ms had left old new joins

-- the lines are those of the cases of a branch on x, for the values vs
pub record CasesPut (node : Here) (x : ℕ) (vs : Values) (before : List Seen) (had left : ℕ) (old new : List Line) (joins : Joins) : Type 0 where
  pub seen : List Seen
  pub written : CasesWritten node.cuts node.above node.game (drop node.number node.game.scopes) node.number (demands node.game node.number) node.box node.horizon x vs before seen had left old new
  pub told : IsTold node.game node.number joins (before ++ seen)

-- the join of scope i tells the value of the scope's own condition
pub record TellsOwn (g : Game) (i : ℕ) (joins : Joins) (own : Option ℤ) : Type 0 where
  pub stood : List Seen
  pub stands : StandsAt joins i stood
  pub is_own : own ≡ own_at g i stood

-- the lines are what stands at a node of scope i, or of the goal, below the horizon h in force there; it came to v
pub record BodyPut (node : Here) (v : Verdict) (had left : ℕ) (old new : List Line) (joins : Joins) : Type 0 where
  pub body : Body
  pub lines : new ≡ old ++ body_lines body
  pub made : NodeMade node.cuts node.above node.game (drop node.number node.game.scopes) node.number (demands node.game node.number) node.box node.horizon v had left (tree None body)
  pub own : node.number < length node.game.scopes → TellsOwn node.game node.number joins (read_body node.game body (drop node.number node.game.scopes) node.number (demands node.game node.number) node.box).own

-- the lines are those of a node of scope i, or of the goal, below the horizon h, which came to v
pub record NodePut (node : Here) (v : Verdict) (had left : ℕ) (old new : List Line) (joins : Joins) : Type 0 where
  pub written : NodeWritten node.cuts node.above node.game (drop node.number node.game.scopes) node.number (demands node.game node.number) node.box node.horizon v had left old new
  pub own : node.number < length node.game.scopes → TellsOwn node.game node.number joins (read node.game written.tree (drop node.number node.game.scopes) node.number (demands node.game node.number) node.box).own
