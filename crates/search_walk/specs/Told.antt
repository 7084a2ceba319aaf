-- What the calls of the search say of the walk before and after. Each is a record of `Put`, where the walk is.
use Rattle.std.specs.Prelude.{IfSome, None, slice_get, ◌≡◌, ◌<◌, ◌*◌, ◌+◌, ◌++◌, ℕ, suc, Bool, true, Option, List, [], ◌∷◌, length, drop, ℤ, IsTrue, IsFalse}
use Rattle.qc_model.specs.declared.problem.ScopeId.{ScopeId}
use Rattle.qc_model.specs.Content.{Game}
use Rattle.qc_model.specs.Demands.{demands}
use Rattle.qc_model.specs.Domains.{Box, values_left}
use Rattle.qc_model.specs.Verdict.{Verdict, Seen}
use Rattle.proof_tree.specs.Cover.{box_to}
use Rattle.proof_tree.specs.Diligent.{SeesAhead}
use Rattle.proof_tree.specs.Incumbents.{has_no_worse}
use Rattle.joins.specs.Seen.{verdict_of}
use Rattle.joins.specs.declared.leaves.Found.{Found}
use Rattle.proof_tree.specs.InPlace.{is_horizon}
use Rattle.proof_tree.specs.Place.{list_after, position}
use Rattle.joins.specs.Verdicts.{verdict_at}
use Rattle.model_levels.specs.declared.level.Level.{Level}
use Rattle.joins.specs.Joins.{StandsAt, out_of}
use Rattle.joins.specs.declared.joins.Joins.{Joins}
use Rattle.prop_engine.specs.declared.answer.Closed.{Closed}
use Rattle.search_box.specs.Boxed.{Boxed}
use Rattle.search_box.specs.Complete.{IsClosedAtGoal}
use Rattle.search_box.specs.Entered.{IsEntered}
use Rattle.search_box.specs.Looking.{scope_number}
use Rattle.search_parts.specs.Beaten.{firsts, seen_bounds}
use Rattle.search_parts.specs.Settled.{is_ended, is_vague_verdict, beats_none}
use Rattle.search_parts.specs.Written.{NodeWritten}
use Rattle.search_kept.specs.Aside.{StandsAside}
use Rattle.search_kept.specs.Known.{IsEnded, StandsHere}
use Rattle.search_kept.specs.declared.known.NodeEnd.{NodeEnd}
use Rattle.search_walk.specs.Aims.{tracked_at}
use Rattle.search_walk.specs.Going.{IsGoing, GoesOn}
use Rattle.search_walk.specs.Here.{Here, in_box, node_of, node_below, below_of}
use Rattle.search_walk.specs.Put.{IsReady, IsBack, BoundedSteps, EndingPut, PartPut, BoundedPut, FirstPut, CasePut, CasesPut, BodyPut, NodePut}
use Rattle.search_walk.specs.Rivals.{StandsAbove, above_at, outdoes}
use Rattle.search_walk.specs.declared.stage.Stage.{Stage}
use Rattle.search_walk.specs.declared.walk.Walk.{Walk}

-- what was found, with the vector that the joins handed out last
abbrev pub came_to : Found → Walk → Verdict
came_to found w = verdict_of found (out_of w.joins)

-- ---- before a call
-- so few turns are left that the joins take whatever is below
abbrev pub HasFew : Walk → Type 0
HasFew w = w.left < 2147483648

-- the walk's box is one at the stage's scope, or at the node below it
abbrev pub IsAt : Stage → Boxed → Type 0
IsAt s b = IsEntered s.level.now.problem.now s.level.now.number b

abbrev pub IsBelow : Stage → Boxed → Type 0
IsBelow s b = IsEntered s.level.now.problem.now (suc s.level.now.number) b

-- it is closed, and the variables of the scope before x have their values
abbrev pub GoesFrom : Stage → ℕ → Boxed → Type 0
GoesFrom s x b = IsGoing s.level.now.problem.now s.level.now.number x b

-- so after closing, or a domain is empty
abbrev pub GoesOnFrom : Stage → Closed → ℕ → Boxed → Type 0
GoesOnFrom s a x b = GoesOn a s.level.now.problem.now s.level.now.number x b

-- where this is the goal's number, the box is closed for the goal
abbrev pub GoalIsClosed : Game → ℕ → Boxed → Type 0
GoalIsClosed g i b = i ≡ length g.scopes → IsClosedAtGoal g b.store.box

-- no horizon is missed from here on
abbrev pub SeesOn : Here → Type 0
SeesOn p = SeesAhead p.game (drop p.number p.game.scopes) p.number p.box p.horizon

-- a part may begin here, after what was seen before; so a case, whose turn was spent
abbrev pub MayBegin : Here → Walk → List Seen → Type 0
MayBegin p w before = IsReady p.game p.number w.joins (suc (2 * w.left)) before

abbrev pub MayGoInto : Here → Walk → List Seen → Type 0
MayGoInto p w before = IsReady p.game p.number w.joins (2 + 2 * w.left) before

-- no value is left that is worse than what was seen before
abbrev pub HasNoWorse : Here → List Seen → Type 0
HasNoWorse p before = IsTrue (has_no_worse (tracked_at p.game p.number) (firsts before) p.box)

-- the node that is known at this place, or was kept aside at it, stands here
abbrev pub KnownStands : Game → ℕ → Option ScopeId → Walk → ℕ → Type 0
KnownStands g i h w at = IfSome (slice_get w.known.nodes.items at) (λ n. StandsHere g i (scope_number h) w.left w.remains.store.box (verdict_of n.found n.vector.items) n.turns n.lines)

abbrev pub AsideStands : Stage → Walk → ℕ → Type 0
AsideStands s w at = IfSome (slice_get w.aside.nodes.items at) (λ n. StandsAside s.level.now.problem.now (suc s.level.now.number) (scope_number s.horizon) w.left w.remains.store.box (verdict_of n.found n.vector.items) n.turns n.lines)

-- the lines from `start` on are those of a node that ended so
abbrev pub NodeFinished : Game → ℕ → Option ScopeId → NodeEnd → ℕ → Walk → Type 0
NodeFinished g i h end start w = end.had < 2147483648 → IsEnded g i w.remains.store.box (scope_number h) (came_to end.found w) end.had end.left (drop start w.lines)

abbrev pub BelowFinished : Stage → NodeEnd → ℕ → Walk → Type 0
BelowFinished s end start w = NodeFinished s.level.now.problem.now (suc s.level.now.number) s.horizon end start w

-- the scope has nothing to keep up with
abbrev pub HasNoRival : Stage → Type 0
HasNoRival s = s.rival ≡ None

-- no further leaf of the scope counts
abbrev pub NoLeafCounts : Stage → Joins → Type 0
NoLeafCounts s joins = (xs : List Seen) → StandsAt joins s.level.now.number xs → IsTrue (is_ended (outdoes s.level.now.problem.now s.level.now.number s.rival) (drop s.level.now.number s.level.now.problem.now.scopes) (list_after s.level.now.problem.now (drop s.level.now.number s.level.now.problem.now.scopes) (demands s.level.now.problem.now s.level.now.number)) xs)

-- ---- after it
-- it is sure by itself
abbrev pub IsSure : Found → Walk → Type 0
IsSure found w = IsFalse (is_vague_verdict beats_none (came_to found w))

-- the walk is as before, but for the lines and the turns
abbrev pub IsBackAt : Stage → Walk → Walk → Type 0
IsBackAt s old new = IsBack s.level.now.problem.now s.level.now.number old new

abbrev pub IsBackBelow : Stage → Walk → Walk → Type 0
IsBackBelow s old new = IsBack s.level.now.problem.now (suc s.level.now.number) old new

-- the lines are those of an end of the scope's own tree
abbrev pub EndingTold : Here → List Seen → Walk → Walk → Type 0
EndingTold p before old new = EndingPut p before old.left new.left old.lines new.lines new.joins

-- of steps with these marks and an end, where what was seen before beats the marks, or whatever does
abbrev pub PartTold : Here → List Seen → List ℤ → Walk → Walk → Type 0
PartTold p before ms old new = PartPut p before ms old.left new.left old.lines new.lines new.joins

abbrev pub BoundedTold : Here → List Seen → List ℤ → Walk → Walk → Type 0
BoundedTold p before ms old new = BoundedPut p before ms old.left new.left old.lines new.lines new.joins

abbrev pub FirstTold : Here → Walk → Walk → Type 0
FirstTold p old new = FirstPut p old.left new.left old.lines new.lines new.joins

-- of the part of a case that is taken
abbrev pub CaseTold : Here → List Seen → Walk → Walk → Type 0
CaseTold p before old new = CasePut p before old.left new.left old.lines new.lines new.joins

-- of the cases of a branch on x, for all its values
abbrev pub CasesTold : Here → ℕ → List Seen → Walk → Walk → Type 0
CasesTold p x before old new = CasesPut p x (values_left p.box x) before old.left new.left old.lines new.lines new.joins

-- of a node without its horizon, which came to what was found; and with it
abbrev pub BodyTold : Here → Found → Walk → Walk → Type 0
BodyTold p found old new = BodyPut p (came_to found new) old.left new.left old.lines new.lines new.joins

abbrev pub NodeTold : Here → Found → Walk → Walk → Type 0
NodeTold p found old new = NodePut p (came_to found new) old.left new.left old.lines new.lines new.joins

-- of the goal, whatever the search cuts and the scope right above beats
abbrev pub GoalAnswers : Game → ℕ → Option ScopeId → Found → Walk → Walk → Type 0
GoalAnswers g i h found old new = (cuts : Bool) (above : ℤ → Bool) → NodeTold (node_of cuts above g i (scope_number h) old) found old new

-- of a node that nobody passes, below a horizon that tells it
abbrev pub StuckAnswers : Level → Found → Walk → Walk → Type 0
StuckAnswers l found old new = (cuts : Bool) (above : ℤ → Bool) (h : Option ℕ) → is_horizon h l.number ≡ true → BodyTold (node_of cuts above l.problem.now l.number h old) found old new

-- what was found is what the scope's join stands for
abbrev pub JoinAnswers : Level → Found → Walk → Walk → Type 0
JoinAnswers l found old new = (xs : List Seen) → StandsAt old.joins l.number xs → came_to found new ≡ verdict_at l.problem.now l.number (position l.problem.now l.number old.remains.store.box) xs

-- so without what the node's join tells
abbrev pub NodeLines : Here → Found → Walk → Walk → Type 0
NodeLines p found old new = NodeWritten p.cuts p.above p.game (drop p.number p.game.scopes) p.number (demands p.game p.number) p.box p.horizon (came_to found new) old.left new.left old.lines new.lines

-- so of a node that is known, whatever the scope right above beats
abbrev pub KnownAnswers : Bool → Game → ℕ → Option ScopeId → Found → Walk → Walk → Type 0
KnownAnswers cuts g i h found old new = (above : ℤ → Bool) → NodeLines (node_of cuts above g i (scope_number h) old) found old new

-- how a node ended, by a search that cuts
abbrev pub EndsSo : Game → ℕ → Option ScopeId → Found → Walk → Walk → Type 0
EndsSo g i h found old new = IsEnded g i old.remains.store.box (scope_number h) (came_to found new) old.left new.left (drop (length old.lines) new.lines)

-- ---- a call, from what is asked to what is said
-- the own tree of a scope's node
abbrev pub TreeAnswers : Here → Found → Walk → Walk → Type 0
TreeAnswers p found old new = HasFew old → SeesOn p → BodyTold p found old new

-- its lines
abbrev pub OwnAnswers : Here → Walk → Walk → Type 0
OwnAnswers p old new = HasFew old → PartTold p [] [] old new

-- what follows the steps of a closing, from the box that they began in
abbrev pub PartAnswers : Here → Walk → Walk → Type 0
PartAnswers p old new = (box : Box) (before : List Seen) (ms : List ℤ) → BoundedSteps p.game p.number box p.box before ms old.steps → MayBegin p old (before ++ seen_bounds ms) → BoundedTold (in_box p box) before ms old new

abbrev pub EndingAnswers : Here → Walk → Walk → Type 0
EndingAnswers p old new = (before : List Seen) → MayBegin p old before → HasNoWorse p before → EndingTold p before old new

abbrev pub CasesAnswer : Here → ℕ → Walk → Walk → Type 0
CasesAnswer p x old new = (before : List Seen) → MayBegin p old before → CasesTold p x before old new

-- where x takes the value v
abbrev pub CaseAnswers : Here → ℕ → ℤ → Walk → Walk → Type 0
CaseAnswers p x v old new = (before : List Seen) → MayGoInto p old before → CaseTold (in_box p (box_to p.box x (v ∷ []))) before old new

-- a node, whatever the scope right above has seen
abbrev pub NodeAnswers : Bool → Game → ℕ → Option ScopeId → Found → Walk → Walk → Type 0
NodeAnswers cuts g i h found old new = HasFew old → (up : List Seen) → StandsAbove old.joins i up → NodeTold (node_of cuts (above_at g i up) g i (scope_number h) old) found old new

-- its lines alone, whether it is searched or known
abbrev pub NodeWrites : Bool → Game → ℕ → Option ScopeId → Found → Walk → Walk → Type 0
NodeWrites cuts g i h found old new = HasFew old → (up : List Seen) → StandsAbove old.joins i up → NodeLines (node_of cuts (above_at g i up) g i (scope_number h) old) found old new

-- the node below the stage's scope, where its lines were kept aside
abbrev pub AsideAnswers : Stage → Found → Walk → Walk → Type 0
AsideAnswers s found old new = (above : ℤ → Bool) → NodeLines (node_below s above old) found old new

-- and as it is gone through
abbrev pub BelowAnswers : Stage → Found → Walk → Walk → Type 0
BelowAnswers s found old new = HasFew old → (up : List Seen) → StandsAt old.joins s.level.now.number up → NodeLines (below_of s up old) found old new

-- how it ended, where the search cuts
abbrev pub NodeEnded : Bool → Game → ℕ → Option ScopeId → Found → Walk → Walk → Type 0
NodeEnded cuts g i h found old new = IsTrue cuts → HasFew old → EndsSo g i h found old new

abbrev pub BelowEnded : Stage → Found → Walk → Walk → Type 0
BelowEnded s found old new = NodeEnded s.cuts s.level.now.problem.now (suc s.level.now.number) s.horizon found old new
