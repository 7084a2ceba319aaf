-- The laws of closing.
use Rattle.std.specs.Prelude.{◌≡◌, ◌∷◌, ◌⊎◌, ◌↔◌, ◌+◌, ℕ, suc, nat_le, not, ◌&&◌, length, List, [], Option, Some, slice_get, drop, IsTrue, IsFalse, MatchOption, Bool, ℤ}
use Rattle.qc_model.specs.declared.problem.Condition.{Condition}
use Rattle.qc_model.specs.declared.problem.Scope.{Scope}
use Rattle.qc_model.specs.declared.problem.ScopeId.{ScopeId}
use Rattle.qc_model.specs.Arguments.{variables_of}
use Rattle.qc_model.specs.Block.{is_owned_within, constraints_within, constraints_in_force}
use Rattle.qc_model.specs.Closed.{is_closed, refutes_at, NoClosedWithin}
use Rattle.qc_model.specs.Content.{Game, Rule}
use Rattle.qc_model.specs.Domains.{Box, values_left, least_value, greatest_value, has_empty, is_sub_box}
use Rattle.qc_model.specs.Lists.{Among}
use Rattle.qc_model.specs.Valid.{IsValid}
use Rattle.model_arguments.specs.Asked.{is_box_of}
use Rattle.proof_tree.specs.declared.tree.Outcome.{Outcome}
use Rattle.proof_tree.specs.declared.tree.Step.{Step}
use Rattle.proof_tree.specs.Fair.{Taken, IsBoxAt, IsFairWithin}
use Rattle.proof_tree.specs.Good.{IsBlocked}
use Rattle.proof_tree.specs.InPlace.{is_horizon, is_nearer, horizon_in_place, body_in_place}
use Rattle.proof_tree.specs.Meaning.{OutcomeMeans}
use Rattle.proof_tree.specs.Place.{Tracked, is_goal}
use Rattle.proof_tree.specs.Read.{case_leaves}
use Rattle.proof_tree.specs.Steps.{after_steps, are_legal, step_marks}
use Rattle.proof_meaning.specs.Nodes.{IsScope}
use Rattle.dense_closing.specs.Closing.{IsGreatestClosed}
use Rattle.dense_closing.specs.Ends.{is_end_step, are_end_steps}
use Rattle.dense_closing.specs.ClosingSteps.{removal, closing_steps, is_hopeless, greatest_closed}
use Rattle.dense_closing.specs.Takes.{Takes, takes_all, is_closed_by, NoneClosedBy}
use Rattle.dense_closing.specs.Tree.{Line, close, DenseTree, dense_cases, DenseEnding, dense_empty, dense_go}
use Rattle.dense_closing.specs.Expanded.{horizon_of, body_expanded, case_expanded, root_expanded, dense_proves}

-- where all may be taken, closed boxes are those of qc_model
abbrev pub ClosedByAll : Type 0
ClosedByAll = (cs : List Rule) (box : Box) → is_closed_by takes_all cs box ≡ is_closed cs box

-- there is at most one
abbrev pub GreatestIsOne : Type 0
GreatestIsOne = (takes : Takes) (cs : List Rule) (box small other : Box) → IsGreatestClosed takes cs box small → IsGreatestClosed takes cs box other → small ≡ other

-- steps that take ends leave every closed box within
abbrev pub EndsKeepClosed : Type 0
EndsKeepClosed = (takes : Takes) (g : Game) → IsValid g → (i stop : ℕ) (steps : List Step) (box small : Box) → IsTrue (is_box_of g box) → IsTrue (are_end_steps takes g i stop steps box) →
    IsTrue (is_sub_box small box) → IsTrue (is_closed_by takes (constraints_within g i stop) small) → IsTrue (is_sub_box small (after_steps steps box))

-- where they come to a closed box, it is the greatest within the first
abbrev pub EndsReachGreatest : Type 0
EndsReachGreatest = (takes : Takes) (g : Game) → IsValid g → (i stop : ℕ) (steps : List Step) (box : Box) → IsTrue (is_box_of g box) → IsTrue (are_end_steps takes g i stop steps box) →
    IsTrue (is_closed_by takes (constraints_within g i stop) (after_steps steps box)) → IsGreatestClosed takes (constraints_within g i stop) box (after_steps steps box)

-- where they empty a domain, no box within the first is closed
abbrev pub EndsShowNone : Type 0
EndsShowNone = (takes : Takes) (g : Game) → IsValid g → (i stop : ℕ) (steps : List Step) (box : Box) → IsTrue (is_box_of g box) → IsTrue (are_end_steps takes g i stop steps box) →
    IsTrue (has_empty (after_steps steps box)) → NoneClosedBy takes (constraints_within g i stop) box

-- and so where a constraint refutes what they leave and may take none of the values of one of its variables
abbrev pub EndsShowHopeless : Type 0
EndsShowHopeless = (takes : Takes) (g : Game) → IsValid g → (i stop : ℕ) (steps : List Step) (box : Box) → IsTrue (is_box_of g box) → IsTrue (are_end_steps takes g i stop steps box) →
    IsTrue (is_hopeless takes (constraints_within g i stop) (after_steps steps box)) → NoneClosedBy takes (constraints_within g i stop) box

-- an end of its own variable that a constraint of the span refutes may go, where it may take it
abbrev pub RefutedEndMayGo : Type 0
RefutedEndMayGo = (takes : Takes) (g : Game) → IsValid g → (i stop k : ℕ) (c : Rule) (x : ℕ) (v : ℤ) (box : Box) → IsTrue (is_box_of g box) → IsFalse (has_empty box) →
    slice_get g.constraints k ≡ Some c → IsTrue (is_owned_within i stop c) → Among x (variables_of c.args) → IsTrue (takes c x) →
    (v ≡ least_value (values_left box x)) ⊎ (v ≡ greatest_value (values_left box x)) → IsTrue (refutes_at c box x v) → IsTrue (is_end_step takes g i stop (removal k x v) box)

-- they are legal, whatever variable may be bounded, and have no marks
abbrev pub EndsAreLegal : Type 0
EndsAreLegal = (takes : Takes) (g : Game) (i stop : ℕ) (t : Option Tracked) (steps : List Step) (box : Box) → IsTrue (are_end_steps takes g i stop steps box) → IsTrue (are_legal g i stop t steps box)

abbrev pub EndsAreUnmarked : Type 0
EndsAreUnmarked = (takes : Takes) (g : Game) (i stop : ℕ) (t : Option Tracked) (steps : List Step) (box : Box) → IsTrue (are_end_steps takes g i stop steps box) → step_marks t steps box ≡ []

-- the steps of closing take ends
abbrev pub ClosingTakesEnds : Type 0
ClosingTakesEnds = (takes : Takes) (g : Game) → IsValid g → (i stop : ℕ) (box : Box) → IsTrue (is_box_of g box) → IsTrue (are_end_steps takes g i stop (closing_steps takes g i stop box) box)

-- they come to the greatest closed box, or show that there is none
abbrev pub ClosingFinds : Type 0
ClosingFinds = (takes : Takes) (g : Game) → IsValid g → (i stop : ℕ) (box : Box) → IsTrue (is_box_of g box) →
    MatchOption (greatest_closed takes g i stop box) (NoneClosedBy takes (constraints_within g i stop) box) (IsGreatestClosed takes (constraints_within g i stop) box)

-- a fair box within the tree of scope i stays so where it becomes the greatest that is closed for the constraints in force
abbrev pub ClosedStaysFair : Type 0
ClosedStaysFair = (takes : Takes) (g : Game) (s : Scope) (i : ℕ) (taken : List Taken) (a : List ℤ) (box small : Box) (is_bounded : Bool) → IsValid g → IsScope g i s → IsTrue (is_box_of g box) →
    IsGreatestClosed takes (constraints_in_force g (drop i g.scopes) i) box small → IsFairWithin g is_bounded i taken a box → IsFairWithin g is_bounded i taken a small

-- where no box within is closed for the scopes from i to k, nobody passes them
abbrev pub NoneBlocks : Type 0
NoneBlocks = (g : Game) (i k : ℕ) (a : List ℤ) (box : Box) → IsValid g → IsBoxAt g i a box → IsTrue (is_box_of g box) → NoClosedWithin (constraints_within g i (suc k)) box → IsBlocked g i a box (Some k)

-- where there is a greatest box that is closed for the constraints in force, lines that begin with closing are in place, and have the leaves
-- and marks, as the others there
abbrev pub CloseIsPlaced : Type 0
CloseIsPlaced = (g : Game) → IsValid g → (later : List Scope) (i : ℕ) (d : List Condition) (ls : List Line) (end : DenseEnding) (box small : Box) → IsTrue (is_box_of g box) → IsGreatestClosed takes_all (constraints_in_force g later i) box small →
    (h : Option ℕ) → body_in_place g (body_expanded g (dense_cases (close ∷ ls) end) later i box) later i d box h ≡ body_in_place g (body_expanded g (dense_cases ls end) later i small) later i d small h

abbrev pub CloseReads : Type 0
CloseReads = (g : Game) → IsValid g → (later : List Scope) (i : ℕ) (d : List Condition) (ls : List Line) (end : DenseEnding) (box small : Box) → IsTrue (is_box_of g box) → IsGreatestClosed takes_all (constraints_in_force g later i) box small →
    case_leaves g (case_expanded g (dense_go (close ∷ ls) end) later i box) later i d box ≡ case_leaves g (case_expanded g (dense_go ls end) later i small) later i d small

-- the end that says that nothing is left is in place exactly where no box within is closed for the constraints in force, of a scope that isn't
-- the horizon in force
abbrev pub EmptyStands : Type 0
EmptyStands = (g : Game) → IsValid g → (later : List Scope) (i : ℕ) (d : List Condition) (box : Box) (h : Option ℕ) → IsTrue (is_box_of g box) →
    IsTrue (body_in_place g (body_expanded g (dense_cases [] dense_empty) later i box) later i d box h)
    ↔ (IsTrue (not (is_horizon h i) && not (is_goal later)) × NoClosedWithin (constraints_in_force g later i) box)

-- a horizon is in place at a scope exactly where it lies ahead and nearer than the one in force, and no box within is closed for the constraints of
-- the scopes up to it
abbrev pub HorizonStands : Type 0
HorizonStands = (g : Game) → IsValid g → (i : ℕ) (k : ScopeId) (later : List Scope) (h : Option ℕ) (box : Box) → IsTrue (is_box_of g box) →
    IsTrue (horizon_in_place g (horizon_of g i (Some k) box) later i box h)
    ↔ (IsTrue (not (is_goal later) && nat_le i k.0 && nat_le k.0 (i + length later) && is_nearer k.0 h) × NoClosedWithin (constraints_within g i (suc k.0)) box)

-- what a dense tree that proves its outcome says of a valid game is so
abbrev pub DenseIsTrue : Type 0
DenseIsTrue = (g : Game) (outcome : Outcome) (optimum : Option ℤ) (t : DenseTree) → IsValid g → IsTrue (dense_proves g outcome optimum t) → OutcomeMeans outcome optimum g (root_expanded g t)
