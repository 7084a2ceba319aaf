-- A walk over a certificate's tree: where it stands, which trees it may read, and what it tells of their leaves.
use Rattle.std.specs.Prelude.{◌≡◌, ◌+◌, ◌≤◌, ◌<◌, ◌&&◌, ℕ, suc, Bool, true, false, Some, Option, List, ◌++◌, length, map, drop}
use Rattle.std.specs.List.{list_all}
use Rattle.qc_model.specs.declared.problem.Kind.TheVariants.{Exists}
use Rattle.qc_model.specs.Content.{Game}
use Rattle.qc_model.specs.Demands.{demands}
use Rattle.qc_model.specs.Domains.{Box, Values, has_empty}
use Rattle.qc_model.specs.Game.{before}
use Rattle.qc_model.specs.Valid.{is_number}
use Rattle.qc_model.specs.Verdict.{Seen, seen_bound}
use Rattle.model_arguments.specs.Asked.{is_box_of}
use Rattle.model_levels.specs.Spans.{kind_at}
use Rattle.joins.specs.declared.joins.Joins.{Joins}
use Rattle.joins.specs.Joins.{game_of as game_joined, StandsAt}
use Rattle.joins.specs.Ends.{HasEnds}
use Rattle.fd_store.specs.Held.{trail_len, Follows, IsUndone}
use Rattle.check_box.specs.Placed.{IsAt, values_to}
use Rattle.check_lines.specs.Tracking.{tracked_at}
use Rattle.proof_tree.specs.declared.tree.Step.{Step}
use Rattle.proof_tree.specs.Tree.{Tree, Ending, Branches, Case, skip, left_open, go}
use Rattle.proof_tree.specs.Finding.{Finding, Leaf, seen_of}
use Rattle.proof_tree.specs.InPlace.{in_place, steps_in_place, ending_in_place, branches_in_place}
use Rattle.proof_tree.specs.Read.{read, marks, leaves, branch_leaves, case_leaves}
use Rattle.proof_tree.specs.Steps.{after_steps, step_marks}
use Rattle.proof_meaning.specs.Answered.{Answered, EndingAnswered, BranchesAnswered, CaseAnswered}
use Rattle.qc_play.specs.declared.gathering.Gathering.{Gathering}
use Rattle.qc_play.specs.declared.tables.Tables.{Tables}
use Rattle.qc_play.specs.declared.walk.Walk.{Walk}
use Rattle.qc_play.specs.Gathers.{Gathers, owner_of, wishes_of, count_before}

abbrev pub game_of : Tables → Game
game_of t = t.levels.problem.now

-- what a node of scope i comes to in a box, and the leaves of what stands in the scope's own tree
abbrev pub node_finding : Game → Tree → ℕ → Box → Finding
node_finding g t i box = read g t (drop i g.scopes) i (demands g i) box

abbrev pub end_leaves : Game → Ending → ℕ → Box → List Leaf
end_leaves g e i box = leaves g e (drop i g.scopes) i (demands g i) box

abbrev pub part_leaves : Game → List Step → Ending → ℕ → Box → List Leaf
part_leaves g steps e i box = marks g (drop i g.scopes) i (demands g i) steps box ++ end_leaves g e i (after_steps steps box)

abbrev pub pieces_leaves : Game → Branches → ℕ → Values → ℕ → Box → List Leaf
pieces_leaves g bs x vs i box = branch_leaves g bs x vs (drop i g.scopes) i (demands g i) box

abbrev pub taken_leaves : Game → Case → ℕ → Box → List Leaf
taken_leaves g c i box = case_leaves g c (drop i g.scopes) i (demands g i) box

-- the marks of the steps of scope i's own tree
abbrev pub marks_seen : Game → ℕ → List Step → Box → List Seen
marks_seen g i steps box = map seen_bound (step_marks (tracked_at g i) steps box)

-- lines stand in place under some horizon, and each scope of the opponent among them is answered
pub record CanRead (test : Option ℕ → Bool) (Answers : Type 0) : Type 0 where
  pub horizon : Option ℕ
  pub placed : test horizon ≡ true
  pub answered : Answers

abbrev pub CanReadNode : Game → Tree → ℕ → Box → Type 0
CanReadNode g t i box = CanRead (λ h. in_place g t (drop i g.scopes) i (demands g i) box h) (Answered g t (drop i g.scopes) i (demands g i) box)

abbrev pub CanReadEnd : Game → Ending → ℕ → Box → Type 0
CanReadEnd g e i box = CanRead (λ h. ending_in_place g e (drop i g.scopes) i (demands g i) box h) (EndingAnswered g e (drop i g.scopes) i (demands g i) box)

abbrev pub steps_fit : Game → List Step → ℕ → Box → Bool
steps_fit g steps i box = steps_in_place g (drop i g.scopes) i (demands g i) steps box

abbrev pub CanReadPart : Game → List Step → Ending → ℕ → Box → Type 0
CanReadPart g steps e i box =
    CanRead (λ h. steps_fit g steps i box && ending_in_place g e (drop i g.scopes) i (demands g i) (after_steps steps box) h)
    (EndingAnswered g e (drop i g.scopes) i (demands g i) (after_steps steps box))

abbrev pub CanReadBranches : Game → Branches → ℕ → Values → ℕ → Box → Type 0
CanReadBranches g bs x vs i box =
    CanRead (λ h. branches_in_place g bs x vs (drop i g.scopes) i (demands g i) box h) (BranchesAnswered g bs x vs (drop i g.scopes) i (demands g i) box)

-- what stands in a case
abbrev pub case_fits : Game → Case → ℕ → Box → Option ℕ → Bool
case_fits g skip i box h = true
case_fits g left_open i box h = true
case_fits g (go steps e) i box h = steps_fit g steps i box && ending_in_place g e (drop i g.scopes) i (demands g i) (after_steps steps box) h

abbrev pub CanReadCase : Game → Case → ℕ → Box → Type 0
CanReadCase g c i box = CanRead (case_fits g c i box) (CaseAnswered g c (drop i g.scopes) i (demands g i) box)

-- the walk is in scope i: its box is one of the problem, and the values before the scope stand in their places
pub record IsWithin (g : Game) (w : Walk) (i : ℕ) : Type 0 where
  pub joined : game_joined w.joins ≡ g
  pub each : length w.values.items ≡ length g.variables
  pub numbers : list_all is_number w.values.items ≡ true
  pub declared : is_box_of g w.remains.box ≡ true
  pub placed : has_empty w.remains.box ≡ false → IsAt g i w.values.items w.remains.box

-- what the joins of scopes before i stood for they still stand for, and the values before scope i are the same
pub record Keeps (g : Game) (i : ℕ) (old new : Walk) : Type 0 where
  pub joined : game_joined new.joins ≡ game_joined old.joins
  pub joins : (j : ℕ) (xs : List Seen) → j < i → StandsAt old.joins j xs → StandsAt new.joins j xs
  pub values : values_to g i new.values.items ≡ values_to g i old.values.items
  pub each : length new.values.items ≡ length old.values.items
  pub numbers : list_all is_number new.values.items ≡ true

-- and undoing leads back
pub record LeadsOn (g : Game) (i : ℕ) (old new : Walk) : Type 0 where
  pub keeps : Keeps g i old new
  pub past : Follows old.remains new.remains

-- and the box and its past are as before
pub record IsBack (g : Game) (i : ℕ) (old new : Walk) : Type 0 where
  pub keeps : Keeps g i old new
  pub past : IsUndone (trail_len old.remains) old.remains new.remains
  pub box : new.remains.box ≡ old.remains.box

-- these steps of scope i's own tree were taken: they leave this box, and the join stands for the marks of bounds too
pub record TakesSteps (g : Game) (i : ℕ) (steps : List Step) (old new : Walk) : Type 0 where
  pub box : new.remains.box ≡ after_steps steps old.remains.box
  pub stands : (xs : List Seen) → StandsAt old.joins i xs → StandsAt new.joins i (xs ++ marks_seen g i steps old.remains.box)

-- of scope i's own tree these leaves were seen: its join stands for them, they are gathered, and they come from n ends
pub record HasSeen (g : Game) (i : ℕ) (js : Joins) (x : Gathering) (n : ℕ) (ls : List Leaf) : Type 0 where
  pub stands : StandsAt js i (map seen_of ls)
  pub gathers : Gathers x ls
  pub ends : HasEnds n (map seen_of ls)
  pub kind : kind_at g i ≡ Some (owner_of x)
  pub wishes : owner_of x ≡ Exists → wishes_of x ≡ demands g (suc i)
  pub place : count_before x ≡ before g i

-- so many ends more were walked, and these leaves seen; a certificate has at most 2^30
abbrev pub Tells : Game → ℕ → Joins → Gathering → Joins → Gathering → ℕ → List Leaf → Type 0
Tells g i js x ks y ends more = (n : ℕ) (ls : List Leaf) → n + ends ≤ 1073741824 → HasSeen g i js x n ls → HasSeen g i ks y (n + ends) (ls ++ more)
