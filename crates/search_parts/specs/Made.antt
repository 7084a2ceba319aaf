-- What a search has made: which tree its lines are isn't said, only what holds of it.
use Rattle.std.specs.Prelude.{◌≡◌, ◌⊎◌, ◌≤◌, ◌+◌, ℕ, suc, true, false, Option, List, ◌++◌, map, IsTrue, Bool, ◌*◌, ℤ}
use Rattle.qc_model.specs.declared.problem.Condition.{Condition}
use Rattle.qc_model.specs.declared.problem.Scope.{Scope}
use Rattle.qc_model.specs.Content.{Game}
use Rattle.qc_model.specs.Domains.{Values, Box}
use Rattle.qc_model.specs.Verdict.{Verdict, Seen, bounds}
use Rattle.qc_model.specs.ExistsVerdict.{some_open}
use Rattle.proof_tree.specs.Tree.{Tree, Ending, Branches}
use Rattle.proof_tree.specs.Pieces.{each_case, ending_each, branches_each, goes_at_one}
use Rattle.proof_tree.specs.Counts.{turns_of, ending_turns, branch_turns, opens_of, ending_opens, branch_opens}
use Rattle.proof_tree.specs.Diligent.{closes, ending_closes, branches_close, Foresees, EndingForesees, BranchesForesee}
use Rattle.proof_tree.specs.Finding.{seen_of}
use Rattle.proof_tree.specs.InPlace.{in_place, steps_in_place, ending_in_place, branches_in_place}
use Rattle.proof_tree.specs.Incumbents.{keeps, ending_keeps, branches_keep}
use Rattle.proof_tree.specs.Place.{list_after, tracked_variable}
use Rattle.proof_tree.specs.Read.{read, leaves, branch_leaves}
use Rattle.proof_tree.specs.Steps.{after_steps, step_marks}
use Rattle.proof_tree.specs.declared.tree.Step.{Step}
use Rattle.proof_tree.specs.Order.{has_go, opens_last, is_joined, skips, branches_skip, settled_last, ending_settled_last, branches_settled_last}
use Rattle.std.specs.List.{list_all}
use Rattle.proof_tree.specs.declared.tree.Version.TheVariants.{Two}
use Rattle.proof_tree.specs.Text.{tree_fits, ending_fits, branches_fit, step_fits}
use Rattle.joins.specs.Joins.{IsLong}
use Rattle.joins.specs.Sizes.{AreLong, IsSized, HasSizes}
use Rattle.joins.specs.Verdicts.{scope_wishes}
use Rattle.search_parts.specs.Beaten.{firsts, seen_bounds, are_beaten, AreAmong}
use Rattle.search_parts.specs.Settled.{is_ended, is_vague_verdict}
use Rattle.search_parts.specs.Own.{IsOwnSized}

-- a node of scope i with the list d, in this box and below this horizon, where later has the scopes from i on, and above
-- says which bounds the scope right above beats; it came to v, and the turns that were left fell from had to left, by those of the tree and, where settled nodes are cut, of what
-- was cut
pub record NodeMade (cuts : Bool) (above : ℤ → Bool) (g : Game) (later : List Scope) (i : ℕ) (d : List Condition) (box : Box) (h : Option ℕ) (v : Verdict) (had left : ℕ) (t : Tree) : Type 0 where
  pub placed : IsTrue (in_place g t later i d box h)
  pub verdict : (read g t later i d box).verdict ≡ v
  pub settled : IsTrue (settled_last g t later i d box)
  pub lasts : IsTrue (each_case opens_last t)
  pub ones : IsTrue (each_case goes_at_one t)
  pub apart : IsTrue (each_case is_joined t)
  -- its numbers fit the text
  pub fits : IsTrue (tree_fits Two t)
  pub spent : turns_of t + left ≤ had
  pub exact : cuts ≡ false → had ≤ turns_of t + left
  -- a case is open only where no turn is left
  pub opens : (opens_of t ≡ 0) ⊎ (left ≡ 0)
  -- something stays open only where a case is open, or the scope right above beats it
  pub gap : opens_of t ≡ 0 → is_vague_verdict above v ≡ false
  -- an exact vector has a value for each entry, and its numbers are at most 10^9 for each leaf and each bound, of which a
  -- turn brings one more
  pub long : IsLong g i v
  pub sized : IsSized (suc (2 * turns_of t)) v
  pub own : IsOwnSized (suc (2 * turns_of t)) (read g t later i d box).own
  -- no value stays that is worse than the incumbent's
  pub keeps : IsTrue (keeps g t later i d box)
  -- it closes its boxes before it branches, and sees a dead end ahead
  pub closed : IsTrue (closes g t later i box)
  pub foreseen : Foresees g t later i box h

-- a part of the own tree of scope i, after what was seen before; seen is what its leaves and marks say
pub record EndingMade (cuts : Bool) (above : ℤ → Bool) (g : Game) (later : List Scope) (i : ℕ) (d : List Condition) (box : Box) (h : Option ℕ) (before seen : List Seen) (had left : ℕ) (e : Ending) : Type 0 where
  pub placed : IsTrue (ending_in_place g e later i d box h)
  pub says : seen ≡ map seen_of (leaves g e later i d box)
  pub settled : IsTrue (ending_settled_last g e later i d box)
  pub lasts : IsTrue (ending_each opens_last e)
  pub ones : IsTrue (ending_each goes_at_one e)
  pub apart : IsTrue (ending_each is_joined e)
  pub fits : IsTrue (ending_fits Two e)
  pub spent : ending_turns e + left ≤ had
  pub exact : cuts ≡ false → had ≤ ending_turns e + left
  pub opens : (ending_opens e ≡ 0) ⊎ (left ≡ 0)
  -- something stays open only where a case is open, or no further leaf counts
  pub gap : ending_opens e ≡ 0 → is_ended above later (list_after g later d) (before ++ seen) ≡ false → some_open seen ≡ false
  -- a case is skipped only where no further leaf counts
  pub skips : skips e ≡ true → is_ended above later (list_after g later d) (before ++ seen) ≡ true
  -- each bound is beaten, where no case is open
  pub beaten : ending_opens e ≡ 0 → IsTrue (are_beaten (scope_wishes later g d) (firsts (before ++ seen)) (bounds seen))
  -- it keeps the incumbents among those before, and its own
  pub keeps : (reached : List ℤ) → AreAmong reached (firsts before) → IsTrue (ending_keeps g e later i d box reached)
  pub long : AreLong g i seen
  pub sizes : HasSizes (suc (2 * ending_turns e)) seen
  pub closed : IsTrue (ending_closes g e later i box)
  pub foreseen : EndingForesees g e later i box h

-- steps of the own tree of scope i: they are legal, and have these marks
pub record StepsMade (g : Game) (later : List Scope) (i : ℕ) (d : List Condition) (box : Box) (ms : List ℤ) (steps : List Step) : Type 0 where
  pub legal : IsTrue (steps_in_place g later i d steps box)
  pub marked : ms ≡ step_marks (tracked_variable g later i (list_after g later d)) steps box
  pub fits : IsTrue (list_all step_fits steps)

-- steps with the marks ms and then a part of the scope's own tree, as at a node and at a case that is taken
pub record PartMade (cuts : Bool) (above : ℤ → Bool) (g : Game) (later : List Scope) (i : ℕ) (d : List Condition) (box : Box) (h : Option ℕ) (before : List Seen) (ms : List ℤ) (seen : List Seen) (had left : ℕ) (steps : List Step) (e : Ending) : Type 0 where
  pub last : List Seen
  pub both : seen ≡ seen_bounds ms ++ last
  pub stepped : StepsMade g later i d box ms steps
  -- what was seen before beats the marks, of which there is one at most
  pub marks_beaten : IsTrue (are_beaten (scope_wishes later g d) (firsts before) ms)
  pub one : HasSizes 1 (seen_bounds ms)
  pub ended : EndingMade cuts above g later i d (after_steps steps box) h (before ++ seen_bounds ms) last had left e

-- the same, whatever beats the marks: so a node's own tree may begin with a bound, before anything was seen
pub record BoundedMade (cuts : Bool) (above : ℤ → Bool) (g : Game) (later : List Scope) (i : ℕ) (d : List Condition) (box : Box) (h : Option ℕ) (before : List Seen) (ms : List ℤ) (seen : List Seen) (had left : ℕ) (steps : List Step) (e : Ending) : Type 0 where
  pub last : List Seen
  pub both : seen ≡ seen_bounds ms ++ last
  pub stepped : StepsMade g later i d box ms steps
  pub one : HasSizes 1 (seen_bounds ms)
  pub ended : EndingMade cuts above g later i d (after_steps steps box) h (before ++ seen_bounds ms) last had left e

-- the cases of a branch for the values vs of x, which no earlier case covers; was_settled says whether the scope was
-- settled before them
pub record CasesMade (cuts : Bool) (above : ℤ → Bool) (g : Game) (later : List Scope) (i : ℕ) (d : List Condition) (box : Box) (h : Option ℕ) (x : ℕ) (vs : Values) (was_settled : Bool) (before seen : List Seen) (had left : ℕ) (bs : Branches) : Type 0 where
  pub placed : IsTrue (branches_in_place g bs x vs later i d box h)
  pub says : seen ≡ map seen_of (branch_leaves g bs x vs later i d box)
  pub settled : IsTrue (branches_settled_last g bs x vs later i d box)
  pub lasts : IsTrue (branches_each opens_last bs)
  pub ones : IsTrue (branches_each goes_at_one bs)
  pub apart : IsTrue (branches_each is_joined bs)
  pub fits : IsTrue (branches_fit Two bs)
  pub spent : branch_turns bs + left ≤ had
  pub exact : cuts ≡ false → had ≤ branch_turns bs + left
  pub opens : (branch_opens bs ≡ 0) ⊎ (left ≡ 0)
  pub gap : branch_opens bs ≡ 0 → is_ended above later (list_after g later d) (before ++ seen) ≡ false → some_open seen ≡ false
  pub skips : branches_skip bs ≡ true → is_ended above later (list_after g later d) (before ++ seen) ≡ true
  -- where the scope was settled before, no case is taken
  pub rests : was_settled ≡ true → has_go bs ≡ false
  pub beaten : branch_opens bs ≡ 0 → IsTrue (are_beaten (scope_wishes later g d) (firsts (before ++ seen)) (bounds seen))
  pub keeps : (reached : List ℤ) → AreAmong reached (firsts before) → IsTrue (branches_keep g bs x vs later i d box reached)
  pub long : AreLong g i seen
  pub sizes : HasSizes (2 * branch_turns bs) seen
  pub closed : IsTrue (branches_close g bs x vs later i box)
  pub foreseen : BranchesForesee g bs x vs later i box h
