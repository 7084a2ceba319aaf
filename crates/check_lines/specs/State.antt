-- What is known after each line of a tree: what is open above, and what the next line may be.
use Rattle.std.specs.Prelude.{ℕ, zero, suc, ◌+◌, nat_lt, nat_le, Bool, not, ◌&&◌, Option, Some, None, List, [], ◌∷◌, ◌++◌, length, ℤ}
use Rattle.qc_model.specs.declared.problem.Condition.{Condition}
use Rattle.qc_model.specs.declared.problem.Scope.{Scope}
use Rattle.qc_model.specs.Content.{Game}
use Rattle.qc_model.specs.Domains.{Values, Box, declared_box, values_left, is_none_left, is_single, has_empty}
use Rattle.qc_model.specs.Game.{allows, is_of_scope}
use Rattle.qc_model.specs.Block.{force_stop}
use Rattle.proof_tree.specs.declared.tree.Step.{Step}
use Rattle.proof_tree.specs.declared.tree.Step.TheVariants.{Prune as PruneStep, Bound as BoundStep}
use Rattle.proof_tree.specs.Cover.{covered, uncovered, is_cover, box_to}
use Rattle.proof_tree.specs.Place.{position, is_fixed, is_goal, next_scopes, list_after, tracked_variable}
use Rattle.proof_tree.specs.Steps.{after_step, is_legal}
use Rattle.proof_tree.specs.InPlace.{is_nearer, is_horizon}
use Rattle.proof_tree.specs.Finding.{Finding, Leaf, leaf_barred, leaf_skipped, leaf_node, scope_finding, stuck_finding, goal_finding}
use Rattle.proof_tree.specs.Read.{marks}
use Rattle.proof_tree.specs.declared.line.Line.{Line}
use Rattle.proof_tree.specs.declared.line.Line.TheVariants.{Horizon, Prune, Bound, Dot, Stuck, Goal, Empty, Barred, Next, Branch, Skip, Open, Range}
use Rattle.check_lines.specs.Tally.{Tally, nothing, ◌&◌, test, taken, one_open}

-- where a node stands: the scopes from its own on, its number, what is demanded, and the horizon in force
pub record Spot : Type 0 where
  pub later : List Scope
  pub number : ℕ
  pub demands : List Condition
  pub horizon : Option ℕ

-- a scope's own tree as far as it is read: where its node stands, the values before it, and the leaves so far
pub record Own : Type 0 where
  pub spot : Spot
  pub before : List ℤ
  pub leaves : List Leaf

-- a branch as far as it is read: its variable, its box, and the values that no case so far covers
pub record Fork : Type 0 where
  pub variable : ℕ
  pub box : Box
  pub left : Values

mutual
  -- what is open above a node: nothing, or the own tree of the scope before, with the values that lead to the node
  pub data Above : Type 0 where
    at_root : Above
    below : Own → List ℤ → Within → Above

  -- what is open around a part of a scope's own tree: only its node, or a case of a branch
  pub data Within : Type 0 where
    whole_tree : Above → Within
    in_case : Fork → Within → Within

-- what the next line may be
pub data State : Type 0 where
  -- a node
  node_due : Tally → Above → Spot → Box → State
  -- a step of a horizon at this scope, or the dot after the steps; the node's box, and what the steps leave of it
  prune_due : Tally → Above → Spot → ℕ → Box → Box → State
  -- a node after its horizon
  body_due : Tally → Above → Spot → Box → State
  -- a step or an end, in a scope's own tree
  end_due : Tally → Within → Own → Box → State
  -- a case of a branch or the dot after them, and a case with this upper value
  case_due : Tally → Within → Own → Fork → State
  ranged_due : Tally → Within → Own → Fork → ℤ → State
  -- none: the lines are a node
  ended : Tally → Finding → State
  -- the lines aren't the beginning of a node
  wrong : State

abbrev pub with_leaves : Own → List Leaf → Own
with_leaves o ls = record { spot = o.spot; before = o.before; leaves = o.leaves ++ ls }

abbrev pub with_leaf : Own → Leaf → Own
with_leaf o l = with_leaves o (l ∷ [])

abbrev pub finding_of : Game → Own → Finding
finding_of g o = scope_finding o.spot.later g o.spot.number o.spot.demands o.before o.leaves

-- what goes on after a node that comes to f, and after a part of a scope's own tree: one row for each kind of what is open
abbrev mutual
  pub after_node : Game → Tally → Above → Finding → State
  after_node g t at_root f = ended t f
  after_node g t (below o w around) f = after_part g t around (with_leaf o (leaf_node w f))

  pub after_part : Game → Tally → Within → Own → State
  after_part g t (whole_tree above) o = after_node g t above (finding_of g o)
  after_part g t (in_case b around) o = case_due t around o b

-- a step of a scope's own tree is legal
abbrev pub is_own_step : Game → Spot → Step → Box → Bool
is_own_step g s step box =
    is_legal g s.number (force_stop s.later s.number) (tracked_variable g s.later s.number (list_after g s.later s.demands)) step box

abbrev pub with_marks : Game → Own → Step → Box → Own
with_marks g o step box = with_leaves o (marks g o.spot.later o.spot.number o.spot.demands (step ∷ []) box)

-- the tuple of the scope may be barred, or go on to a node; and the node's place
abbrev pub bars : Game → ℕ → Box → Bool
bars g i box = not (has_empty box) && is_fixed g i box && not (allows g i (position g (suc i) box))

abbrev pub goes_on : Game → ℕ → Box → Bool
goes_on g i box = not (has_empty box) && is_fixed g i box && allows g i (position g (suc i) box)

abbrev pub spot_after : Game → Spot → Spot
spot_after g s = record { later = next_scopes s.later; number = suc s.number; demands = list_after g s.later s.demands; horizon = s.horizon }

-- a branch on x
abbrev pub may_branch : Game → ℕ → ℕ → Box → Bool
may_branch g i x box = not (has_empty box) && is_of_scope g i x && not (is_single (values_left box x))

abbrev pub fork_on : ℕ → Box → Fork
fork_on x box = record { variable = x; box = box; left = values_left box x }

abbrev pub after_step_line : Game → Tally → Within → Own → Step → Box → State
after_step_line g t around o step box =
    end_due (t & test (is_own_step g o.spot step box)) around (with_marks g o step box) (after_step step box)

abbrev pub at_end : Game → Tally → Within → Own → Box → Line → State
at_end g t around o box (Prune x low high c) = after_step_line g t around o (PruneStep x low high c) box
at_end g t around o box (Bound x low high) = after_step_line g t around o (BoundStep x low high) box
at_end g t around o box Empty = after_part g (t & test (has_empty box)) around o
at_end g t around o box Barred = after_part g (t & test (bars g o.spot.number box)) around (with_leaf o leaf_barred)
at_end g t around o box Next =
    node_due (t & test (goes_on g o.spot.number box)) (below o (position g (suc o.spot.number) box) around) (spot_after g o.spot) box
at_end g t around o box (Branch x) = case_due (t & test (may_branch g o.spot.number x.0 box)) around o (fork_on x.0 box)
at_end g t around o box l = wrong

abbrev pub own_at : Game → Spot → Box → Own
own_at g s box = record { spot = s; before = position g s.number box; leaves = [] }

abbrev pub at_body : Game → Tally → Above → Spot → Box → Line → State
at_body g t above s box Stuck =
    after_node g (t & test (is_horizon s.horizon s.number)) above (stuck_finding s.later g s.demands (position g s.number box))
at_body g t above s box Goal =
    after_node g (t & test (not (is_horizon s.horizon s.number) && is_goal s.later)) above (goal_finding g s.number s.demands (position g s.number box))
at_body g t above s box l =
    at_end g (t & test (not (is_horizon s.horizon s.number) && not (is_goal s.later))) (whole_tree above) (own_at g s box) box l

-- a horizon at scope k, but for its steps
abbrev pub may_see : ℕ → Spot → Bool
may_see k s = not (is_goal s.later) && nat_le s.number k && nat_le k (s.number + length s.later) && is_nearer k s.horizon

abbrev pub at_node : Game → Tally → Above → Spot → Box → Line → State
at_node g t above s box (Horizon zero) = wrong
at_node g t above s box (Horizon (suc k)) = prune_due (t & test (may_see k s)) above s k box box
at_node g t above s box l = at_body g t above s box l

abbrev pub with_horizon : Spot → ℕ → Spot
with_horizon s k = record { later = s.later; number = s.number; demands = s.demands; horizon = Some k }

abbrev pub after_prune_line : Game → Tally → Above → Spot → ℕ → Box → Step → Box → State
after_prune_line g t above s k box step left = prune_due (t & test (is_legal g s.number (suc k) None step left)) above s k box (after_step step left)

abbrev pub at_prune : Game → Tally → Above → Spot → ℕ → Box → Box → Line → State
at_prune g t above s k box left (Prune x low high c) = after_prune_line g t above s k box (PruneStep x low high c) left
at_prune g t above s k box left (Bound x low high) = after_prune_line g t above s k box (BoundStep x low high) left
at_prune g t above s k box left Dot = body_due (t & test (has_empty left)) above (with_horizon s k) box
at_prune g t above s k box left l = wrong

-- without the values that the case covers
abbrev pub fork_after : Option ℤ → Fork → Fork
fork_after upto b = record { variable = b.variable; box = b.box; left = uncovered upto b.left }

-- a case begins at the values that are left, and one that is taken doesn't cover all values of the variable
abbrev pub may_take : Option ℤ → Fork → Bool
may_take upto b = is_cover upto b.left && nat_lt (length (covered upto b.left)) (length (values_left b.box b.variable))

abbrev pub at_case : Game → Tally → Within → Own → Fork → Option ℤ → Line → State
at_case g t around o b upto Skip = case_due (t & test (is_cover upto b.left)) around (with_leaf o leaf_skipped) (fork_after upto b)
at_case g t around o b upto Open = case_due (t & one_open (is_cover upto b.left)) around (with_leaf o leaf_skipped) (fork_after upto b)
at_case g t around o b upto l =
    at_end g (t & taken (may_take upto b)) (in_case (fork_after upto b) around) o (box_to b.box b.variable (covered upto b.left)) l

abbrev pub at_fork : Game → Tally → Within → Own → Fork → Line → State
at_fork g t around o b Dot = after_part g (t & test (is_none_left b.left)) around o
at_fork g t around o b (Range high) = ranged_due t around o b high
at_fork g t around o b l = at_case g t around o b None l

abbrev pub step : Game → State → Line → State
step g (node_due t above s box) l = at_node g t above s box l
step g (prune_due t above s k box left) l = at_prune g t above s k box left l
step g (body_due t above s box) l = at_body g t above s box l
step g (end_due t around o box) l = at_end g t around o box l
step g (case_due t around o b) l = at_fork g t around o b l
step g (ranged_due t around o b high) l = at_case g t around o b (Some high) l
step g (ended t f) l = wrong
step g wrong l = wrong

abbrev pub run : Game → State → List Line → State
run g s [] = s
run g s (l ∷ ls) = run g (step g s l) ls

abbrev pub root_spot : Game → Spot
root_spot g = record { later = g.scopes; number = 0; demands = []; horizon = None }

abbrev pub start : Game → State
start g = node_due nothing at_root (root_spot g) (declared_box g)
