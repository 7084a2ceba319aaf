-- What a machine would hold for every game, with all that was seen in a scope's own tree in place of a join of it, and
-- what a line makes of it. A line that may not stand here leaves nothing.
use Rattle.std.specs.Prelude.{ℕ, zero, suc, ◌+◌, ◌-◌, nat_lt, nat_le, Bool, true, false, not, ◌&&◌, ◌||◌, cond, Option, Some, None, List, [], ◌∷◌, ◌++◌, map, length, drop, ℤ}
use Rattle.qc_model.specs.Content.{Game}
use Rattle.qc_model.specs.Domains.{Box, is_none_left, has_empty}
use Rattle.qc_model.specs.Game.{allows}
use Rattle.qc_model.specs.Demands.{demands}
use Rattle.qc_model.specs.Verdict.{Verdict, Seen, seen_barred, seen_skipped, seen_bound, seen_node}
use Rattle.qc_model.specs.ForallVerdict.{goal_verdict}
use Rattle.joins.specs.Verdicts.{verdict_at, own_at, stuck_of}
use Rattle.proof_tree.specs.declared.tree.Step.{Step}
use Rattle.proof_tree.specs.declared.tree.Step.TheVariants.{Prune as PruneStep, Bound as BoundStep}
use Rattle.proof_tree.specs.Cover.{covered, is_cover, box_to}
use Rattle.proof_tree.specs.Place.{position, list_after, tracked_variable}
use Rattle.proof_tree.specs.Steps.{after_step, is_legal, step_marks}
use Rattle.proof_tree.specs.InPlace.{is_horizon}
use Rattle.proof_tree.specs.declared.line.Line.{Line}
use Rattle.proof_tree.specs.declared.line.Line.TheVariants.{Horizon, Prune, Bound, Dot, Stuck, Goal, Empty, Barred, Next, Branch, Skip, Open, Range}
use Rattle.check_lines.specs.State.{Spot, Fork, fork_on, fork_after, bars, goes_on, may_branch, may_see, may_take, is_own_step}
use Rattle.check_lines.specs.Awaited.{Awaited, node_awaited, prune_awaited, body_awaited, part_awaited, case_awaited, ranged_awaited, none_awaited, one_more}

-- what is open: a scope's own tree that waits for the node after one of its tuples, with what was seen in it so far, the
-- values before it, and the horizon in force there; or a branch
pub data Entry : Type 0 where
  next_entry : List Seen → List ℤ → Option ℕ → Entry
  branch_entry : Fork → Entry

pub record Ledger : Type 0 where
  pub box : Box
  pub entries : List Entry
  pub awaited : Awaited
  -- the scope that is read and the horizon in force
  pub number : ℕ
  pub horizon : Option ℕ
  -- what was seen in the scope's own tree so far, and the values before the scope; after a whole node its verdict, and the
  -- value of its scope's own condition
  pub seen : List Seen
  pub before : List ℤ
  pub verdict : Verdict
  pub own : Option ℤ
  pub turns : ℕ
  pub has_open : Bool

-- where a node of scope i stands under the horizon h
abbrev pub place_at : Game → ℕ → Option ℕ → Spot
place_at g i h = record { later = drop i g.scopes; number = i; demands = demands g i; horizon = h }

abbrev pub only_ledger : Bool → Ledger → Option Ledger
only_ledger b d = cond b (Some d) None

-- the root has come to a verdict, with this value of its scope's own condition
abbrev pub ends_with : Ledger → ℕ → Option ℕ → Verdict → Option ℤ → Ledger
ends_with d i h v own = record d { entries = []; number = i; horizon = h; verdict = v; own = own; awaited = none_awaited }

-- a part of scope i's own tree has ended, with these seen: goes on at the last branch, or the scope has come to its verdict
abbrev pub part_closed : Game → Ledger → List Entry → ℕ → Option ℕ → List Seen → List ℤ → Ledger
part_closed g d [] i h xs a = ends_with d i h (verdict_at g i a xs) (own_at g i xs)
part_closed g d (branch_entry b ∷ fs) i h xs a = record d { box = b.box; entries = branch_entry b ∷ fs; number = i; horizon = h; seen = xs; before = a; awaited = case_awaited }
part_closed g d (next_entry up above z ∷ fs) i h xs a = part_closed g d fs (i - 1) z (up ++ seen_node (verdict_at g i a xs) ∷ []) above

-- a node of scope i has come to a verdict without an own tree
abbrev pub node_closed : Game → Ledger → List Entry → ℕ → Option ℕ → Verdict → Ledger
node_closed g d [] i h v = ends_with d i h v None
node_closed g d (branch_entry b ∷ fs) i h v = ends_with d i h v None
node_closed g d (next_entry up above z ∷ fs) i h v = part_closed g d fs (i - 1) z (up ++ seen_node v ∷ []) above

abbrev pub part_close : Game → Ledger → List Seen → Ledger
part_close g d xs = part_closed g d d.entries d.number d.horizon (d.seen ++ xs) d.before

abbrev pub node_close : Game → Ledger → Verdict → Ledger
node_close g d v = node_closed g d d.entries d.number d.horizon v

abbrev pub spot_on : Game → Ledger → Spot
spot_on g d = place_at g d.number d.horizon

abbrev pub space_left : Ledger → Bool
space_left d = nat_lt (length d.entries) 1000

abbrev pub no_scope_left : Game → Ledger → Bool
no_scope_left g d = nat_le (length g.scopes) d.number

abbrev pub sees_horizon : Ledger → Bool
sees_horizon d = is_horizon d.horizon d.number

-- the marks of a step
abbrev pub marks_of : Game → Spot → Step → Box → List Seen
marks_of g s step box = map seen_bound (step_marks (tracked_variable g s.later s.number (list_after g s.later s.demands)) (step ∷ []) box)

abbrev pub own_step : Game → Ledger → Step → Option Ledger
own_step g d step =
    only_ledger (is_own_step g (spot_on g d) step d.box)
    (record d { box = after_step step d.box; seen = d.seen ++ marks_of g (spot_on g d) step d.box; awaited = part_awaited })

abbrev pub ledger_end : Game → Ledger → Line → Option Ledger
ledger_end g d (Prune x low high c) = own_step g d (PruneStep x low high c)
ledger_end g d (Bound x low high) = own_step g d (BoundStep x low high)
ledger_end g d Empty = only_ledger (has_empty d.box) (part_close g d [])
ledger_end g d Barred = only_ledger (bars g d.number d.box) (part_close g d (seen_barred ∷ []))
ledger_end g d Next =
    only_ledger (goes_on g d.number d.box && space_left d)
    (record d { entries = next_entry d.seen d.before d.horizon ∷ d.entries; number = d.number + 1; awaited = node_awaited })
ledger_end g d (Branch x) =
    only_ledger (may_branch g d.number x.0 d.box && space_left d)
    (record d { entries = branch_entry (fork_on x.0 d.box) ∷ d.entries; awaited = case_awaited })
ledger_end g d l = None

abbrev pub may_begin : Game → Ledger → Bool
may_begin g d = not (sees_horizon d) && not (no_scope_left g d)

abbrev pub begun : Game → Ledger → Ledger
begun g d = record d { seen = []; before = position g d.number d.box }

abbrev pub begins : Game → Ledger → Line → Option Ledger
begins g d l = cond (may_begin g d) (ledger_end g (begun g d) l) None

abbrev pub ledger_body : Game → Ledger → Line → Option Ledger
ledger_body g d Stuck = only_ledger (sees_horizon d) (node_close g d (stuck_of (drop d.number g.scopes) g (demands g d.number) (position g d.number d.box)))
ledger_body g d Goal =
    only_ledger (not (sees_horizon d) && no_scope_left g d)
    (node_close g d (goal_verdict g (allows g d.number (position g d.number d.box)) (demands g d.number) (position g d.number d.box)))
ledger_body g d l = begins g d l

abbrev pub ledger_node : Game → Ledger → Line → Option Ledger
ledger_node g d (Horizon zero) = None
ledger_node g d (Horizon (suc k)) = only_ledger (may_see k (spot_on g d)) (record d { awaited = prune_awaited k d.box })
ledger_node g d l = ledger_body g d l

abbrev pub seen_step : Game → Ledger → ℕ → Box → Step → Option Ledger
seen_step g d k box step = only_ledger (is_legal g d.number (suc k) None step d.box) (record d { box = after_step step d.box; awaited = prune_awaited k box })

abbrev pub ledger_prune : Game → Ledger → ℕ → Box → Line → Option Ledger
ledger_prune g d k box (Prune x low high c) = seen_step g d k box (PruneStep x low high c)
ledger_prune g d k box (Bound x low high) = seen_step g d k box (BoundStep x low high)
ledger_prune g d k box Dot = only_ledger (has_empty d.box) (record d { box = box; horizon = Some k; awaited = body_awaited })
ledger_prune g d k box l = None

abbrev pub passed_over : Ledger → Fork → List Entry → Option ℤ → Bool → Ledger
passed_over d b fs upto is_open =
    record d { entries = branch_entry (fork_after upto b) ∷ fs; awaited = case_awaited; seen = d.seen ++ seen_skipped ∷ []; has_open = d.has_open || is_open }

abbrev pub gone_into : Ledger → Fork → List Entry → Option ℤ → Ledger
gone_into d b fs upto = record d { box = box_to b.box b.variable (covered upto b.left); entries = branch_entry (fork_after upto b) ∷ fs; turns = one_more d.turns }

abbrev pub ledger_case : Game → Ledger → Fork → List Entry → Option ℤ → Line → Option Ledger
ledger_case g d b fs upto Skip = only_ledger (is_cover upto b.left) (passed_over d b fs upto false)
ledger_case g d b fs upto Open = only_ledger (is_cover upto b.left) (passed_over d b fs upto true)
ledger_case g d b fs upto l = cond (may_take upto b) (ledger_end g (gone_into d b fs upto) l) None

abbrev pub ledger_fork : Game → Ledger → Fork → List Entry → Line → Option Ledger
ledger_fork g d b fs Dot = only_ledger (is_none_left b.left) (part_close g (record d { entries = fs }) [])
ledger_fork g d b fs (Range high) = Some (record d { awaited = ranged_awaited high })
ledger_fork g d b fs l = ledger_case g d b fs None l

abbrev pub at_entry : List Entry → (Fork → List Entry → Option Ledger) → Option Ledger
at_entry [] f = None
at_entry (next_entry xs a z ∷ fs) f = None
at_entry (branch_entry b ∷ fs) f = f b fs

abbrev pub goes_at : Game → Ledger → Awaited → Line → Option Ledger
goes_at g d node_awaited l = ledger_node g d l
goes_at g d (prune_awaited k box) l = ledger_prune g d k box l
goes_at g d body_awaited l = ledger_body g d l
goes_at g d part_awaited l = ledger_end g d l
goes_at g d case_awaited l = at_entry d.entries (λ b fs. ledger_fork g d b fs l)
goes_at g d (ranged_awaited high) l = at_entry d.entries (λ b fs. ledger_case g d b fs (Some high) l)
goes_at g d none_awaited l = None

abbrev pub goes : Game → Option Ledger → Line → Option Ledger
goes g None l = None
goes g (Some d) l = goes_at g d d.awaited l
