-- What is known after some lines of a dense certificate, and what a line makes of it. A line that may not stand there leaves nothing.
use Rattle.std.specs.Prelude.{ℕ, ◌+◌, Bool, true, false, ◌&&◌, ◌||◌, cond, Option, Some, None, List, [], ◌∷◌, ◌++◌, length, map, set, slice_get, is_some, ℤ}
use Rattle.qc_model.specs.declared.problem.ScopeId.{ScopeId}
use Rattle.qc_model.specs.Content.{Game}
use Rattle.qc_model.specs.Domains.{Values, values_left, is_none_left}
use Rattle.qc_model.specs.Verdict.{Verdict, lost, Seen, seen_barred, seen_skipped, seen_bound, seen_node}
use Rattle.proof_tree.specs.Cover.{covered, uncovered, is_cover, box_to}
use Rattle.dense_tree.specs.Tree.{close, bound, reply, Given}
use Rattle.dense_tree.specs.Lines.{Line, given_line, named_line, horizon_line, stuck_line, goal_line, again_line, no_play_line, close_line, bound_line, reply_line, empty_line, barred_line, best_line, next_line, chosen_line, branch_line, range_line, skip_line, open_line, dot_line}
use Rattle.dense_tree.specs.Place.{Setting, Place, root_place, is_free_choice, with_box, place_below}
use Rattle.dense_tree.specs.Alike.{are_alike}
use Rattle.dense_tree.specs.Steps.{StepsRead, read_step}
use Rattle.dense_tree.specs.Verdicts.{loosened, goal_comes_to, stuck_comes_to, scope_comes_to, scope_own}
use Rattle.dense_tree.specs.InPlace.{horizon_placed, cases_placed, goal_placed, stuck_placed, no_play_placed, dead_placed, empty_placed, barred_placed, next_placed, place_taken, chosen_placed, branch_placed, list_best, best_placed}
use Rattle.dense_tree.specs.Read.{Known, or_unknown, empty_leaves, is_narrower}
use Rattle.dense_tree.specs.Proves.{given_placed, are_in_order}

-- a node: where it begins, where its lines are read below its own horizon, its number among the named ones, and whether one tuple led
-- to it while the scope's others were skipped
pub record Entry : Type 0 where
  pub begin : Place
  pub place : Place
  pub named : Option ℕ
  pub chosen : Bool

-- a scope's own tree so far: its node, the leaves and marks, and the best values that leaves leave
pub record Own : Type 0 where
  pub entry : Entry
  pub seen : List Seen
  pub bests : List ℤ

-- a branch so far: where it stands, its variable, and the values that no case covers yet
pub record Fork : Type 0 where
  pub place : Place
  pub variable : ℕ
  pub left : Values

-- what is open around what is read: the scope before, which waits for its node below, or a branch
pub data Frame : Type 0 where
  waiting : Own → Frame
  forked : Fork → Frame

-- what the next line may be
pub data Due : Type 0 where
  -- a given tuple, or the root
  given_due : Due
  -- a node; one after `m`; and one after its horizon
  node_due : Entry → Due
  named_due : Entry → Due
  body_due : Entry → Due
  -- a step or an end of a scope's own tree, at this place
  part_due : Place → Due
  -- a case of the branch that was opened last, or the dot after them; and a case with this upper value
  case_due : Due
  ranged_due : ℤ → Due
  -- none: the root has come to this, with this value of its scope's own condition
  ended_due : Verdict → Option ℤ → Due

pub record Ledger : Type 0 where
  pub given : List Given
  pub due : Due
  -- of the scope that is read; nothing is meant by it at a node that is due
  pub own : Own
  pub frames : List Frame
  pub known : List Known
  pub turns : ℕ
  pub has_open : Bool

abbrev pub setting_of : Game → Ledger → Setting
setting_of g d = record { game = g; given = d.given }

abbrev pub only_ledger : Bool → Ledger → Option Ledger
only_ledger b d = cond b (Some d) None

abbrev pub with_seen : List Seen → Own → Own
with_seen xs o = record o { seen = o.seen ++ xs }

abbrev pub fresh : Entry → Own
fresh e = record { entry = e; seen = []; bests = [] }

-- a node at p, entered so
abbrev pub entry_at : Place → Bool → Entry
entry_at p chosen = record { begin = p; place = p; named = None; chosen = chosen }

-- no scope is read: before the root, and after it
abbrev pub no_own : Game → Own
no_own g = fresh (entry_at (root_place g) false)

-- the leaf that a node is to the scope before it
abbrev pub leaf_seen : Bool → Verdict → List Seen
leaf_seen false v = seen_node v ∷ []
leaf_seen true v = seen_node v ∷ seen_skipped ∷ []

-- what a named node has come to is known
abbrev pub known_settled : Entry → Verdict → List Known → List Known
known_settled e v ks = of_name e.named
  where
    of_name : Option ℕ → List Known
    of_name None = ks
    of_name (Some n) = set ks n (record { place = e.begin; verdict = Some v })

-- what a scope comes to
abbrev pub own_verdict : Setting → Own → Verdict
own_verdict s o = loosened s o.entry.place (scope_comes_to s o.entry.place o.entry.place.later o.seen o.bests)

abbrev pub own_value : Setting → Own → Option ℤ
own_value s o = scope_own s o.entry.place o.entry.place.later o.seen

-- a part of a scope's own tree has ended: the innermost branch goes on with its next case; or the scope has come to its verdict, and
-- with it its node
abbrev pub part_ended : Setting → Ledger → Own → List Frame → Ledger
part_ended s d o [] =
    record d { own = no_own s.game; frames = []; known = known_settled o.entry (own_verdict s o) d.known; due = ended_due (own_verdict s o) (own_value s o) }
part_ended s d o (forked b ∷ fs) = record d { own = o; frames = forked b ∷ fs; due = case_due }
part_ended s d o (waiting up ∷ fs) =
    part_ended s (record d { known = known_settled o.entry (own_verdict s o) d.known }) (with_seen (leaf_seen o.entry.chosen (own_verdict s o)) up) fs

-- a node without an own tree has ended
abbrev pub node_ended : Setting → Ledger → Entry → Verdict → List Frame → Ledger
node_ended s d e v [] = record d { own = no_own s.game; frames = []; known = known_settled e v d.known; due = ended_due v None }
node_ended s d e v (forked b ∷ fs) = record d { own = no_own s.game; frames = forked b ∷ fs; known = known_settled e v d.known; due = ended_due v None }
node_ended s d e v (waiting up ∷ fs) = part_ended s (record d { known = known_settled e v d.known }) (with_seen (leaf_seen e.chosen v) up) fs

-- a step, as it is read
abbrev pub stepped : Ledger → StepsRead → Option Ledger
stepped d w = only_ledger w.placed (record d { due = part_due w.place; own = with_seen (map seen_bound w.marks) d.own })

-- an end: what it shows to its scope
abbrev pub shown_end : Setting → Ledger → Bool → List Seen → Option Ledger
shown_end s d placed xs = only_ledger placed (part_ended s d (with_seen xs d.own) d.frames)

-- on to the node below
abbrev pub below : Setting → Ledger → Bool → Place → Bool → Option Ledger
below s d placed p chosen =
    only_ledger placed (record d { due = node_due (entry_at (place_below s p) chosen); frames = waiting d.own ∷ d.frames })

-- a line in a scope's own tree, at q
abbrev pub part_line : Setting → Ledger → Place → Line → Option Ledger
part_line s d q close_line = stepped d (read_step s close q)
part_line s d q (bound_line x low high) = stepped d (read_step s (bound x low high) q)
part_line s d q (reply_line t) = stepped d (read_step s (reply t) q)
part_line s d q empty_line = shown_end s d (empty_placed s q) (empty_leaves (is_free_choice s q))
part_line s d q barred_line = shown_end s d (barred_placed s q) (seen_barred ∷ [])
part_line s d q best_line =
    only_ledger (best_placed q) (part_ended s d (record (d.own) { bests = d.own.bests ++ list_best q.list q.box }) d.frames)
part_line s d q (no_play_line k) = shown_end s d (dead_placed s q k) (seen_node lost ∷ [])
part_line s d q next_line = below s d (next_placed s q) q false
part_line s d q (chosen_line t) = below s d (chosen_placed s t q) (place_taken s t q) true
part_line s d q (branch_line x) =
    only_ledger (branch_placed s q x.0)
    (record d { due = case_due; frames = forked (record { place = q; variable = x.0; left = values_left q.box x.0 }) ∷ d.frames })
part_line s d q l = None

-- a scope's own tree begins
abbrev pub begun : Ledger → Entry → Ledger
begun d e = record d { due = part_due e.place; own = fresh e }

-- a node's first line behind what names it and its horizon: t, g, or the first line of the scope's own tree, which isn't l
abbrev pub tree_line : Setting → Ledger → Entry → Line → Option Ledger
tree_line s d e (no_play_line k) = None
tree_line s d e l = cond (cases_placed e.place) (part_line s (begun d e) e.place l) None

abbrev pub body_line : Setting → Ledger → Entry → Line → Option Ledger
body_line s d e stuck_line =
    only_ledger (stuck_placed e.place) (node_ended s d e (loosened s e.place (stuck_comes_to s e.place e.place.later)) d.frames)
body_line s d e goal_line = only_ledger (goal_placed e.place) (node_ended s d e (loosened s e.place (goal_comes_to s e.place)) d.frames)
body_line s d e l = tree_line s d e l

-- below its horizon
abbrev pub with_horizon_at : ScopeId → Entry → Entry
with_horizon_at k e = record e { place = record (e.place) { horizon = Some k.0 } }

abbrev pub horizoned : Setting → Ledger → Entry → Line → Option Ledger
horizoned s d e (horizon_line k) = only_ledger (horizon_placed s (Some k) e.place) (record d { due = body_due (with_horizon_at k e) })
horizoned s d e l = body_line s d e l

-- a node that is told again
abbrev pub told_again : Setting → Ledger → Entry → Option Known → Option Ledger
told_again s d e None = None
told_again s d e (Some k) =
    only_ledger (is_some k.verdict && are_alike s.game e.place k.place) (node_ended s d e (loosened s e.place (or_unknown k.verdict)) d.frames)

abbrev pub node_line : Setting → Ledger → Entry → Line → Option Ledger
node_line s d e named_line =
    Some (record d { due = named_due (record e { named = Some (length d.known) }); known = d.known ++ record { place = e.begin; verdict = None } ∷ [] })
node_line s d e (again_line n) = told_again s d e (slice_get d.known n)
node_line s d e (no_play_line k) = only_ledger (no_play_placed s e.place k) (node_ended s d e lost d.frames)
node_line s d e l = horizoned s d e l

-- the values up to a number, or all that are left, are covered
abbrev pub fork_after : Option ℤ → Fork → Fork
fork_after upto b = record b { left = uncovered upto b.left }

-- a case that is passed over
abbrev pub passed : Ledger → Fork → List Frame → Option ℤ → Bool → Option Ledger
passed d b fs upto is_open =
    only_ledger (is_cover upto b.left)
    (record d { due = case_due; own = with_seen (seen_skipped ∷ []) d.own; frames = forked (fork_after upto b) ∷ fs; has_open = d.has_open || is_open })

-- where a case stands
abbrev pub case_place : Fork → Option ℤ → Place
case_place b upto = with_box (box_to b.place.box b.variable (covered upto b.left)) b.place

-- a case that is gone into
abbrev pub gone_into : Ledger → Fork → List Frame → Option ℤ → Ledger
gone_into d b fs upto = record d { due = part_due (case_place b upto); frames = forked (fork_after upto b) ∷ fs; turns = d.turns + 1 }

abbrev pub may_go : Fork → Option ℤ → Bool
may_go b upto = is_cover upto b.left && is_narrower (covered upto b.left) (values_left b.place.box b.variable)

abbrev pub case_line : Setting → Ledger → Fork → List Frame → Option ℤ → Line → Option Ledger
case_line s d b fs upto skip_line = passed d b fs upto false
case_line s d b fs upto open_line = passed d b fs upto true
case_line s d b fs upto l = cond (may_go b upto) (part_line s (gone_into d b fs upto) (case_place b upto) l) None

abbrev pub fork_line : Setting → Ledger → Fork → List Frame → Line → Option Ledger
fork_line s d b fs dot_line = only_ledger (is_none_left b.left) (part_ended s d d.own fs)
fork_line s d b fs (range_line high) = Some (record d { due = ranged_due high })
fork_line s d b fs l = case_line s d b fs None l

abbrev pub at_fork : List Frame → (Fork → List Frame → Option Ledger) → Option Ledger
at_fork [] f = None
at_fork (waiting o ∷ fs) f = None
at_fork (forked b ∷ fs) f = f b fs

-- a tuple that is given, after those before it
abbrev pub given_after : Game → Ledger → Given → Option Ledger
given_after g d u = only_ledger (given_placed g u && are_in_order (d.given ++ u ∷ [])) (record d { given = d.given ++ u ∷ [] })

abbrev pub first_line : Game → Ledger → Line → Option Ledger
first_line g d (given_line k t) = given_after g d (record { scope = k; tuple = t })
first_line g d l = node_line (setting_of g d) d (entry_at (root_place g) false) l

abbrev pub goes_at : Game → Ledger → Due → Line → Option Ledger
goes_at g d given_due l = first_line g d l
goes_at g d (node_due e) l = node_line (setting_of g d) d e l
goes_at g d (named_due e) l = horizoned (setting_of g d) d e l
goes_at g d (body_due e) l = body_line (setting_of g d) d e l
goes_at g d (part_due q) l = part_line (setting_of g d) d q l
goes_at g d case_due l = at_fork d.frames (λ b fs. fork_line (setting_of g d) d b fs l)
goes_at g d (ranged_due high) l = at_fork d.frames (λ b fs. case_line (setting_of g d) d b fs (Some high) l)
goes_at g d (ended_due v own) l = None

abbrev pub goes : Game → Option Ledger → Line → Option Ledger
goes g None l = None
goes g (Some d) l = goes_at g d d.due l

abbrev pub goes_through : Game → Option Ledger → List Line → Option Ledger
goes_through g p [] = p
goes_through g p (l ∷ ls) = goes_through g (goes g p l) ls

-- before the first line
abbrev pub first_ledger : Game → Ledger
first_ledger g = record {
  given = [];
  due = given_due;
  own = no_own g;
  frames = [];
  known = [];
  turns = 0;
  has_open = false;
}
