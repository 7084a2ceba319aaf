-- A tree read once, from top to bottom: whether its lines are in place, and what it comes to.
use Rattle.std.specs.Prelude.{ℕ, nat_lt, Bool, true, false, ◌&&◌, Option, Some, None, List, [], ◌∷◌, ◌++◌, length, map, set, slice_get, is_some, ℤ}
use Rattle.qc_model.specs.declared.problem.ScopeId.{ScopeId}
use Rattle.qc_model.specs.Content.{Game}
use Rattle.qc_model.specs.Domains.{Values, values_left, is_none_left}
use Rattle.qc_model.specs.Verdict.{Verdict, lost, unknown, Seen, seen_barred, seen_skipped, seen_bound, seen_node}
use Rattle.proof_tree.specs.Cover.{covered, uncovered, is_cover, box_to}
use Rattle.dense_tree.specs.Tree.{Node, node, again, no_play, Body, stuck, goal, cases, Ending, empty, barred, best_left, dead, next, chosen, branch, Branches, no_more, piece, Case, skip, left_open, go, Certificate}
use Rattle.dense_tree.specs.Place.{Setting, Place, root_place, is_free_choice, with_box, place_below}
use Rattle.dense_tree.specs.Alike.{are_alike}
use Rattle.dense_tree.specs.Steps.{StepsRead, read_steps}
use Rattle.dense_tree.specs.Verdicts.{loosened, goal_comes_to, stuck_comes_to, scope_comes_to, scope_own}
use Rattle.dense_tree.specs.InPlace.{horizon_placed, cases_placed, goal_placed, stuck_placed, no_play_placed, dead_placed, empty_placed, barred_placed, next_placed, place_taken, chosen_placed, branch_placed, list_best, best_placed}

-- a named node: where it stands, and what it came to once its last line is read
pub record Known : Type 0 where
  pub place : Place
  pub verdict : Option Verdict

-- of a node: whether its lines are in place, its verdict, the value of its scope's own condition, and the named nodes so far
pub record NodeRead : Type 0 where
  pub placed : Bool
  pub verdict : Verdict
  pub own : Option ℤ
  pub known : List Known

-- of a part of a scope's own tree: its leaves and marks, and the best values that its leaves leave to what is demanded first
pub record PartRead : Type 0 where
  pub placed : Bool
  pub seen : List Seen
  pub bests : List ℤ
  pub known : List Known

abbrev pub comes_to : Bool → Verdict → List Known → NodeRead
comes_to placed v ks = record { placed = placed; verdict = v; own = None; known = ks }

abbrev pub leaves : Bool → List Seen → List Known → PartRead
leaves placed seen ks = record { placed = placed; seen = seen; bests = []; known = ks }

-- a node below, with other leaves beside it
abbrev pub leaf_of : Bool → List Seen → NodeRead → PartRead
leaf_of placed others r = record { placed = placed && r.placed; seen = seen_node r.verdict ∷ others; bests = []; known = r.known }

abbrev pub placed_part : Bool → PartRead → PartRead
placed_part placed r = record { placed = placed && r.placed; seen = r.seen; bests = r.bests; known = r.known }

-- what comes after steps
abbrev pub after_steps : StepsRead → PartRead → PartRead
after_steps w r = record { placed = w.placed && r.placed; seen = map seen_bound w.marks ++ r.seen; bests = r.bests; known = r.known }

-- a part, and then another, which knows what it leaves
abbrev pub both_parts : PartRead → PartRead → PartRead
both_parts r q = record { placed = r.placed && q.placed; seen = r.seen ++ q.seen; bests = r.bests ++ q.bests; known = q.known }

abbrev pub and_then : PartRead → (List Known → PartRead) → PartRead
and_then r rest = both_parts r (rest r.known)

-- a scope's node, from its own tree
abbrev pub scope_read : Setting → Place → PartRead → NodeRead
scope_read s p r = record {
  placed = cases_placed p && r.placed;
  verdict = loosened s p (scope_comes_to s p p.later r.seen r.bests);
  own = scope_own s p p.later r.seen;
  known = r.known;
}

-- the horizon that begins at a node is in force below
abbrev pub with_horizon : Option ScopeId → Place → Place
with_horizon None p = p
with_horizon (Some k) p = record p { horizon = Some k.0 }

-- a named node is entered where it begins, and its verdict where it ends
abbrev pub entered : Bool → Place → List Known → List Known
entered false p ks = ks
entered true p ks = ks ++ record { place = p; verdict = None } ∷ []

abbrev pub settled : Bool → ℕ → Known → List Known → List Known
settled false n k ks = ks
settled true n k ks = set ks n k

abbrev pub named_read : Bool → Bool → Place → ℕ → NodeRead → NodeRead
named_read placed named p n r = record {
  placed = placed && r.placed;
  verdict = r.verdict;
  own = r.own;
  known = settled named n (record { place = p; verdict = Some r.verdict }) r.known;
}

-- what a named node came to, said at a place that is alike
abbrev pub or_unknown : Option Verdict → Verdict
or_unknown None = unknown
or_unknown (Some v) = v

abbrev pub told_by : Setting → Place → List Known → Option Known → NodeRead
told_by s p ks None = comes_to false unknown ks
told_by s p ks (Some k) = comes_to (is_some k.verdict && are_alike s.game p k.place) (loosened s p (or_unknown k.verdict)) ks

-- the leaves of a part where nothing is left: none, but a lost one where the opponent may take any tuple
abbrev pub empty_leaves : Bool → List Seen
empty_leaves false = []
empty_leaves true = seen_node lost ∷ []

-- a case of the values vs, not of all that are left
abbrev pub is_narrower : Values → Values → Bool
is_narrower vs left = nat_lt (length vs) (length left)

abbrev mutual
  pub read_node : Setting → Node → Place → List Known → NodeRead
  read_node s (node named h body) p ks =
      named_read (horizon_placed s h p) named p (length ks) (read_body s body (with_horizon h p) (entered named p ks))
  read_node s (again n) p ks = told_by s p ks (slice_get ks n)
  read_node s (no_play k) p ks = comes_to (no_play_placed s p k) lost ks

  pub read_body : Setting → Body → Place → List Known → NodeRead
  read_body s stuck p ks = comes_to (stuck_placed p) (loosened s p (stuck_comes_to s p p.later)) ks
  read_body s goal p ks = comes_to (goal_placed p) (loosened s p (goal_comes_to s p)) ks
  read_body s (cases steps end) p ks = scope_read s p (after_steps (read_steps s steps p) (read_ending s end (read_steps s steps p).place ks))

  pub read_ending : Setting → Ending → Place → List Known → PartRead
  read_ending s empty p ks = leaves (empty_placed s p) (empty_leaves (is_free_choice s p)) ks
  read_ending s barred p ks = leaves (barred_placed s p) (seen_barred ∷ []) ks
  read_ending s best_left p ks = record { placed = best_placed p; seen = []; bests = list_best p.list p.box; known = ks }
  read_ending s (dead k) p ks = leaves (dead_placed s p k) (seen_node lost ∷ []) ks
  read_ending s (next t) p ks = leaf_of (next_placed s p) [] (read_node s t (place_below s p) ks)
  read_ending s (chosen vs t) p ks = leaf_of (chosen_placed s vs p) (seen_skipped ∷ []) (read_node s t (place_below s (place_taken s vs p)) ks)
  read_ending s (branch x bs) p ks = placed_part (branch_placed s p x.0) (read_branches s bs x.0 (values_left p.box x.0) p ks)

  -- vs are the values of x that no earlier case covers
  pub read_branches : Setting → Branches → ℕ → Values → Place → List Known → PartRead
  read_branches s no_more x vs p ks = leaves (is_none_left vs) [] ks
  read_branches s (piece upto c bs) x vs p ks =
      placed_part (is_cover upto vs)
      (and_then (read_case s c x (covered upto vs) p ks) (λ known. read_branches s bs x (uncovered upto vs) p known))

  pub read_case : Setting → Case → ℕ → Values → Place → List Known → PartRead
  read_case s skip x vs p ks = leaves true (seen_skipped ∷ []) ks
  read_case s left_open x vs p ks = leaves true (seen_skipped ∷ []) ks
  read_case s (go steps end) x vs p ks =
      let w = read_steps s steps (with_box (box_to p.box x vs) p) in
      placed_part (is_narrower vs (values_left p.box x)) (after_steps w (read_ending s end w.place ks))

abbrev pub read_root : Game → Certificate → NodeRead
read_root g c = read_node (record { game = g; given = c.given }) c.root (root_place g) []
