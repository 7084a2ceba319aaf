-- How long vectors of a tree's nodes are, and how large their numbers: as large as the tree's ends make them, where it stands in
-- place.
use Rattle.std.proofs.Common.{◌≡◌, ◌≤◌, ◌<◌, ◌+◌, ◌∙◌, ℕ, suc, true, false, List, [], ◌∷◌, ◌++◌, length, map, take, drop, refl, sym, ap, subst, arith, ℤ, Some, None, Option, length-set}
use Rattle.std.specs.List.{list_all}
use Rattle.std.proofs.lemmas.Bool.{and_from}
use Rattle.qc_model.specs.Content.{Game}
use Rattle.qc_model.specs.Demands.{demands}
use Rattle.qc_model.specs.Domains.{Values, Box, values_left, values_outside, is_none_left}
use Rattle.qc_model.specs.Game.{allows}
use Rattle.qc_model.specs.Valid.{IsValid, is_number, is_domain}
use Rattle.qc_model.specs.Verdict.{Verdict, lost, exact, at_most, unknown, Seen, seen_barred, seen_skipped, seen_bound, seen_node}
use Rattle.qc_model.specs.ExistsVerdict.{some_open}
use Rattle.model_arguments.specs.Asked.{is_box_of}
use Rattle.model_arguments.proofs.Boxes.{left_small, some_left}
use Rattle.joins.specs.Joins.{IsLong}
use Rattle.joins.specs.Sizes.{AreLong, IsSized, AreNumbers, marks_at, nodes_at}
use Rattle.joins.specs.Ends.{HasEnds, IsOfEnds, HasPart, tells_nothing}
use Rattle.joins.proofs.Lengths.{long_join, verdict_long, stuck_long, goal_long}
use Rattle.joins.proofs.Sizing.{stuck_sized, goal_sized}
use Rattle.joins.proofs.Ends.{ends_none, ends_join, ends_node, open_join, verdict_of_ends}
use Rattle.proof_tree.specs.declared.tree.Step.{Step}
use Rattle.proof_tree.specs.declared.tree.Step.TheVariants.{Prune, Bound}
use Rattle.proof_tree.specs.Counts.{ends_of, ending_ends, branch_ends, case_ends}
use Rattle.proof_tree.specs.Cover.{cover, covered, uncovered, box_to}
use Rattle.proof_tree.specs.Finding.{Finding, Leaf, leaf_barred, leaf_skipped, leaf_node, leaf_bound, seen_of, scope_finding}
use Rattle.proof_tree.specs.Place.{Tracked, position, next_scopes, list_after}
use Rattle.proof_tree.specs.Read.{read, marks}
use Rattle.proof_tree.specs.Steps.{after_step, after_steps, step_marks}
use Rattle.proof_tree.specs.Tree.{Tree, tree, stuck, goal, cases, Ending, empty, barred, next, branch, Branches, no_more, piece, Case, skip, left_open, go}
use Rattle.check_lines.specs.EndSizes.{IsWide}
use Rattle.check_lines.specs.LedgerSizes.{HasNumbers}
use Rattle.check_lines.specs.Tracking.{tracked_at}
use Rattle.check_lines.proofs.Facts.{next_drop}
use Rattle.check_lines.proofs.Leaves.{seen-append}
use Rattle.check_lines.proofs.LedgerClosing.{scope_is}
use Rattle.check_lines.proofs.LedgerTurns.{map_both, stuck_comes}
use Rattle.check_lines.proofs.LedgerSizes.{all_set, left_numbers, position_numbers, one_mark, step_numbers}
use Rattle.box_laws.proofs.Filters.{all_drop, all_take}
use Rattle.box_laws.proofs.Readings.{box_size}
use Rattle.qc_play.specs.Walk.{node_finding, end_leaves, part_leaves, pieces_leaves, taken_leaves, CanReadNode, CanReadEnd, CanReadBranches, CanReadCase}
use Rattle.qc_play.proofs.Readable.{list_next, own_scope, own_part, part_end, next_node, branch_full, branch_variable, branch_cases, first_case, later_cases}

-- leaves of scope i are long, and come from n ends
pub record LeavesFit (g : Game) (i n : ℕ) (ls : List Leaf) : Type 0 where
  pub long : AreLong g i (map seen_of ls)
  pub ends : HasEnds n (map seen_of ls)

-- and some part of the scope's own tree has ended with them
pub record PartFits (g : Game) (i n : ℕ) (ls : List Leaf) : Type 0 where
  pub leaves : LeavesFit g i n ls
  pub ended : HasPart n (map seen_of ls)

-- or these are no values
pub record PiecesFit (g : Game) (i n : ℕ) (vs : Values) (ls : List Leaf) : Type 0 where
  pub leaves : LeavesFit g i n ls
  pub ended : is_none_left vs ≡ false → HasPart n (map seen_of ls)

pub record NodeFits (g : Game) (i n : ℕ) (v : Verdict) : Type 0 where
  pub long : IsLong g i v
  pub ends : IsOfEnds n v

-- a box has a domain for each variable, of numbers alone
pub record HasDomains (g : Game) (box : Box) : Type 0 where
  pub wide : IsWide g box
  pub numbers : HasNumbers box

-- the node after a tuple, in the words of its own scope
pub node_next : (g : Game) (t : Tree) (i : ℕ) (box : Box) → i < length g.scopes →
    read g t (next_scopes (drop i g.scopes)) (suc i) (list_after g (drop i g.scopes) (demands g i)) box ≡ node_finding g t (suc i) box
node_next g t i box h =
    ap (λ ss. read g t ss (suc i) (list_after g (drop i g.scopes) (demands g i)) box) (next_drop g.scopes i)
    ∙ ap (λ d. read g t (drop (suc i) g.scopes) (suc i) d box) (list_next g i h)

-- ---- boxes
box_numbers : (g : Game) (box : Box) → list_all (λ x. is_domain x.domain) g.variables ≡ true → is_box_of g box ≡ true → HasNumbers box
box_numbers g box valid d = go box (λ y. left_small g box y valid d)
  where
    go : (box : Box) → ((y : ℕ) → list_all is_number (values_left box y) ≡ true) → HasNumbers box
    go [] f = refl
    go (vs ∷ box) f = and_from (list_all is_number vs) (list_all (list_all is_number) box) (f 0) (go box (λ y. f (suc y)))

-- those of a problem
pub box_domains : (g : Game) (box : Box) → list_all (λ x. is_domain x.domain) g.variables ≡ true → is_box_of g box ≡ true → HasDomains g box
box_domains g box valid d = record { wide = box_size g box d; numbers = box_numbers g box valid d }

step_domains : (g : Game) (s : Step) (box : Box) → HasDomains g box → HasDomains g (after_step s box)
step_domains g s box h = record { wide = wide s; numbers = step_numbers s box h.numbers }
  where
    wide : (s : Step) → IsWide g (after_step s box)
    wide (Prune x lo hi c) = length-set box x.0 (values_outside lo hi (values_left box x.0)) ∙ h.wide
    wide (Bound x lo hi) = length-set box x.0 (values_outside lo hi (values_left box x.0)) ∙ h.wide

steps_domains : (g : Game) (steps : List Step) (box : Box) → HasDomains g box → HasDomains g (after_steps steps box)
steps_domains g [] box h = h
steps_domains g (s ∷ steps) box h = steps_domains g steps (after_step s box) (step_domains g s box h)

case_domains : (g : Game) (box : Box) (x n : ℕ) (vs : Values) → HasDomains g box → AreNumbers vs → HasDomains g (box_to box x (take n vs))
case_domains g box x n vs h k = record { wide = length-set box x (take n vs) ∙ h.wide; numbers = all_set (list_all is_number) box x (take n vs) h.numbers (all_take is_number n vs k) }

-- ---- leaves
-- one after the other
pub leaves_both : (g : Game) (i m n : ℕ) (ks ls : List Leaf) → LeavesFit g i m ks → LeavesFit g i n ls → LeavesFit g i (m + n) (ks ++ ls)
leaves_both g i m n ks ls a b = record {
  long = subst (AreLong g i) (sym (seen-append ks ls)) (long_join (demands g (suc i)) (map seen_of ks) (map seen_of ls) a.long b.long);
  ends = subst (HasEnds (m + n)) (sym (seen-append ks ls)) (ends_join m n (map seen_of ks) (map seen_of ls) a.ends b.ends);
}

pub no_leaves : (g : Game) (i : ℕ) → LeavesFit g i 0 []
no_leaves g i = record { long = tt; ends = ends_none }

-- an empty box
pub empty_fits : (g : Game) (i : ℕ) → LeavesFit g i 1 []
empty_fits g i = record { long = tt; ends = record { nodes = λ k. omega arith; marks = omega arith; none = λ z. absurd (omega (arith, z)) } }

pub barred_fits : (g : Game) (i : ℕ) → LeavesFit g i 1 (leaf_barred ∷ [])
barred_fits g i = record { long = tt; ends = record { nodes = λ k. omega arith; marks = omega arith; none = λ z. absurd (omega (arith, z)) } }

pub skipped_fits : (g : Game) (i : ℕ) → LeavesFit g i 0 (leaf_skipped ∷ [])
skipped_fits g i = record { long = tt; ends = record { nodes = λ k. omega arith; marks = omega arith; none = λ z. refl } }

pub node_leaf : (g : Game) (i n : ℕ) (w : List ℤ) (f : Finding) → NodeFits g (suc i) n f.verdict → LeavesFit g i n (leaf_node w f ∷ [])
node_leaf g i n w f h = record { long = (h.long, tt); ends = ends_node n f.verdict h.ends }

-- an end ends a part
with_end : (g : Game) (i : ℕ) (ls : List Leaf) → LeavesFit g i 1 ls → PartFits g i 1 ls
with_end g i ls h = record { leaves = h; ended = λ none. absurd (omega (arith, none)) }

-- so does a node, of which something is known only by an end
with_node : (g : Game) (i n : ℕ) (w : List ℤ) (f : Finding) → NodeFits g (suc i) n f.verdict → PartFits g i n (leaf_node w f ∷ [])
with_node g i n w f h = record { leaves = node_leaf g i n w f h; ended = λ none. subst (λ v. some_open (seen_node v ∷ []) ≡ true) (sym (h.ends.none none)) refl }

-- ---- marks
no_nodes : (k : ℕ) (ms : List ℤ) → nodes_at k (map seen_bound ms) ≡ 0
no_nodes k [] = refl
no_nodes k (m ∷ ms) = no_nodes k ms

no_tale : (ms : List ℤ) → tells_nothing (map seen_bound ms) ≡ true
no_tale [] = refl
no_tale (m ∷ ms) = no_tale ms

marks_end : (ms : List ℤ) → marks_at (map seen_bound ms) ≤ 1000000000 → HasEnds 0 (map seen_bound ms)
marks_end ms small = record { nodes = λ k. let z = no_nodes k ms in omega (arith, z); marks = small; none = λ z. no_tale ms }

one_fits : (g : Game) (i : ℕ) (s : Step) (box : Box) → HasNumbers box → LeavesFit g i 0 (marks g (drop i g.scopes) i (demands g i) (s ∷ []) box)
one_fits g i s box h =
    let ms = step_marks (tracked_at g i) (s ∷ []) box in
    let k = one_mark g i (tracked_at g i) s box h in
    record { long = subst (AreLong g i) (map_both ms) k.long; ends = subst (HasEnds 0) (map_both ms) (marks_end ms (omega (arith, k.sizes 0))) }

-- the marks of steps, one step after the other
marks_first : (t : Option Tracked) (s : Step) (steps : List Step) (box : Box) → map leaf_bound (step_marks t (s ∷ steps) box) ≡ map leaf_bound (step_marks t (s ∷ []) box) ++ map leaf_bound (step_marks t steps (after_step s box))
marks_first t (Prune x lo hi c) steps box = refl
marks_first None (Bound x lo hi) steps box = refl
marks_first (Some t) (Bound x lo hi) steps box = refl

pub marks_fit : (g : Game) (i : ℕ) (steps : List Step) (box : Box) → HasDomains g box → LeavesFit g i 0 (marks g (drop i g.scopes) i (demands g i) steps box)
marks_fit g i [] box h = no_leaves g i
marks_fit g i (s ∷ steps) box h =
    let one = marks g (drop i g.scopes) i (demands g i) (s ∷ []) box in
    let rest = marks g (drop i g.scopes) i (demands g i) steps (after_step s box) in
    subst (LeavesFit g i 0) (sym (marks_first (tracked_at g i) s steps box))
    (leaves_both g i 0 0 one rest (one_fits g i s box h.numbers) (marks_fit g i steps (after_step s box) (step_domains g s box h)))

-- removals, and what ends after them
part_both : (g : Game) (steps : List Step) (e : Ending) (i : ℕ) (box : Box) → HasDomains g box → PartFits g i (ending_ends e) (end_leaves g e i (after_steps steps box)) → PartFits g i (ending_ends e) (part_leaves g steps e i box)
part_both g steps e i box h k =
    let first = marks g (drop i g.scopes) i (demands g i) steps box in
    let last = end_leaves g e i (after_steps steps box) in
    let none : 0 + ending_ends e ≡ ending_ends e = omega arith in
    record {
      leaves = subst (λ n. LeavesFit g i n (first ++ last)) none (leaves_both g i 0 (ending_ends e) first last (marks_fit g i steps box h) k.leaves);
      ended = λ z. subst (λ xs. some_open xs ≡ true) (sym (seen-append first last)) (open_join (map seen_of first) (map seen_of last) (k.ended z));
    }

-- ---- a branch
open_before : (xs ys : List Seen) → some_open xs ≡ true → some_open (xs ++ ys) ≡ true
open_before [] ys o = cc
open_before (seen_barred ∷ xs) ys o = open_before xs ys o
open_before (seen_skipped ∷ xs) ys o = refl
open_before (seen_bound m ∷ xs) ys o = open_before xs ys o
open_before (seen_node lost ∷ xs) ys o = open_before xs ys o
open_before (seen_node (exact w) ∷ xs) ys o = open_before xs ys o
open_before (seen_node (at_most p) ∷ xs) ys o = open_before xs ys o
open_before (seen_node unknown ∷ xs) ys o = refl

-- a case, and the cases after it
cases_both : (g : Game) (i m n : ℕ) (vs us : Values) (ks ls : List Leaf) → PartFits g i m ks → PiecesFit g i n us ls → PiecesFit g i (m + n) vs (ks ++ ls)
cases_both g i m n vs us ks ls a b = record {
  leaves = leaves_both g i m n ks ls a.leaves b.leaves;
  ended = λ some none. subst (λ xs. some_open xs ≡ true) (sym (seen-append ks ls)) (open_before (map seen_of ks) (map seen_of ls) (a.ended (omega (arith, none))));
}

-- all values are covered, so some part has ended
all_ended : (g : Game) (i n : ℕ) (vs : Values) (ls : List Leaf) → is_none_left vs ≡ false → PiecesFit g i n vs ls → PartFits g i n ls
all_ended g i n vs ls some h = record { leaves = h.leaves; ended = h.ended some }

no_pieces : (g : Game) (i : ℕ) (vs : Values) → is_none_left vs ≡ true → PiecesFit g i 0 vs []
no_pieces g i vs all = record { leaves = no_leaves g i; ended = λ some. differ (sym all ∙ some) }
  where
    differ : {A : Type 0} → true ≡ false → A
    differ e = cc

module _ (g : Game) (valid : IsValid g) where
  -- a scope's verdict, by the leaves of its own tree
  scope_fits : (i n : ℕ) (a : List ℤ) (ls : List Leaf) → i < length g.scopes → AreNumbers a → PartFits g i n ls → NodeFits g i n (scope_finding (drop i g.scopes) g i (demands g i) a ls).verdict
  scope_fits i n a ls l k h =
      let e = scope_is (drop i g.scopes) g i (demands g i) a ls in
      record {
        long = subst (IsLong g i) e (verdict_long g i a (map seen_of ls) l h.leaves.long);
        ends = subst (IsOfEnds n) e (verdict_of_ends g i a (map seen_of ls) n valid k h.leaves.ends h.ended);
      }

  -- a node without an own tree is an end
  one_end : (v : Verdict) → IsSized 1 v → IsOfEnds 1 v
  one_end v sized = record { sized = sized; none = λ z. absurd (omega (arith, z)) }

  mutual
    pub tree_fits : (t : Tree) (i : ℕ) (box : Box) → HasDomains g box → CanReadNode g t i box → NodeFits g i (ends_of t) (node_finding g t i box).verdict
    tree_fits (tree z stuck) i box h can =
        let a = position g i box in
        let e = stuck_comes g (drop i g.scopes) (demands g i) a in
        record {
          long = subst (IsLong g i) e (stuck_long (drop i g.scopes) g (demands g i) a);
          ends = subst (IsOfEnds 1) e (one_end _ (stuck_sized (drop i g.scopes) g (demands g i) a valid (position_numbers g i box h.numbers)));
        }
    tree_fits (tree z goal) i box h can =
        let a = position g i box in
        record { long = goal_long g (allows g i a) (demands g i) a; ends = one_end _ (goal_sized g (allows g i a) (demands g i) a valid (position_numbers g i box h.numbers)) }
    tree_fits (tree z (cases steps e)) i box h can =
        let l = own_scope g z steps e i box can in
        let end = end_fits e i (after_steps steps box) l (steps_domains g steps box h) (part_end g steps e i box (own_part g z steps e i box can)) in
        scope_fits i (ending_ends e) (position g i box) (part_leaves g steps e i box) l (position_numbers g i box h.numbers) (part_both g steps e i box h end)

    end_fits : (e : Ending) (i : ℕ) (box : Box) → i < length g.scopes → HasDomains g box → CanReadEnd g e i box → PartFits g i (ending_ends e) (end_leaves g e i box)
    end_fits empty i box l h can = with_end g i [] (empty_fits g i)
    end_fits barred i box l h can = with_end g i (leaf_barred ∷ []) (barred_fits g i)
    end_fits (next t) i box l h can =
        let w = position g (suc i) box in
        subst (λ (f : Finding). PartFits g i (ends_of t) (leaf_node w f ∷ [])) (sym (node_next g t i box l)) (with_node g i (ends_of t) w (node_finding g t (suc i) box) (tree_fits t (suc i) box h (next_node g t i box can l)))
    end_fits (branch x bs) i box l h can =
        let vs = values_left box x.0 in
        let some = some_left box x.0 (branch_full g x bs i box can) (branch_variable g x bs i box can h.wide) in
        all_ended g i (branch_ends bs) vs (pieces_leaves g bs x.0 vs i box) some (pieces_fit bs x.0 vs i box l h (left_numbers box x.0 h.numbers) (branch_cases g x bs i box can))

    pieces_fit : (bs : Branches) (x : ℕ) (vs : Values) (i : ℕ) (box : Box) → i < length g.scopes → HasDomains g box → AreNumbers vs → CanReadBranches g bs x vs i box → PiecesFit g i (branch_ends bs) vs (pieces_leaves g bs x vs i box)
    pieces_fit no_more x vs i box l h k can = no_pieces g i vs can.placed
    pieces_fit (piece upto c bs) x vs i box l h k can =
        let one = taken_leaves g c i (box_to box x (covered upto vs)) in
        let rest = pieces_leaves g bs x (uncovered upto vs) i box in
        cases_both g i (case_ends c) (branch_ends bs) vs (uncovered upto vs) one rest
        (case_fit c i (box_to box x (covered upto vs)) l (case_domains g box x (cover upto vs) vs h k) (first_case g x vs upto c bs i box can))
        (pieces_fit bs x (uncovered upto vs) i box l h (all_drop is_number (cover upto vs) vs k) (later_cases g x vs upto c bs i box can))

    case_fit : (c : Case) (i : ℕ) (box : Box) → i < length g.scopes → HasDomains g box → CanReadCase g c i box → PartFits g i (case_ends c) (taken_leaves g c i box)
    case_fit skip i box l h can = record { leaves = skipped_fits g i; ended = λ none. refl }
    case_fit left_open i box l h can = record { leaves = skipped_fits g i; ended = λ none. refl }
    case_fit (go steps e) i box l h can = part_both g steps e i box h (end_fits e i (after_steps steps box) l (steps_domains g steps box h) (part_end g steps e i box can))
