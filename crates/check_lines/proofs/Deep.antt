-- A tree nests no deeper than its lines.
use Rattle.std.proofs.Common.{ℕ, suc, ◌+◌, ◌≤◌, not, ◌&&◌, List, [], ◌∷◌, ◌++◌, map, subst, Option, None, Some, ℤ, arith, append_assoc}
use Rattle.qc_model.specs.Content.{Game}
use Rattle.qc_model.specs.Domains.{Box, has_empty, is_none_left}
use Rattle.proof_tree.specs.declared.tree.Step.{Step}
use Rattle.proof_tree.specs.declared.tree.Step.TheVariants.{Prune, Bound}
use Rattle.proof_tree.specs.Tree.{Tree, tree, Body, stuck, goal, cases, Ending, empty, barred, next, branch, Branches, no_more, piece, Case, skip, left_open, go}
use Rattle.proof_tree.specs.Counts.{depth_of, body_depth, ending_depth, branch_depth, case_depth}
use Rattle.proof_tree.specs.Cover.{covered, is_cover, box_to}
use Rattle.proof_tree.specs.Place.{position, is_goal}
use Rattle.proof_tree.specs.Steps.{after_step, is_legal}
use Rattle.proof_tree.specs.InPlace.{is_horizon}
use Rattle.proof_tree.specs.Finding.{Finding, leaf_barred, leaf_skipped, leaf_node, stuck_finding, goal_finding}
use Rattle.proof_tree.specs.declared.line.Line.{Line}
use Rattle.proof_tree.specs.declared.line.Line.TheVariants.{Horizon as HorizonLine, Dot}
use Rattle.proof_tree.specs.Lines.{step_line, tree_lines, body_lines, ending_lines, case_lines}
use Rattle.check_lines.specs.Tally.{Tally, ◌&◌, test, taken, one_open}
use Rattle.check_lines.specs.State.{Spot, Own, Fork, Above, below, Within, whole_tree, in_case, node_due, prune_due, body_due, end_due, case_due, ranged_due, after_node, after_part, with_leaf, with_marks, with_horizon, finding_of, own_at, spot_after, goes_on, bars, may_branch, may_see, may_take, fork_on, fork_after, is_own_step}
use Rattle.check_lines.specs.Nests.{nests_above, nests_within}
use Rattle.check_lines.proofs.LineForms.{cases_lines, cases_first, seen_lines}
use Rattle.check_lines.proofs.Shallow.{IsShallow, case_state}

module _ (g : Game) where
  -- what is left of the lines after a node, after a part of a scope's own tree, and before an end of one
  abbrev NodeLeft : Above → List Line → Type 0
  NodeLeft above rest = (m : Tally) × (f : Finding) × IsShallow g (after_node g m above f) rest

  abbrev PartLeft : Within → List Line → Type 0
  PartLeft around rest = (m : Tally) × (p : Own) × IsShallow g (after_part g m around p) rest

  abbrev EndLeft : Within → List Line → Type 0
  EndLeft around ls = (m : Tally) × (p : Own) × (box : Box) × IsShallow g (end_due m around p box) ls

  of_body : (c : Body) (n : Tally) (above : Above) (s : Spot) (box : Box) (rest : List Line) → IsShallow g (node_due n above s box) (body_lines c ++ rest) → IsShallow g (body_due n above s box) (body_lines c ++ rest)
  of_body stuck n above s box rest h = h
  of_body goal n above s box rest h = h
  of_body (cases (Prune x low high c ∷ steps) e) n above s box rest h = h
  of_body (cases (Bound x low high ∷ steps) e) n above s box rest h = h
  of_body (cases [] empty) n above s box rest h = h
  of_body (cases [] barred) n above s box rest h = h
  of_body (cases [] (next t)) n above s box rest h = h
  of_body (cases [] (branch x bs)) n above s box rest h = h

  of_end : (steps : List Step) (e : Ending) (n : Tally) (above : Above) (s : Spot) (box : Box) (rest : List Line) → IsShallow g (body_due n above s box) ((map step_line steps ++ ending_lines e) ++ rest) →
      IsShallow g (end_due (n & test (not (is_horizon s.horizon s.number) && not (is_goal s.later))) (whole_tree above) (own_at g s box) box) ((map step_line steps ++ ending_lines e) ++ rest)
  of_end (Prune x low high c ∷ steps) e n above s box rest h = h
  of_end (Bound x low high ∷ steps) e n above s box rest h = h
  of_end [] empty n above s box rest h = h
  of_end [] barred n above s box rest h = h
  of_end [] (next t) n above s box rest h = h
  of_end [] (branch x bs) n above s box rest h = h

  of_case : (steps : List Step) (e : Ending) (upto : Option ℤ) (n : Tally) (around : Within) (o : Own) (b : Fork) (rest : List Line) → IsShallow g (case_state g upto n around o b) ((map step_line steps ++ ending_lines e) ++ rest) →
      IsShallow g (end_due (n & taken (may_take upto b)) (in_case (fork_after upto b) around) o (box_to b.box b.variable (covered upto b.left))) ((map step_line steps ++ ending_lines e) ++ rest)
  of_case (Prune x low high c ∷ steps) e None n around o b rest h = h
  of_case (Bound x low high ∷ steps) e None n around o b rest h = h
  of_case [] empty None n around o b rest h = h
  of_case [] barred None n around o b rest h = h
  of_case [] (next t) None n around o b rest h = h
  of_case [] (branch x bs) None n around o b rest h = h
  of_case (Prune x low high c ∷ steps) e (Some v) n around o b rest h = h
  of_case (Bound x low high ∷ steps) e (Some v) n around o b rest h = h
  of_case [] empty (Some v) n around o b rest h = h
  of_case [] barred (Some v) n around o b rest h = h
  of_case [] (next t) (Some v) n around o b rest h = h
  of_case [] (branch x bs) (Some v) n around o b rest h = h

  after_steps : (steps : List Step) (n : Tally) (around : Within) (o : Own) (box : Box) (rest : List Line) → IsShallow g (end_due n around o box) (map step_line steps ++ rest) → EndLeft around rest
  after_steps [] n around o box rest h = (n, o, box, h)
  after_steps (Prune x low high c ∷ steps) n around o box rest h =
      let p : Step = Prune x low high c in
      after_steps steps (n & test (is_own_step g o.spot p box)) around (with_marks g o p box) (after_step p box) rest h.1
  after_steps (Bound x low high ∷ steps) n around o box rest h =
      let p : Step = Bound x low high in
      after_steps steps (n & test (is_own_step g o.spot p box)) around (with_marks g o p box) (after_step p box) rest h.1

  after_prunes : (steps : List Step) (n : Tally) (above : Above) (s : Spot) (k : ℕ) (box left : Box) (rest : List Line) → IsShallow g (prune_due n above s k box left) ((map step_line steps ++ Dot ∷ []) ++ rest) →
      (m : Tally) × (u : Spot) × IsShallow g (body_due m above u box) rest
  after_prunes [] n above s k box left rest h = (n & test (has_empty left), with_horizon s k, h.1)
  after_prunes (Prune x low high c ∷ steps) n above s k box left rest h =
      let p : Step = Prune x low high c in
      after_prunes steps (n & test (is_legal g s.number (suc k) None p left)) above s k box (after_step p left) rest h.1
  after_prunes (Bound x low high ∷ steps) n above s k box left rest h =
      let p : Step = Bound x low high in
      after_prunes steps (n & test (is_legal g s.number (suc k) None p left)) above s k box (after_step p left) rest h.1

  -- a scope's own tree, or that of a case, up to its end
  at_ending : (steps : List Step) (e : Ending) (n : Tally) (around : Within) (o : Own) (box : Box) (rest : List Line) → IsShallow g (end_due n around o box) ((map step_line steps ++ ending_lines e) ++ rest) → EndLeft around (ending_lines e ++ rest)
  at_ending steps e n around o box rest h =
      after_steps steps n around o box (ending_lines e ++ rest) (subst (IsShallow g (end_due n around o box)) (append_assoc (map step_line steps) (ending_lines e) rest) h)

  mutual
    tree_deep : (t : Tree) (n : Tally) (above : Above) (s : Spot) (box : Box) (rest : List Line) → nests_above above ≤ 1000 → IsShallow g (node_due n above s box) (tree_lines t ++ rest) → (nests_above above + depth_of t ≤ 1000) × NodeLeft above rest
    tree_deep (tree None c) n above s box rest q h = body_deep c n above s box rest q (of_body c n above s box rest h)
    tree_deep (tree (Some z) c) n above s box rest q h =
        let k : IsShallow g (node_due n above s box) (((HorizonLine (suc z.scope.0) ∷ (map step_line z.steps ++ Dot ∷ [])) ++ body_lines c) ++ rest) =
        subst (λ ls. IsShallow g (node_due n above s box) (ls ++ rest)) (seen_lines z c) h
        in
        let m = n & test (may_see z.scope.0 s) in
        let r = after_prunes z.steps m above s z.scope.0 box box (body_lines c ++ rest) (subst (IsShallow g (prune_due m above s z.scope.0 box box)) (append_assoc (map step_line z.steps ++ Dot ∷ []) (body_lines c) rest) k.1) in
        body_deep c r.0 above r.1 box rest q r.2

    body_deep : (c : Body) (n : Tally) (above : Above) (s : Spot) (box : Box) (rest : List Line) → nests_above above ≤ 1000 → IsShallow g (body_due n above s box) (body_lines c ++ rest) → (nests_above above + body_depth c ≤ 1000) × NodeLeft above rest
    body_deep stuck n above s box rest q h = (omega (arith, q), (n & test (is_horizon s.horizon s.number), stuck_finding s.later g s.demands (position g s.number box), h.1))
    body_deep goal n above s box rest q h =
        (omega (arith, q), (n & test (not (is_horizon s.horizon s.number) && is_goal s.later), goal_finding g s.number s.demands (position g s.number box), h.1))
    body_deep (cases steps e) n above s box rest q h =
        let a = at_ending steps e (n & test (not (is_horizon s.horizon s.number) && not (is_goal s.later))) (whole_tree above) (own_at g s box) box rest (of_end steps e n above s box rest h) in
        let r = ending_deep e a.0 (whole_tree above) a.1 a.2 rest q a.3 in
        (r.0, (r.1.0, finding_of g r.1.1, r.1.2))

    ending_deep : (e : Ending) (n : Tally) (around : Within) (o : Own) (box : Box) (rest : List Line) → nests_within around ≤ 1000 → IsShallow g (end_due n around o box) (ending_lines e ++ rest) → (nests_within around + ending_depth e ≤ 1000) × PartLeft around rest
    ending_deep empty n around o box rest q h = (omega (arith, q), (n & test (has_empty box), o, h.1))
    ending_deep barred n around o box rest q h = (omega (arith, q), (n & test (bars g o.spot.number box), with_leaf o leaf_barred, h.1))
    ending_deep (next t) n around o box rest q h =
        let w = position g (suc o.spot.number) box in
        let r = tree_deep t (n & test (goes_on g o.spot.number box)) (below o w around) (spot_after g o.spot) box rest h.0 h.1 in
        (omega (arith, r.0), (r.1.0, with_leaf o (leaf_node w r.1.1), r.1.2))
    ending_deep (branch x bs) n around o box rest q h =
        let r = branches_deep bs (n & test (may_branch g o.spot.number x.0 box)) around o (fork_on x.0 box) rest h.0 h.1 in
        (omega (arith, r.0), r.1)

    branches_deep : (bs : Branches) (n : Tally) (around : Within) (o : Own) (b : Fork) (rest : List Line) → suc (nests_within around) ≤ 1000 → IsShallow g (case_due n around o b) (cases_lines bs ++ rest) →
        (suc (nests_within around) + branch_depth bs ≤ 1000) × PartLeft around rest
    branches_deep no_more n around o b rest q h = (omega (arith, q), (n & test (is_none_left b.left), o, h.1))
    branches_deep (piece None c bs) n around o b rest q h =
        let k : IsShallow g (case_due n around o b) ((case_lines c ++ cases_lines bs) ++ rest) = subst (λ ls. IsShallow g (case_due n around o b) (ls ++ rest)) (cases_first None c bs) h in
        let r = case_deep c None n around o b (cases_lines bs ++ rest) q (subst (IsShallow g (case_due n around o b)) (append_assoc (case_lines c) (cases_lines bs) rest) k) in
        let u = branches_deep bs r.1.0 around r.1.1 (fork_after None b) rest q r.1.2 in
        (omega (arith, r.0, u.0), u.1)
    branches_deep (piece (Some v) c bs) n around o b rest q h =
        let k = subst (λ ls. IsShallow g (case_due n around o b) (ls ++ rest)) (cases_first (Some v) c bs) h in
        let r = case_deep c (Some v) n around o b (cases_lines bs ++ rest) q (subst (IsShallow g (ranged_due n around o b v)) (append_assoc (case_lines c) (cases_lines bs) rest) k.1) in
        let u = branches_deep bs r.1.0 around r.1.1 (fork_after (Some v) b) rest q r.1.2 in
        (omega (arith, r.0, u.0), u.1)

    case_deep : (c : Case) (upto : Option ℤ) (n : Tally) (around : Within) (o : Own) (b : Fork) (rest : List Line) → suc (nests_within around) ≤ 1000 → IsShallow g (case_state g upto n around o b) (case_lines c ++ rest) →
        (suc (nests_within around) + case_depth c ≤ 1000) × PartLeft (in_case (fork_after upto b) around) rest
    case_deep skip None n around o b rest q h = (omega (arith, q), (n & test (is_cover None b.left), with_leaf o leaf_skipped, h.1))
    case_deep skip (Some v) n around o b rest q h = (omega (arith, q), (n & test (is_cover (Some v) b.left), with_leaf o leaf_skipped, h.1))
    case_deep left_open None n around o b rest q h = (omega (arith, q), (n & one_open (is_cover None b.left), with_leaf o leaf_skipped, h.1))
    case_deep left_open (Some v) n around o b rest q h = (omega (arith, q), (n & one_open (is_cover (Some v) b.left), with_leaf o leaf_skipped, h.1))
    case_deep (go steps e) upto n around o b rest q h =
        let within = in_case (fork_after upto b) around in
        let a = at_ending steps e (n & taken (may_take upto b)) within o (box_to b.box b.variable (covered upto b.left)) rest (of_case steps e upto n around o b rest h) in
        ending_deep e a.0 within a.1 a.2 rest q a.3

  -- from any node, whatever follows it
  pub deep_tree : (t : Tree) (n : Tally) (above : Above) (s : Spot) (box : Box) (rest : List Line) → nests_above above ≤ 1000 → IsShallow g (node_due n above s box) (tree_lines t ++ rest) → nests_above above + depth_of t ≤ 1000
  deep_tree t n above s box rest q h = (tree_deep t n above s box rest q h).0
