-- The lines of a tree nest as deep as the tree.
use Rattle.std.proofs.Common.{ℕ, suc, ◌+◌, ◌≤◌, not, ◌&&◌, List, [], ◌∷◌, ◌++◌, map, sym, subst, Option, None, Some, ℤ, arith, append_assoc, append-nil}
use Rattle.qc_model.specs.Content.{Game}
use Rattle.qc_model.specs.Domains.{Box}
use Rattle.proof_tree.specs.declared.tree.Step.{Step}
use Rattle.proof_tree.specs.declared.tree.Step.TheVariants.{Prune, Bound}
use Rattle.proof_tree.specs.Tree.{Tree, tree, Body, stuck, goal, cases, Ending, empty, barred, next, branch, Branches, no_more, piece, Case, skip, left_open, go}
use Rattle.proof_tree.specs.Counts.{depth_of, body_depth, ending_depth, branch_depth, case_depth}
use Rattle.proof_tree.specs.Cover.{covered, box_to}
use Rattle.proof_tree.specs.Place.{is_goal}
use Rattle.proof_tree.specs.InPlace.{is_horizon}
use Rattle.proof_tree.specs.Finding.{Finding, leaf_node}
use Rattle.proof_tree.specs.declared.line.Line.{Line}
use Rattle.proof_tree.specs.declared.line.Line.TheVariants.{Dot}
use Rattle.proof_tree.specs.Lines.{step_line, tree_lines, body_lines, ending_lines, case_lines}
use Rattle.check_lines.proofs.LineForms.{cases_lines, cases_first, seen_lines}
use Rattle.check_lines.specs.Tally.{Tally, ◌&◌, test, taken}
use Rattle.check_lines.specs.State.{Spot, Own, Fork, Above, at_root, below, Within, whole_tree, in_case, State, node_due, prune_due, body_due, end_due, case_due, ranged_due, after_node, after_part, with_leaf, finding_of, own_at, may_take, fork_after, start, step}
use Rattle.check_lines.specs.Nests.{nests, nests_above, nests_within}

-- no line of them nests too deep
abbrev pub IsShallow : Game → State → List Line → Type 0
IsShallow g s [] = Unit {0}
IsShallow g s (l ∷ ls) = (nests (step g s l) ≤ 1000) × IsShallow g (step g s l) ls

module _ (g : Game) where
  mutual
    nests_node : (above : Above) (n : Tally) (f : Finding) → nests (after_node g n above f) ≤ nests_above above
    nests_node at_root n f = omega arith
    nests_node (below o w around) n f = let h = nests_part around n (with_leaf o (leaf_node w f)) in omega (arith, h)

    pub nests_part : (around : Within) (n : Tally) (o : Own) → nests (after_part g n around o) ≤ nests_within around
    nests_part (whole_tree above) n o = nests_node above n (finding_of g o)
    nests_part (in_case b around) n o = omega arith

  node_low : (above : Above) → nests_above above ≤ 1000 → (n : Tally) (f : Finding) → nests (after_node g n above f) ≤ 1000
  node_low above q n f = let h = nests_node above n f in omega (arith, h, q)

  part_low : (around : Within) → nests_within around ≤ 1000 → (n : Tally) (o : Own) → nests (after_part g n around o) ≤ 1000
  part_low around q n o = let h = nests_part around n o in omega (arith, h, q)

  abbrev NodeGoes : Above → List Line → Type 0
  NodeGoes above rest = (m : Tally) (f : Finding) → IsShallow g (after_node g m above f) rest

  abbrev PartGoes : Within → List Line → Type 0
  PartGoes around rest = (m : Tally) (p : Own) → IsShallow g (after_part g m around p) rest

  to_node : (c : Body) (n : Tally) (above : Above) (s : Spot) (box : Box) (rest : List Line) → IsShallow g (body_due n above s box) (body_lines c ++ rest) → IsShallow g (node_due n above s box) (body_lines c ++ rest)
  to_node stuck n above s box rest h = h
  to_node goal n above s box rest h = h
  to_node (cases (Prune x low high c ∷ steps) e) n above s box rest h = h
  to_node (cases (Bound x low high ∷ steps) e) n above s box rest h = h
  to_node (cases [] empty) n above s box rest h = h
  to_node (cases [] barred) n above s box rest h = h
  to_node (cases [] (next t)) n above s box rest h = h
  to_node (cases [] (branch x bs)) n above s box rest h = h

  abbrev EndGoes : Within → List Line → Type 0
  EndGoes around ls = (n : Tally) (o : Own) (box : Box) → IsShallow g (end_due n around o box) ls

  to_body : (steps : List Step) (e : Ending) (n : Tally) (above : Above) (s : Spot) (box : Box) (rest : List Line) → EndGoes (whole_tree above) ((map step_line steps ++ ending_lines e) ++ rest) → IsShallow g (body_due n above s box) ((map step_line steps ++ ending_lines e) ++ rest)
  to_body (Prune x low high c ∷ steps) e n above s box rest h = h (n & test (not (is_horizon s.horizon s.number) && not (is_goal s.later))) (own_at g s box) box
  to_body (Bound x low high ∷ steps) e n above s box rest h = h (n & test (not (is_horizon s.horizon s.number) && not (is_goal s.later))) (own_at g s box) box
  to_body [] empty n above s box rest h = h (n & test (not (is_horizon s.horizon s.number) && not (is_goal s.later))) (own_at g s box) box
  to_body [] barred n above s box rest h = h (n & test (not (is_horizon s.horizon s.number) && not (is_goal s.later))) (own_at g s box) box
  to_body [] (next t) n above s box rest h = h (n & test (not (is_horizon s.horizon s.number) && not (is_goal s.later))) (own_at g s box) box
  to_body [] (branch x bs) n above s box rest h = h (n & test (not (is_horizon s.horizon s.number) && not (is_goal s.later))) (own_at g s box) box

  abbrev pub case_state : Option ℤ → Tally → Within → Own → Fork → State
  case_state None n around o b = case_due n around o b
  case_state (Some high) n around o b = ranged_due n around o b high

  to_case : (steps : List Step) (e : Ending) (upto : Option ℤ) (n : Tally) (around : Within) (o : Own) (b : Fork) (rest : List Line) → EndGoes (in_case (fork_after upto b) around) ((map step_line steps ++ ending_lines e) ++ rest) →
      IsShallow g (case_state upto n around o b) ((map step_line steps ++ ending_lines e) ++ rest)
  to_case (Prune x low high c ∷ steps) e None n around o b rest h = h (n & taken (may_take None b)) o (box_to b.box b.variable (covered None b.left))
  to_case (Bound x low high ∷ steps) e None n around o b rest h = h (n & taken (may_take None b)) o (box_to b.box b.variable (covered None b.left))
  to_case [] empty None n around o b rest h = h (n & taken (may_take None b)) o (box_to b.box b.variable (covered None b.left))
  to_case [] barred None n around o b rest h = h (n & taken (may_take None b)) o (box_to b.box b.variable (covered None b.left))
  to_case [] (next t) None n around o b rest h = h (n & taken (may_take None b)) o (box_to b.box b.variable (covered None b.left))
  to_case [] (branch x bs) None n around o b rest h = h (n & taken (may_take None b)) o (box_to b.box b.variable (covered None b.left))
  to_case (Prune x low high c ∷ steps) e (Some v) n around o b rest h = h (n & taken (may_take (Some v) b)) o (box_to b.box b.variable (covered (Some v) b.left))
  to_case (Bound x low high ∷ steps) e (Some v) n around o b rest h = h (n & taken (may_take (Some v) b)) o (box_to b.box b.variable (covered (Some v) b.left))
  to_case [] empty (Some v) n around o b rest h = h (n & taken (may_take (Some v) b)) o (box_to b.box b.variable (covered (Some v) b.left))
  to_case [] barred (Some v) n around o b rest h = h (n & taken (may_take (Some v) b)) o (box_to b.box b.variable (covered (Some v) b.left))
  to_case [] (next t) (Some v) n around o b rest h = h (n & taken (may_take (Some v) b)) o (box_to b.box b.variable (covered (Some v) b.left))
  to_case [] (branch x bs) (Some v) n around o b rest h = h (n & taken (may_take (Some v) b)) o (box_to b.box b.variable (covered (Some v) b.left))

  shallow_steps : (steps : List Step) (n : Tally) (around : Within) (o : Own) (box : Box) (rest : List Line) → nests_within around ≤ 1000 → EndGoes around rest → IsShallow g (end_due n around o box) (map step_line steps ++ rest)
  shallow_steps [] n around o box rest q h = h n o box
  shallow_steps (Prune x low high c ∷ steps) n around o box rest q h = (q, shallow_steps steps _ around _ _ rest q h)
  shallow_steps (Bound x low high ∷ steps) n around o box rest q h = (q, shallow_steps steps _ around _ _ rest q h)

  shallow_prunes : (steps : List Step) (n : Tally) (above : Above) (s : Spot) (k : ℕ) (box left : Box) (rest : List Line) → nests_above above ≤ 1000 → ((m : Tally) (u : Spot) → IsShallow g (body_due m above u box) rest) →
      IsShallow g (prune_due n above s k box left) ((map step_line steps ++ Dot ∷ []) ++ rest)
  shallow_prunes [] n above s k box left rest q h = (q, h _ _)
  shallow_prunes (Prune x low high c ∷ steps) n above s k box left rest q h = (q, shallow_prunes steps _ above s k box _ rest q h)
  shallow_prunes (Bound x low high ∷ steps) n above s k box left rest q h = (q, shallow_prunes steps _ above s k box _ rest q h)

  mutual
    -- from any node, whatever follows it
    pub shallow_tree : (t : Tree) (n : Tally) (above : Above) (s : Spot) (box : Box) (rest : List Line) → nests_above above + depth_of t ≤ 1000 → NodeGoes above rest → IsShallow g (node_due n above s box) (tree_lines t ++ rest)
    shallow_tree (tree None c) n above s box rest q h = to_node c n above s box rest (shallow_body c n above s box rest q h)
    shallow_tree (tree (Some z) c) n above s box rest q h = subst (λ ls. IsShallow g (node_due n above s box) (ls ++ rest)) (sym (seen_lines z c)) (
      omega (arith, q),
      subst (IsShallow g (prune_due _ above s z.scope.0 box box)) (sym (append_assoc (map step_line z.steps ++ Dot ∷ []) (body_lines c) rest))
          (shallow_prunes z.steps _ above s z.scope.0 box box (body_lines c ++ rest) (omega (arith, q)) (λ m u. shallow_body c m above u box rest q h)),
    )

    shallow_body : (c : Body) (n : Tally) (above : Above) (s : Spot) (box : Box) (rest : List Line) → nests_above above + body_depth c ≤ 1000 → NodeGoes above rest → IsShallow g (body_due n above s box) (body_lines c ++ rest)
    shallow_body stuck n above s box rest q h = (node_low above (omega (arith, q)) _ _, h _ _)
    shallow_body goal n above s box rest q h = (node_low above (omega (arith, q)) _ _, h _ _)
    shallow_body (cases steps e) n above s box rest q h = to_body steps e n above s box rest (λ m o bx.
        subst (IsShallow g (end_due m (whole_tree above) o bx)) (sym (append_assoc (map step_line steps) (ending_lines e) rest))
        (shallow_steps steps m (whole_tree above) o bx (ending_lines e ++ rest) (omega (arith, q)) (λ m o bx. shallow_ending e m (whole_tree above) o bx rest q (λ m p. h m _))))

    shallow_ending : (e : Ending) (n : Tally) (around : Within) (o : Own) (box : Box) (rest : List Line) → nests_within around + ending_depth e ≤ 1000 → PartGoes around rest → IsShallow g (end_due n around o box) (ending_lines e ++ rest)
    shallow_ending empty n around o box rest q h = (part_low around (omega (arith, q)) _ _, h _ _)
    shallow_ending barred n around o box rest q h = (part_low around (omega (arith, q)) _ _, h _ _)
    shallow_ending (next t) n around o box rest q h = (omega (arith, q), shallow_tree t _ (below o _ around) _ box rest (omega (arith, q)) (λ m f. h m _))
    shallow_ending (branch x bs) n around o box rest q h = (omega (arith, q), shallow_branches bs _ around o _ rest (omega (arith, q)) h)

    shallow_branches : (bs : Branches) (n : Tally) (around : Within) (o : Own) (b : Fork) (rest : List Line) → suc (nests_within around) + branch_depth bs ≤ 1000 → PartGoes around rest → IsShallow g (case_due n around o b) (cases_lines bs ++ rest)
    shallow_branches no_more n around o b rest q h = (part_low around (omega (arith, q)) _ _, h _ _)
    shallow_branches (piece None c bs) n around o b rest q h =
        subst (λ ls. IsShallow g (case_due n around o b) (ls ++ rest)) (sym (cases_first None c bs))
        (subst (IsShallow g (case_due n around o b)) (sym (append_assoc (case_lines c) (cases_lines bs) rest))
        (shallow_case c None n around o b (cases_lines bs ++ rest) (omega (arith, q)) (λ m p. shallow_branches bs m around p (fork_after None b) rest (omega (arith, q)) h)))
    shallow_branches (piece (Some v) c bs) n around o b rest q h = subst (λ ls. IsShallow g (case_due n around o b) (ls ++ rest)) (sym (cases_first (Some v) c bs)) (
      omega (arith, q),
      subst (IsShallow g (ranged_due n around o b v)) (sym (append_assoc (case_lines c) (cases_lines bs) rest))
          (shallow_case c (Some v) n around o b (cases_lines bs ++ rest) (omega (arith, q)) (λ m p. shallow_branches bs m around p (fork_after (Some v) b) rest (omega (arith, q)) h)),
    )

    shallow_case : (c : Case) (upto : Option ℤ) (n : Tally) (around : Within) (o : Own) (b : Fork) (rest : List Line) → suc (nests_within around) + case_depth c ≤ 1000 → ((m : Tally) (p : Own) → IsShallow g (case_due m around p (fork_after upto b)) rest) →
        IsShallow g (case_state upto n around o b) (case_lines c ++ rest)
    shallow_case skip None n around o b rest q h = (omega (arith, q), h _ _)
    shallow_case skip (Some v) n around o b rest q h = (omega (arith, q), h _ _)
    shallow_case left_open None n around o b rest q h = (omega (arith, q), h _ _)
    shallow_case left_open (Some v) n around o b rest q h = (omega (arith, q), h _ _)
    shallow_case (go steps e) upto n around o b rest q h = to_case steps e upto n around o b rest (λ m p bx.
        subst (IsShallow g (end_due m (in_case (fork_after upto b) around) p bx)) (sym (append_assoc (map step_line steps) (ending_lines e) rest))
        (shallow_steps steps m (in_case (fork_after upto b) around) p bx (ending_lines e ++ rest) (omega (arith, q)) (λ m p bx. shallow_ending e m (in_case (fork_after upto b) around) p bx rest q h)))

  pub shallow_lines : (t : Tree) → depth_of t ≤ 1000 → IsShallow g (start g) (tree_lines t)
  shallow_lines t q = subst (IsShallow g (start g)) (append-nil (tree_lines t)) (shallow_tree t _ at_root _ _ [] (omega (arith, q)) (λ m f. tt))
