-- A state that was read with nothing above, set on what is open above its node.
use Rattle.std.proofs.Common.{◌≡◌, ◌≤◌, ◌<◌, ℕ, zero, suc, true, false, not, ◌&&◌, List, [], ◌∷◌, ◌++◌, refl, sym, ap, ◌∙◌, Option, None, Some, ℤ, arith, append-nil}
use Rattle.qc_model.specs.Content.{Game}
use Rattle.qc_model.specs.Domains.{Box, has_empty, is_none_left}
use Rattle.proof_tree.specs.declared.tree.Step.{Step}
use Rattle.proof_tree.specs.declared.tree.Step.TheVariants.{Prune as PruneStep, Bound as BoundStep}
use Rattle.proof_tree.specs.Tree.{Tree}
use Rattle.proof_tree.specs.Cover.{covered, is_cover, box_to}
use Rattle.proof_tree.specs.Place.{position, is_goal}
use Rattle.proof_tree.specs.Steps.{after_step, is_legal}
use Rattle.proof_tree.specs.InPlace.{is_horizon}
use Rattle.proof_tree.specs.Finding.{Finding, leaf_barred, leaf_skipped, leaf_node, stuck_finding, goal_finding}
use Rattle.proof_tree.specs.Read.{read}
use Rattle.proof_tree.specs.declared.line.Line.{Line}
use Rattle.proof_tree.specs.declared.line.Line.TheVariants.{Horizon, Prune, Bound, Dot, Stuck, Goal, Empty, Barred, Next, Branch, Skip, Open, Range}
use Rattle.proof_tree.specs.Lines.{tree_lines}
use Rattle.check_lines.specs.Tally.{Tally, ◌&◌, test, taken, one_open}
use Rattle.check_lines.specs.State.{Spot, Own, Fork, Above, at_root, below, Within, whole_tree, in_case, State, node_due, prune_due, body_due, end_due, case_due, ranged_due, ended, wrong, with_leaf, with_marks, with_horizon, finding_of, own_at, spot_after, goes_on, bars, may_branch, may_see, may_take, fork_on, fork_after, is_own_step, after_step_line, after_prune_line, after_node, after_part, at_end, at_body, at_node, at_prune, at_case, at_fork, step, run}
use Rattle.check_lines.specs.Nests.{nests, nests_above, nests_within}
use Rattle.check_lines.specs.Under.{is_over}
use Rattle.check_lines.proofs.Sums.{joined}
use Rattle.check_lines.proofs.Runs.{run_tree, tree_tally}
use Rattle.check_lines.proofs.Shallow.{nests_part}

-- with `top` above in place of nothing
abbrev mutual
  pub above_on : Above → Above → Above
  above_on top at_root = top
  above_on top (below o w around) = below o w (within_on top around)

  pub within_on : Above → Within → Within
  within_on top (whole_tree above) = whole_tree (above_on top above)
  within_on top (in_case b around) = in_case b (within_on top around)

-- the same where n was counted before
abbrev pub onto : Game → Tally → Above → State → State
onto g n top (node_due m above s box) = node_due (n & m) (above_on top above) s box
onto g n top (prune_due m above s k box left) = prune_due (n & m) (above_on top above) s k box left
onto g n top (body_due m above s box) = body_due (n & m) (above_on top above) s box
onto g n top (end_due m around o box) = end_due (n & m) (within_on top around) o box
onto g n top (case_due m around o b) = case_due (n & m) (within_on top around) o b
onto g n top (ranged_due m around o b high) = ranged_due (n & m) (within_on top around) o b high
onto g n top (ended m f) = after_node g (n & m) top f
onto g n top wrong = wrong

module _ (g : Game) where
  stays_wrong : (ls : List Line) → run g wrong ls ≡ wrong
  stays_wrong [] = refl
  stays_wrong (l ∷ ls) = stays_wrong ls

  never_over : (ls : List Line) → is_over (run g wrong ls) ≡ false → ⊥
  never_over ls h = let c : true ≡ false = sym (ap is_over (stays_wrong ls)) ∙ h in cc

  -- a line comes only where the node isn't over
  not_over : (x : State) (l : Line) (ls : List Line) → is_over (run g x (l ∷ ls)) ≡ false → is_over x ≡ false
  not_over (node_due m above s box) l ls h = refl
  not_over (prune_due m above s k box left) l ls h = refl
  not_over (body_due m above s box) l ls h = refl
  not_over (end_due m around o box) l ls h = refl
  not_over (case_due m around o b) l ls h = refl
  not_over (ranged_due m around o b high) l ls h = refl
  not_over (ended m f) l ls h = absurd (never_over ls h)
  not_over wrong l ls h = absurd (never_over ls h)

  -- lines, and others after them
  pub run_append : (ls ks : List Line) (x : State) → run g x (ls ++ ks) ≡ run g (run g x ls) ks
  run_append [] ks x = refl
  run_append (l ∷ ls) ks x = run_append ls ks (step g x l)

  -- the lines of a tree at a node
  pub run_whole : (t : Tree) (n : Tally) (above : Above) (s : Spot) (box : Box) →
      run g (node_due n above s box) (tree_lines t) ≡ after_node g (n & tree_tally g t s box) above (read g t s.later s.number s.demands box)
  run_whole t n above s box = ap (run g (node_due n above s box)) (sym (append-nil (tree_lines t))) ∙ run_tree g t n above s box []

  -- below its place a node leaves less open
  pub ended_lower : (above : Above) (n : Tally) (f : Finding) → 0 < nests_above above → nests (after_node g n above f) < nests_above above
  ended_lower at_root n f h = absurd (omega arith)
  ended_lower (below o w around) n f h = let k = nests_part g around n (with_leaf o (leaf_node w f)) in omega (arith, k)

module _ (g : Game) (n : Tally) (top : Above) where
  mutual
    after_node_on : (above : Above) (m : Tally) (f : Finding) → after_node g (n & m) (above_on top above) f ≡ onto g n top (after_node g m above f)
    after_node_on at_root m f = refl
    after_node_on (below o w around) m f = after_part_on around m (with_leaf o (leaf_node w f))

    after_part_on : (around : Within) (m : Tally) (o : Own) → after_part g (n & m) (within_on top around) o ≡ onto g n top (after_part g m around o)
    after_part_on (whole_tree above) m o = after_node_on above m (finding_of g o)
    after_part_on (in_case b around) m o = refl

  grown : (m a : Tally) → ((n & m) & a) ≡ (n & (m & a))
  grown m a = joined n m a (m & a) refl refl refl

  node_grown : (above : Above) (m a : Tally) (f : Finding) → after_node g ((n & m) & a) (above_on top above) f ≡ onto g n top (after_node g (m & a) above f)
  node_grown above m a f = ap (λ k. after_node g k (above_on top above) f) (grown m a) ∙ after_node_on above (m & a) f

  part_grown : (around : Within) (m a : Tally) (o : Own) → after_part g ((n & m) & a) (within_on top around) o ≡ onto g n top (after_part g (m & a) around o)
  part_grown around m a o = ap (λ k. after_part g k (within_on top around) o) (grown m a) ∙ after_part_on around (m & a) o

  own_step_on : (p : Step) (m : Tally) (around : Within) (o : Own) (box : Box) → after_step_line g (n & m) (within_on top around) o p box ≡ onto g n top (after_step_line g m around o p box)
  own_step_on p m around o box = ap (λ k. end_due k (within_on top around) (with_marks g o p box) (after_step p box)) (grown m (test (is_own_step g o.spot p box)))

  at_end_on : (l : Line) (m : Tally) (around : Within) (o : Own) (box : Box) → at_end g (n & m) (within_on top around) o box l ≡ onto g n top (at_end g m around o box l)
  at_end_on (Prune x low high c) m around o box = own_step_on (PruneStep x low high c) m around o box
  at_end_on (Bound x low high) m around o box = own_step_on (BoundStep x low high) m around o box
  at_end_on Empty m around o box = part_grown around m (test (has_empty box)) o
  at_end_on Barred m around o box = part_grown around m (test (bars g o.spot.number box)) (with_leaf o leaf_barred)
  at_end_on Next m around o box =
      ap (λ k. node_due k (below o (position g (suc o.spot.number) box) (within_on top around)) (spot_after g o.spot) box) (grown m (test (goes_on g o.spot.number box)))
  at_end_on (Branch x) m around o box = ap (λ k. case_due k (within_on top around) o (fork_on x.0 box)) (grown m (test (may_branch g o.spot.number x.0 box)))
  at_end_on (Horizon k) m around o box = refl
  at_end_on Dot m around o box = refl
  at_end_on Stuck m around o box = refl
  at_end_on Goal m around o box = refl
  at_end_on Skip m around o box = refl
  at_end_on Open m around o box = refl
  at_end_on (Range high) m around o box = refl

  begins_on : (l : Line) (m : Tally) (above : Above) (s : Spot) (box : Box) →
      at_end g ((n & m) & test (not (is_horizon s.horizon s.number) && not (is_goal s.later))) (whole_tree (above_on top above)) (own_at g s box) box l
      ≡ onto g n top (at_end g (m & test (not (is_horizon s.horizon s.number) && not (is_goal s.later))) (whole_tree above) (own_at g s box) box l)
  begins_on l m above s box =
      let t = test (not (is_horizon s.horizon s.number) && not (is_goal s.later)) in
      ap (λ k. at_end g k (whole_tree (above_on top above)) (own_at g s box) box l) (grown m t) ∙ at_end_on l (m & t) (whole_tree above) (own_at g s box) box

  at_body_on : (l : Line) (m : Tally) (above : Above) (s : Spot) (box : Box) → at_body g (n & m) (above_on top above) s box l ≡ onto g n top (at_body g m above s box l)
  at_body_on Stuck m above s box = node_grown above m (test (is_horizon s.horizon s.number)) (stuck_finding s.later g s.demands (position g s.number box))
  at_body_on Goal m above s box = node_grown above m (test (not (is_horizon s.horizon s.number) && is_goal s.later)) (goal_finding g s.number s.demands (position g s.number box))
  at_body_on (Prune x low high c) m above s box = begins_on (Prune x low high c) m above s box
  at_body_on (Bound x low high) m above s box = begins_on (Bound x low high) m above s box
  at_body_on Empty m above s box = begins_on Empty m above s box
  at_body_on Barred m above s box = begins_on Barred m above s box
  at_body_on Next m above s box = begins_on Next m above s box
  at_body_on (Branch x) m above s box = begins_on (Branch x) m above s box
  at_body_on (Horizon k) m above s box = refl
  at_body_on Dot m above s box = refl
  at_body_on Skip m above s box = refl
  at_body_on Open m above s box = refl
  at_body_on (Range high) m above s box = refl

  at_node_on : (l : Line) (m : Tally) (above : Above) (s : Spot) (box : Box) → at_node g (n & m) (above_on top above) s box l ≡ onto g n top (at_node g m above s box l)
  at_node_on (Horizon zero) m above s box = refl
  at_node_on (Horizon (suc k)) m above s box = ap (λ t. prune_due t (above_on top above) s k box box) (grown m (test (may_see k s)))
  at_node_on Stuck m above s box = at_body_on Stuck m above s box
  at_node_on Goal m above s box = at_body_on Goal m above s box
  at_node_on (Prune x low high c) m above s box = at_body_on (Prune x low high c) m above s box
  at_node_on (Bound x low high) m above s box = at_body_on (Bound x low high) m above s box
  at_node_on Empty m above s box = at_body_on Empty m above s box
  at_node_on Barred m above s box = at_body_on Barred m above s box
  at_node_on Next m above s box = at_body_on Next m above s box
  at_node_on (Branch x) m above s box = at_body_on (Branch x) m above s box
  at_node_on Dot m above s box = refl
  at_node_on Skip m above s box = refl
  at_node_on Open m above s box = refl
  at_node_on (Range high) m above s box = refl

  prune_step_on : (p : Step) (m : Tally) (above : Above) (s : Spot) (k : ℕ) (box left : Box) → after_prune_line g (n & m) (above_on top above) s k box p left ≡ onto g n top (after_prune_line g m above s k box p left)
  prune_step_on p m above s k box left = ap (λ t. prune_due t (above_on top above) s k box (after_step p left)) (grown m (test (is_legal g s.number (suc k) None p left)))

  at_prune_on : (l : Line) (m : Tally) (above : Above) (s : Spot) (k : ℕ) (box left : Box) → at_prune g (n & m) (above_on top above) s k box left l ≡ onto g n top (at_prune g m above s k box left l)
  at_prune_on (Prune x low high c) m above s k box left = prune_step_on (PruneStep x low high c) m above s k box left
  at_prune_on (Bound x low high) m above s k box left = prune_step_on (BoundStep x low high) m above s k box left
  at_prune_on Dot m above s k box left = ap (λ t. body_due t (above_on top above) (with_horizon s k) box) (grown m (test (has_empty left)))
  at_prune_on (Horizon j) m above s k box left = refl
  at_prune_on Stuck m above s k box left = refl
  at_prune_on Goal m above s k box left = refl
  at_prune_on Empty m above s k box left = refl
  at_prune_on Barred m above s k box left = refl
  at_prune_on Next m above s k box left = refl
  at_prune_on (Branch x) m above s k box left = refl
  at_prune_on Skip m above s k box left = refl
  at_prune_on Open m above s k box left = refl
  at_prune_on (Range high) m above s k box left = refl

  taken_on : (l : Line) (upto : Option ℤ) (m : Tally) (around : Within) (o : Own) (b : Fork) →
      at_end g ((n & m) & taken (may_take upto b)) (in_case (fork_after upto b) (within_on top around)) o (box_to b.box b.variable (covered upto b.left)) l
      ≡ onto g n top (at_end g (m & taken (may_take upto b)) (in_case (fork_after upto b) around) o (box_to b.box b.variable (covered upto b.left)) l)
  taken_on l upto m around o b =
      let t = taken (may_take upto b) in
      let box = box_to b.box b.variable (covered upto b.left) in
      ap (λ k. at_end g k (in_case (fork_after upto b) (within_on top around)) o box l) (grown m t) ∙ at_end_on l (m & t) (in_case (fork_after upto b) around) o box

  at_case_on : (l : Line) (upto : Option ℤ) (m : Tally) (around : Within) (o : Own) (b : Fork) → at_case g (n & m) (within_on top around) o b upto l ≡ onto g n top (at_case g m around o b upto l)
  at_case_on Skip upto m around o b = ap (λ k. case_due k (within_on top around) (with_leaf o leaf_skipped) (fork_after upto b)) (grown m (test (is_cover upto b.left)))
  at_case_on Open upto m around o b = ap (λ k. case_due k (within_on top around) (with_leaf o leaf_skipped) (fork_after upto b)) (grown m (one_open (is_cover upto b.left)))
  at_case_on (Prune x low high c) upto m around o b = taken_on (Prune x low high c) upto m around o b
  at_case_on (Bound x low high) upto m around o b = taken_on (Bound x low high) upto m around o b
  at_case_on Empty upto m around o b = taken_on Empty upto m around o b
  at_case_on Barred upto m around o b = taken_on Barred upto m around o b
  at_case_on Next upto m around o b = taken_on Next upto m around o b
  at_case_on (Branch x) upto m around o b = taken_on (Branch x) upto m around o b
  at_case_on (Horizon k) upto m around o b = refl
  at_case_on Dot upto m around o b = refl
  at_case_on Stuck upto m around o b = refl
  at_case_on Goal upto m around o b = refl
  at_case_on (Range high) upto m around o b = refl

  at_fork_on : (l : Line) (m : Tally) (around : Within) (o : Own) (b : Fork) → at_fork g (n & m) (within_on top around) o b l ≡ onto g n top (at_fork g m around o b l)
  at_fork_on Dot m around o b = part_grown around m (test (is_none_left b.left)) o
  at_fork_on (Range high) m around o b = refl
  at_fork_on Skip m around o b = at_case_on Skip None m around o b
  at_fork_on Open m around o b = at_case_on Open None m around o b
  at_fork_on (Prune x low high c) m around o b = at_case_on (Prune x low high c) None m around o b
  at_fork_on (Bound x low high) m around o b = at_case_on (Bound x low high) None m around o b
  at_fork_on Empty m around o b = at_case_on Empty None m around o b
  at_fork_on Barred m around o b = at_case_on Barred None m around o b
  at_fork_on Next m around o b = at_case_on Next None m around o b
  at_fork_on (Branch x) m around o b = at_case_on (Branch x) None m around o b
  at_fork_on (Horizon k) m around o b = refl
  at_fork_on Stuck m around o b = refl
  at_fork_on Goal m around o b = refl

  -- a line that a node takes alone it takes there too
  pub step_on : (x : State) → is_over x ≡ false → (l : Line) → step g (onto g n top x) l ≡ onto g n top (step g x l)
  step_on (node_due m above s box) h l = at_node_on l m above s box
  step_on (prune_due m above s k box left) h l = at_prune_on l m above s k box left
  step_on (body_due m above s box) h l = at_body_on l m above s box
  step_on (end_due m around o box) h l = at_end_on l m around o box
  step_on (case_due m around o b) h l = at_fork_on l m around o b
  step_on (ranged_due m around o b high) h l = at_case_on l (Some high) m around o b
  step_on (ended m f) h l = cc
  step_on wrong h l = refl

  -- so do lines before its end
  pub run_on : (ls : List Line) (x : State) → is_over (run g x ls) ≡ false → run g (onto g n top x) ls ≡ onto g n top (run g x ls)
  run_on [] x h = refl
  run_on (l ∷ ls) x h = ap (λ y. run g y ls) (step_on x (not_over g x l ls h) l) ∙ run_on ls (step g x l) h

  -- and the lines of a whole tree
  pub tree_on : (t : Tree) (m : Tally) (above : Above) (s : Spot) (box : Box) →
      run g (onto g n top (node_due m above s box)) (tree_lines t) ≡ onto g n top (run g (node_due m above s box) (tree_lines t))
  tree_on t m above s box =
      run_whole g t (n & m) (above_on top above) s box
      ∙ (node_grown above m (tree_tally g t s box) (read g t s.later s.number s.demands box) ∙ ap (onto g n top) (sym (run_whole g t m above s box)))

  mutual
    more_above : (above : Above) → nests_above top ≤ nests_above (above_on top above)
    more_above at_root = omega arith
    more_above (below o w around) = let h = more_within around in omega (arith, h)

    more_within : (around : Within) → nests_above top ≤ nests_within (within_on top around)
    more_within (whole_tree above) = more_above above
    more_within (in_case b around) = let h = more_within around in omega (arith, h)

  -- as long as the node isn't over, all above it is open
  pub still_above : (x : State) → is_over x ≡ false → nests_above top ≤ nests (onto g n top x)
  still_above (node_due m above s box) h = more_above above
  still_above (prune_due m above s k box left) h = more_above above
  still_above (body_due m above s box) h = more_above above
  still_above (end_due m around o box) h = more_within around
  still_above (case_due m around o b) h = let k = more_within around in omega (arith, k)
  still_above (ranged_due m around o b high) h = let k = more_within around in omega (arith, k)
  still_above (ended m f) h = cc
  still_above wrong h = cc
