-- A line out of place stays out of place.
use Rattle.std.proofs.Common.{◌≡◌, ℕ, zero, suc, false, not, ◌&&◌, refl, ap, ◌∙◌, Option, None, Some, ℤ}
use Rattle.qc_model.specs.Content.{Game}
use Rattle.qc_model.specs.Domains.{Box}
use Rattle.proof_tree.specs.Cover.{covered, box_to}
use Rattle.proof_tree.specs.Place.{is_goal}
use Rattle.proof_tree.specs.InPlace.{is_horizon}
use Rattle.proof_tree.specs.Finding.{Finding, leaf_node}
use Rattle.proof_tree.specs.declared.line.Line.{Line}
use Rattle.proof_tree.specs.declared.line.Line.TheVariants.{Horizon, Prune, Bound, Dot, Stuck, Goal, Empty, Barred, Next, Branch, Skip, Open, Range}
use Rattle.check_lines.specs.Tally.{Tally, ◌&◌, test, taken, one_open}
use Rattle.check_lines.specs.State.{Spot, Own, Fork, Above, at_root, below, Within, whole_tree, in_case, State, node_due, prune_due, body_due, end_due, case_due, ranged_due, ended, wrong, with_leaf, finding_of, own_at, may_take, fork_after, after_node, after_part, at_end, at_body, at_node, at_prune, at_case, at_fork, step}
use Rattle.check_lines.specs.Nests.{all_in_place}

module _ (g : Game) where
  mutual
    pub node_flag : (n : Tally) (above : Above) (f : Finding) → all_in_place (after_node g n above f) ≡ n.in_place
    node_flag n at_root f = refl
    node_flag n (below o w around) f = part_flag n around (with_leaf o (leaf_node w f))

    pub part_flag : (n : Tally) (around : Within) (o : Own) → all_in_place (after_part g n around o) ≡ n.in_place
    part_flag n (whole_tree above) o = node_flag n above (finding_of g o)
    part_flag n (in_case b around) o = refl

  -- a sum that is off already
  off : (n m : Tally) → n.in_place ≡ false → (n.in_place && m.in_place) ≡ false
  off n m e = ap (λ b. b && m.in_place) e

  pub end_off : (l : Line) (n : Tally) (around : Within) (o : Own) (box : Box) → n.in_place ≡ false → all_in_place (at_end g n around o box l) ≡ false
  end_off (Prune x low high c) n around o box e = off n (test _) e
  end_off (Bound x low high) n around o box e = off n (test _) e
  end_off Empty n around o box e = part_flag _ around _ ∙ off n (test _) e
  end_off Barred n around o box e = part_flag _ around _ ∙ off n (test _) e
  end_off Next n around o box e = off n (test _) e
  end_off (Branch x) n around o box e = off n (test _) e
  end_off (Horizon k) n around o box e = refl
  end_off Dot n around o box e = refl
  end_off Stuck n around o box e = refl
  end_off Goal n around o box e = refl
  end_off Skip n around o box e = refl
  end_off Open n around o box e = refl
  end_off (Range high) n around o box e = refl

  begins_off : (l : Line) (n : Tally) (above : Above) (s : Spot) (box : Box) → n.in_place ≡ false →
      all_in_place (at_end g (n & test (not (is_horizon s.horizon s.number) && not (is_goal s.later))) (whole_tree above) (own_at g s box) box l) ≡ false
  begins_off l n above s box e = end_off l (n & test (not (is_horizon s.horizon s.number) && not (is_goal s.later))) (whole_tree above) (own_at g s box) box (off n (test (not (is_horizon s.horizon s.number) && not (is_goal s.later))) e)

  taken_off : (l : Line) (upto : Option ℤ) (n : Tally) (around : Within) (o : Own) (b : Fork) → n.in_place ≡ false →
      all_in_place (at_end g (n & taken (may_take upto b)) (in_case (fork_after upto b) around) o (box_to b.box b.variable (covered upto b.left)) l) ≡ false
  taken_off l upto n around o b e = end_off l (n & taken (may_take upto b)) (in_case (fork_after upto b) around) o (box_to b.box b.variable (covered upto b.left)) (off n (taken (may_take upto b)) e)

  body_off : (l : Line) (n : Tally) (above : Above) (s : Spot) (box : Box) → n.in_place ≡ false → all_in_place (at_body g n above s box l) ≡ false
  body_off Stuck n above s box e = node_flag _ above _ ∙ off n (test _) e
  body_off Goal n above s box e = node_flag _ above _ ∙ off n (test _) e
  body_off (Prune x low high c) n above s box e = begins_off (Prune x low high c) n above s box e
  body_off (Bound x low high) n above s box e = begins_off (Bound x low high) n above s box e
  body_off Empty n above s box e = begins_off Empty n above s box e
  body_off Barred n above s box e = begins_off Barred n above s box e
  body_off Next n above s box e = begins_off Next n above s box e
  body_off (Branch x) n above s box e = begins_off (Branch x) n above s box e
  body_off (Horizon k) n above s box e = refl
  body_off Dot n above s box e = refl
  body_off Skip n above s box e = refl
  body_off Open n above s box e = refl
  body_off (Range high) n above s box e = refl

  node_off : (l : Line) (n : Tally) (above : Above) (s : Spot) (box : Box) → n.in_place ≡ false → all_in_place (at_node g n above s box l) ≡ false
  node_off (Horizon zero) n above s box e = refl
  node_off (Horizon (suc k)) n above s box e = off n (test _) e
  node_off Stuck n above s box e = body_off Stuck n above s box e
  node_off Goal n above s box e = body_off Goal n above s box e
  node_off (Prune x low high c) n above s box e = body_off (Prune x low high c) n above s box e
  node_off (Bound x low high) n above s box e = body_off (Bound x low high) n above s box e
  node_off Empty n above s box e = body_off Empty n above s box e
  node_off Barred n above s box e = body_off Barred n above s box e
  node_off Next n above s box e = body_off Next n above s box e
  node_off (Branch x) n above s box e = body_off (Branch x) n above s box e
  node_off Dot n above s box e = refl
  node_off Skip n above s box e = refl
  node_off Open n above s box e = refl
  node_off (Range high) n above s box e = refl

  prune_off : (l : Line) (n : Tally) (above : Above) (s : Spot) (k : ℕ) (box left : Box) → n.in_place ≡ false → all_in_place (at_prune g n above s k box left l) ≡ false
  prune_off (Prune x low high c) n above s k box left e = off n (test _) e
  prune_off (Bound x low high) n above s k box left e = off n (test _) e
  prune_off Dot n above s k box left e = off n (test _) e
  prune_off (Horizon j) n above s k box left e = refl
  prune_off Stuck n above s k box left e = refl
  prune_off Goal n above s k box left e = refl
  prune_off Empty n above s k box left e = refl
  prune_off Barred n above s k box left e = refl
  prune_off Next n above s k box left e = refl
  prune_off (Branch x) n above s k box left e = refl
  prune_off Skip n above s k box left e = refl
  prune_off Open n above s k box left e = refl
  prune_off (Range high) n above s k box left e = refl

  pub case_off : (l : Line) (upto : Option ℤ) (n : Tally) (around : Within) (o : Own) (b : Fork) → n.in_place ≡ false → all_in_place (at_case g n around o b upto l) ≡ false
  case_off Skip upto n around o b e = off n (test _) e
  case_off Open upto n around o b e = off n (one_open _) e
  case_off (Prune x low high c) upto n around o b e = taken_off (Prune x low high c) upto n around o b e
  case_off (Bound x low high) upto n around o b e = taken_off (Bound x low high) upto n around o b e
  case_off Empty upto n around o b e = taken_off Empty upto n around o b e
  case_off Barred upto n around o b e = taken_off Barred upto n around o b e
  case_off Next upto n around o b e = taken_off Next upto n around o b e
  case_off (Branch x) upto n around o b e = taken_off (Branch x) upto n around o b e
  case_off (Horizon k) upto n around o b e = refl
  case_off Dot upto n around o b e = refl
  case_off Stuck upto n around o b e = refl
  case_off Goal upto n around o b e = refl
  case_off (Range high) upto n around o b e = refl

  fork_off : (l : Line) (n : Tally) (around : Within) (o : Own) (b : Fork) → n.in_place ≡ false → all_in_place (at_fork g n around o b l) ≡ false
  fork_off Dot n around o b e = part_flag _ around o ∙ off n (test _) e
  fork_off (Range high) n around o b e = e
  fork_off Skip n around o b e = case_off Skip None n around o b e
  fork_off Open n around o b e = case_off Open None n around o b e
  fork_off (Prune x low high c) n around o b e = case_off (Prune x low high c) None n around o b e
  fork_off (Bound x low high) n around o b e = case_off (Bound x low high) None n around o b e
  fork_off Empty n around o b e = case_off Empty None n around o b e
  fork_off Barred n around o b e = case_off Barred None n around o b e
  fork_off Next n around o b e = case_off Next None n around o b e
  fork_off (Branch x) n around o b e = case_off (Branch x) None n around o b e
  fork_off (Horizon k) n around o b e = refl
  fork_off Stuck n around o b e = refl
  fork_off Goal n around o b e = refl

  pub stays_off : (s : State) (l : Line) → all_in_place s ≡ false → all_in_place (step g s l) ≡ false
  stays_off (node_due n above s box) l e = node_off l n above s box e
  stays_off (prune_due n above s k box left) l e = prune_off l n above s k box left e
  stays_off (body_due n above s box) l e = body_off l n above s box e
  stays_off (end_due n around o box) l e = end_off l n around o box e
  stays_off (case_due n around o b) l e = fork_off l n around o b e
  stays_off (ranged_due n around o b high) l e = case_off l (Some high) n around o b e
  stays_off (ended n f) l e = refl
  stays_off wrong l e = refl
