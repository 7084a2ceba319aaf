-- Lines that come to an end are the lines of a node.
use Rattle.std.proofs.Common.{◌≡◌, ℕ, zero, suc, subst, not, ◌&&◌, List, [], ◌∷◌, ◌++◌, map, refl, sym, ap, ◌∙◌, Option, None, Some, ℤ, append_assoc, append-nil}
use Rattle.qc_model.specs.Content.{Game}
use Rattle.qc_model.specs.Domains.{Box}
use Rattle.proof_tree.specs.declared.tree.Step.{Step}
use Rattle.proof_tree.specs.declared.tree.Step.TheVariants.{Prune as PruneStep, Bound as BoundStep}
use Rattle.proof_tree.specs.declared.tree.Horizon.{Horizon}
use Rattle.proof_tree.specs.Tree.{Tree, tree, Body, stuck, goal, cases, Ending, empty, barred, next, branch, Branches, no_more, piece, Case, skip, left_open, go}
use Rattle.proof_tree.specs.Cover.{covered, box_to}
use Rattle.proof_tree.specs.Place.{is_goal}
use Rattle.proof_tree.specs.InPlace.{is_horizon}
use Rattle.proof_tree.specs.Finding.{Finding}
use Rattle.proof_tree.specs.declared.line.Line.{Line}
use Rattle.proof_tree.specs.declared.line.Line.TheVariants.{Horizon as HorizonLine, Prune, Bound, Dot, Stuck, Goal, Empty, Barred, Next, Branch, Skip, Open, Range}
use Rattle.proof_tree.specs.Lines.{step_line, upto_lines, tree_lines, body_lines, ending_lines, case_lines}
use Rattle.check_lines.proofs.LineForms.{cases_lines, cases_first, seen_lines}
use Rattle.check_lines.specs.Tally.{Tally, ◌&◌, test, taken}
use Rattle.check_lines.specs.State.{Spot, Own, Fork, Above, at_root, below, Within, whole_tree, in_case, State, node_due, prune_due, body_due, end_due, case_due, ranged_due, ended, wrong, own_at, may_take, fork_after, after_node, after_part, at_end, at_body, at_case, at_fork, at_node, at_prune, step, run, start}

-- what is still to come: nothing after a whole tree, and the cases of each branch that is open
abbrev mutual
  AfterNode : Above → List Line → Type 0
  AfterNode at_root ls = ls ≡ []
  AfterNode (below o w around) ls = AfterPart around ls

  AfterPart : Within → List Line → Type 0
  AfterPart (whole_tree above) ls = AfterNode above ls
  AfterPart (in_case b around) ls = (bs : Branches) × (rest : List Line) × (ls ≡ cases_lines bs ++ rest) × AfterPart around rest

abbrev NodeDue : Above → List Line → Type 0
NodeDue above ls = (t : Tree) × (rest : List Line) × (ls ≡ tree_lines t ++ rest) × AfterNode above rest

abbrev BodyDue : Above → List Line → Type 0
BodyDue above ls = (c : Body) × (rest : List Line) × (ls ≡ body_lines c ++ rest) × AfterNode above rest

abbrev PruneDue : Above → List Line → Type 0
PruneDue above ls = (steps : List Step) × (more : List Line) × (ls ≡ (map step_line steps ++ Dot ∷ []) ++ more) × BodyDue above more

abbrev EndDue : Within → List Line → Type 0
EndDue around ls = (steps : List Step) × (e : Ending) × (rest : List Line) × (ls ≡ (map step_line steps ++ ending_lines e) ++ rest) × AfterPart around rest

abbrev CaseDue : Within → List Line → Type 0
CaseDue around ls = (bs : Branches) × (rest : List Line) × (ls ≡ cases_lines bs ++ rest) × AfterPart around rest

abbrev RangedDue : Within → List Line → Type 0
RangedDue around ls = (c : Case) × (rest : List Line) × (ls ≡ case_lines c ++ rest) × CaseDue around rest

abbrev Owes : State → List Line → Type 0
Owes (node_due n above s box) ls = NodeDue above ls
Owes (prune_due n above s k box left) ls = PruneDue above ls
Owes (body_due n above s box) ls = BodyDue above ls
Owes (end_due n around o box) ls = EndDue around ls
Owes (case_due n around o b) ls = CaseDue around ls
Owes (ranged_due n around o b high) ls = RangedDue around ls
Owes (ended n f) ls = ls ≡ []
Owes wrong ls = ⊥

module _ (g : Game) where
  mutual
    owes_node : (above : Above) (n : Tally) (f : Finding) (ls : List Line) → Owes (after_node g n above f) ls → AfterNode above ls
    owes_node at_root n f ls h = h
    owes_node (below o w around) n f ls h = owes_part around n _ ls h

    owes_part : (around : Within) (n : Tally) (o : Own) (ls : List Line) → Owes (after_part g n around o) ls → AfterPart around ls
    owes_part (whole_tree above) n o ls h = owes_node above n _ ls h
    owes_part (in_case b around) n o ls h = h

  at_end_back : (l : Line) (n : Tally) (around : Within) (o : Own) (box : Box) (ls : List Line) → Owes (at_end g n around o box l) ls → EndDue around (l ∷ ls)
  at_end_back (Prune x low high c) n around o box ls h = (PruneStep x low high c ∷ h.0, h.1, h.2, ap (λ ks. Prune x low high c ∷ ks) h.3, h.4)
  at_end_back (Bound x low high) n around o box ls h = (BoundStep x low high ∷ h.0, h.1, h.2, ap (λ ks. Bound x low high ∷ ks) h.3, h.4)
  at_end_back Empty n around o box ls h = ([], empty, ls, refl, owes_part around _ _ ls h)
  at_end_back Barred n around o box ls h = ([], barred, ls, refl, owes_part around _ _ ls h)
  at_end_back Next n around o box ls h = ([], next h.0, h.1, ap (λ ks. Next ∷ ks) h.2, h.3)
  at_end_back (Branch x) n around o box ls h = ([], branch x h.0, h.1, ap (λ ks. Branch x ∷ ks) h.2, h.3)
  at_end_back (HorizonLine k) n around o box ls h = absurd h
  at_end_back Dot n around o box ls h = absurd h
  at_end_back Stuck n around o box ls h = absurd h
  at_end_back Goal n around o box ls h = absurd h
  at_end_back Skip n around o box ls h = absurd h
  at_end_back Open n around o box ls h = absurd h
  at_end_back (Range high) n around o box ls h = absurd h

  own_back : (l : Line) (n : Tally) (above : Above) (s : Spot) (box : Box) (ls : List Line) →
      Owes (at_end g (n & test (not (is_horizon s.horizon s.number) && not (is_goal s.later))) (whole_tree above) (own_at g s box) box l) ls → BodyDue above (l ∷ ls)
  own_back l n above s box ls h =
      let r = at_end_back l (n & test (not (is_horizon s.horizon s.number) && not (is_goal s.later))) (whole_tree above) (own_at g s box) box ls h in
      (cases r.0 r.1, r.2, r.3, r.4)

  at_body_back : (l : Line) (n : Tally) (above : Above) (s : Spot) (box : Box) (ls : List Line) → Owes (at_body g n above s box l) ls → BodyDue above (l ∷ ls)
  at_body_back Stuck n above s box ls h = (stuck, ls, refl, owes_node above _ _ ls h)
  at_body_back Goal n above s box ls h = (goal, ls, refl, owes_node above _ _ ls h)
  at_body_back (Prune x low high c) n above s box ls h = own_back (Prune x low high c) n above s box ls h
  at_body_back (Bound x low high) n above s box ls h = own_back (Bound x low high) n above s box ls h
  at_body_back Empty n above s box ls h = own_back Empty n above s box ls h
  at_body_back Barred n above s box ls h = own_back Barred n above s box ls h
  at_body_back Next n above s box ls h = own_back Next n above s box ls h
  at_body_back (Branch x) n above s box ls h = own_back (Branch x) n above s box ls h
  at_body_back (HorizonLine k) n above s box ls h = absurd h
  at_body_back Dot n above s box ls h = absurd h
  at_body_back Skip n above s box ls h = absurd h
  at_body_back Open n above s box ls h = absurd h
  at_body_back (Range high) n above s box ls h = absurd h

  plain_node : (above : Above) (ls : List Line) → BodyDue above ls → NodeDue above ls
  plain_node above ls h = (tree None h.0, h.1, h.2, h.3)

  -- a case that is taken
  taken_back : (l : Line) (upto : Option ℤ) (n : Tally) (around : Within) (o : Own) (b : Fork) (ls : List Line) →
      Owes (at_end g (n & taken (may_take upto b)) (in_case (fork_after upto b) around) o (box_to b.box b.variable (covered upto b.left)) l) ls → RangedDue around (l ∷ ls)
  taken_back l upto n around o b ls h =
      let r = at_end_back l (n & taken (may_take upto b)) (in_case (fork_after upto b) around) o (box_to b.box b.variable (covered upto b.left)) ls h in
      (go r.0 r.1, r.2, r.3, r.4)

  at_case_back : (l : Line) (upto : Option ℤ) (n : Tally) (around : Within) (o : Own) (b : Fork) (ls : List Line) → Owes (at_case g n around o b upto l) ls → RangedDue around (l ∷ ls)
  at_case_back Skip upto n around o b ls h = (skip, ls, refl, h)
  at_case_back Open upto n around o b ls h = (left_open, ls, refl, h)
  at_case_back (Prune x low high c) upto n around o b ls h = taken_back (Prune x low high c) upto n around o b ls h
  at_case_back (Bound x low high) upto n around o b ls h = taken_back (Bound x low high) upto n around o b ls h
  at_case_back Empty upto n around o b ls h = taken_back Empty upto n around o b ls h
  at_case_back Barred upto n around o b ls h = taken_back Barred upto n around o b ls h
  at_case_back Next upto n around o b ls h = taken_back Next upto n around o b ls h
  at_case_back (Branch x) upto n around o b ls h = taken_back (Branch x) upto n around o b ls h
  at_case_back (HorizonLine k) upto n around o b ls h = absurd h
  at_case_back Dot upto n around o b ls h = absurd h
  at_case_back Stuck upto n around o b ls h = absurd h
  at_case_back Goal upto n around o b ls h = absurd h
  at_case_back (Range high) upto n around o b ls h = absurd h

  -- a case with an upper value or without, and the cases after it
  first_case : (upto : Option ℤ) (around : Within) (ls : List Line) → RangedDue around ls → CaseDue around (upto_lines upto ++ ls)
  first_case upto around ls h =
      let c = h.0 in
      let bs = h.3.0 in (
        piece upto c bs,
        h.3.1,
        ap (λ ks. upto_lines upto ++ ks) (h.2 ∙ (ap (λ ks. case_lines c ++ ks) h.3.2 ∙ sym (append_assoc (case_lines c) (cases_lines bs) h.3.1)))
            ∙ (sym (append_assoc (upto_lines upto) (case_lines c ++ cases_lines bs) h.3.1) ∙ ap (λ ks. ks ++ h.3.1) (sym (cases_first upto c bs))),
        h.3.3,
      )

  one_back : (l : Line) (n : Tally) (around : Within) (o : Own) (b : Fork) (ls : List Line) → Owes (at_case g n around o b None l) ls → CaseDue around (l ∷ ls)
  one_back l n around o b ls h = first_case None around (l ∷ ls) (at_case_back l None n around o b ls h)

  at_fork_back : (l : Line) (n : Tally) (around : Within) (o : Own) (b : Fork) (ls : List Line) → Owes (at_fork g n around o b l) ls → CaseDue around (l ∷ ls)
  at_fork_back Dot n around o b ls h = (no_more, ls, refl, owes_part around _ _ ls h)
  at_fork_back (Range high) n around o b ls h = first_case (Some high) around ls h
  at_fork_back Skip n around o b ls h = one_back Skip n around o b ls h
  at_fork_back Open n around o b ls h = one_back Open n around o b ls h
  at_fork_back (Prune x low high c) n around o b ls h = one_back (Prune x low high c) n around o b ls h
  at_fork_back (Bound x low high) n around o b ls h = one_back (Bound x low high) n around o b ls h
  at_fork_back Empty n around o b ls h = one_back Empty n around o b ls h
  at_fork_back Barred n around o b ls h = one_back Barred n around o b ls h
  at_fork_back Next n around o b ls h = one_back Next n around o b ls h
  at_fork_back (Branch x) n around o b ls h = one_back (Branch x) n around o b ls h
  at_fork_back (HorizonLine k) n around o b ls h = absurd h
  at_fork_back Stuck n around o b ls h = absurd h
  at_fork_back Goal n around o b ls h = absurd h

  at_prune_back : (l : Line) (n : Tally) (above : Above) (s : Spot) (k : ℕ) (box left : Box) (ls : List Line) → Owes (at_prune g n above s k box left l) ls → PruneDue above (l ∷ ls)
  at_prune_back (Prune x low high c) n above s k box left ls h = (PruneStep x low high c ∷ h.0, h.1, ap (λ ks. Prune x low high c ∷ ks) h.2, h.3)
  at_prune_back (Bound x low high) n above s k box left ls h = (BoundStep x low high ∷ h.0, h.1, ap (λ ks. Bound x low high ∷ ks) h.2, h.3)
  at_prune_back Dot n above s k box left ls h = ([], ls, refl, h)
  at_prune_back (HorizonLine j) n above s k box left ls h = absurd h
  at_prune_back Stuck n above s k box left ls h = absurd h
  at_prune_back Goal n above s k box left ls h = absurd h
  at_prune_back Empty n above s k box left ls h = absurd h
  at_prune_back Barred n above s k box left ls h = absurd h
  at_prune_back Next n above s k box left ls h = absurd h
  at_prune_back (Branch x) n above s k box left ls h = absurd h
  at_prune_back Skip n above s k box left ls h = absurd h
  at_prune_back Open n above s k box left ls h = absurd h
  at_prune_back (Range high) n above s k box left ls h = absurd h

  seen_first : (k : ℕ) (above : Above) (ls : List Line) → PruneDue above ls → NodeDue above (HorizonLine (suc k) ∷ ls)
  seen_first k above ls h =
      let z : Horizon = record { scope = record { 0 = k }; steps = h.0 } in
      let c = h.3.0 in (
        tree (Some z) c,
        h.3.1,
        ap (λ ks. HorizonLine (suc k) ∷ ks) (h.2 ∙ (ap (λ ks. (map step_line h.0 ++ Dot ∷ []) ++ ks) h.3.2 ∙ sym (append_assoc (map step_line h.0 ++ Dot ∷ []) (body_lines c) h.3.1)))
            ∙ ap (λ ks. ks ++ h.3.1) (sym (seen_lines z c)),
        h.3.3,
      )

  node_back : (l : Line) (n : Tally) (above : Above) (s : Spot) (box : Box) (ls : List Line) → Owes (at_body g n above s box l) ls → NodeDue above (l ∷ ls)
  node_back l n above s box ls h = plain_node above (l ∷ ls) (at_body_back l n above s box ls h)

  at_node_back : (l : Line) (n : Tally) (above : Above) (s : Spot) (box : Box) (ls : List Line) → Owes (at_node g n above s box l) ls → NodeDue above (l ∷ ls)
  at_node_back (HorizonLine zero) n above s box ls h = absurd h
  at_node_back (HorizonLine (suc k)) n above s box ls h = seen_first k above ls h
  at_node_back Stuck n above s box ls h = node_back Stuck n above s box ls h
  at_node_back Goal n above s box ls h = node_back Goal n above s box ls h
  at_node_back (Prune x low high c) n above s box ls h = node_back (Prune x low high c) n above s box ls h
  at_node_back (Bound x low high) n above s box ls h = node_back (Bound x low high) n above s box ls h
  at_node_back Empty n above s box ls h = node_back Empty n above s box ls h
  at_node_back Barred n above s box ls h = node_back Barred n above s box ls h
  at_node_back Next n above s box ls h = node_back Next n above s box ls h
  at_node_back (Branch x) n above s box ls h = node_back (Branch x) n above s box ls h
  at_node_back Dot n above s box ls h = absurd h
  at_node_back Skip n above s box ls h = absurd h
  at_node_back Open n above s box ls h = absurd h
  at_node_back (Range high) n above s box ls h = absurd h

  step_back : (s : State) (l : Line) (ls : List Line) → Owes (step g s l) ls → Owes s (l ∷ ls)
  step_back (node_due n above s box) l ls h = at_node_back l n above s box ls h
  step_back (prune_due n above s k box left) l ls h = at_prune_back l n above s k box left ls h
  step_back (body_due n above s box) l ls h = at_body_back l n above s box ls h
  step_back (end_due n around o box) l ls h = at_end_back l n around o box ls h
  step_back (case_due n around o b) l ls h = at_fork_back l n around o b ls h
  step_back (ranged_due n around o b high) l ls h = at_case_back l (Some high) n around o b ls h
  step_back (ended n f) l ls h = absurd h
  step_back wrong l ls h = absurd h

  owes_end : (s : State) (n : Tally) (f : Finding) → s ≡ ended n f → Owes s []
  owes_end s n f e = subst (λ u. Owes u []) (sym e) refl

  pub owed : (ls : List Line) (s : State) (n : Tally) (f : Finding) → run g s ls ≡ ended n f → Owes s ls
  owed [] s n f e = owes_end s n f e
  owed (l ∷ ls) s n f e = step_back s l ls (owed ls (step g s l) n f e)

  -- lines that come to an end are the lines of a tree
  pub whole_lines : (ls : List Line) (n : Tally) (f : Finding) → run g (start g) ls ≡ ended n f → (t : Tree) × (ls ≡ tree_lines t)
  whole_lines ls n f e =
      let h = owed ls (start g) n f e in
      (h.0, h.2 ∙ (ap (λ ks. tree_lines h.0 ++ ks) h.3 ∙ append-nil (tree_lines h.0)))
