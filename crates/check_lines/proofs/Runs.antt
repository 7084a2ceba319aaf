-- What the lines of a part of a tree come to, whatever is open around it and whatever lines follow.
use Rattle.std.proofs.Common.{◌≡◌, ℕ, suc, Bool, true, false, not, ◌&&◌, List, [], ◌∷◌, ◌++◌, map, refl, sym, ap, ◌∙◌, Option, None, Some, ℤ, arith, append_assoc, append-nil}
use Rattle.std.specs.Prelude.{nat_lt, length}
use Rattle.qc_model.specs.Content.{Game}
use Rattle.qc_model.specs.Domains.{Values, Box, declared_box, values_left, has_empty}
use Rattle.proof_tree.specs.declared.tree.Step.{Step}
use Rattle.proof_tree.specs.declared.tree.Step.TheVariants.{Prune, Bound}
use Rattle.proof_tree.specs.Tree.{Tree, tree, Body, stuck, goal, cases, Ending, empty, barred, next, branch, Branches, no_more, piece, Case, skip, left_open, go}
use Rattle.proof_tree.specs.Counts.{turns_of, opens_of, body_count, ending_count, branch_count, case_count}
use Rattle.proof_tree.specs.Pieces.{is_go, is_open}
use Rattle.proof_tree.specs.Cover.{covered, is_cover, box_to}
use Rattle.proof_tree.specs.Place.{Tracked, is_goal, list_after, tracked_variable, position}
use Rattle.proof_tree.specs.Steps.{after_step, after_steps, is_legal, are_legal, step_marks}
use Rattle.proof_tree.specs.InPlace.{is_horizon, steps_in_place, in_place, body_in_place, ending_in_place, branches_in_place, case_in_place}
use Rattle.proof_tree.specs.Finding.{Leaf, leaf_bound, leaf_skipped, leaf_node}
use Rattle.proof_tree.specs.Read.{root_finding, marks, read, read_body, leaves, branch_leaves, case_leaves}
use Rattle.proof_tree.specs.declared.line.Line.{Line}
use Rattle.proof_tree.specs.declared.line.Line.TheVariants.{Dot}
use Rattle.proof_tree.specs.Lines.{step_line, upto_lines, tree_lines, body_lines, ending_lines, case_lines}
use Rattle.check_lines.proofs.LineForms.{cases_lines, cases_first, seen_lines}
use Rattle.check_lines.specs.Tally.{Tally, nothing, ◌&◌, test, taken}
use Rattle.check_lines.specs.State.{Spot, Own, Fork, Above, at_root, below, Within, whole_tree, in_case, State, node_due, prune_due, body_due, end_due, case_due, ranged_due, with_leaves, with_leaf, after_node, after_part, is_own_step, may_take, fork_after, own_at, may_see, with_horizon, goes_on, may_branch, fork_on, spot_after, ended, root_spot, start, run}
use Rattle.check_lines.proofs.Sums.{and_assoc, same_tally, joined}

module _ (g : Game) where
  -- what the parts of a tree add
  abbrev pub tree_tally : Tree → Spot → Box → Tally
  tree_tally t s box = record { in_place = in_place g t s.later s.number s.demands box s.horizon; turns = turns_of t; opens = opens_of t }

  abbrev pub body_tally : Body → Spot → Box → Tally
  body_tally c s box = record { in_place = body_in_place g c s.later s.number s.demands box s.horizon; turns = body_count is_go c; opens = body_count is_open c }

  abbrev pub ending_tally : Ending → Spot → Box → Tally
  ending_tally e s box = record { in_place = ending_in_place g e s.later s.number s.demands box s.horizon; turns = ending_count is_go e; opens = ending_count is_open e }

  abbrev pub branches_tally : Branches → ℕ → Values → Spot → Box → Tally
  branches_tally bs x vs s box = record { in_place = branches_in_place g bs x vs s.later s.number s.demands box s.horizon; turns = branch_count is_go bs; opens = branch_count is_open bs }

  abbrev pub case_tally : Case → Option ℤ → ℕ → Values → Spot → Box → Tally
  case_tally c upto x vs s box = record { in_place = is_cover upto vs && case_in_place g c x (covered upto vs) s.later s.number s.demands box s.horizon; turns = case_count is_go c; opens = case_count is_open c }

  -- steps and the end after them
  abbrev own_tally : List Step → Ending → Spot → Box → Tally
  own_tally steps e s box = record {
    in_place = steps_in_place g s.later s.number s.demands steps box && ending_in_place g e s.later s.number s.demands (after_steps steps box) s.horizon;
    turns = ending_count is_go e;
    opens = ending_count is_open e;
  }

  abbrev own_leaves : List Step → Ending → Spot → Box → List Leaf
  own_leaves steps e s box = marks g s.later s.number s.demands steps box ++ leaves g e s.later s.number s.demands (after_steps steps box)

  -- the first line of what follows a node's horizon, of a scope's own tree and of a case tells which of them it is
  enter_body : (c : Body) (n : Tally) (above : Above) (s : Spot) (box : Box) (rest : List Line) →
      run g (node_due n above s box) (body_lines c ++ rest) ≡ run g (body_due n above s box) (body_lines c ++ rest)
  enter_body stuck n above s box rest = refl
  enter_body goal n above s box rest = refl
  enter_body (cases (Prune x low high c ∷ steps) e) n above s box rest = refl
  enter_body (cases (Bound x low high ∷ steps) e) n above s box rest = refl
  enter_body (cases [] empty) n above s box rest = refl
  enter_body (cases [] barred) n above s box rest = refl
  enter_body (cases [] (next t)) n above s box rest = refl
  enter_body (cases [] (branch x bs)) n above s box rest = refl

  enter_own : (steps : List Step) (e : Ending) (n : Tally) (above : Above) (s : Spot) (box : Box) (rest : List Line) →
      run g (body_due n above s box) ((map step_line steps ++ ending_lines e) ++ rest)
      ≡ run g (end_due (n & test (not (is_horizon s.horizon s.number) && not (is_goal s.later))) (whole_tree above) (own_at g s box) box) ((map step_line steps ++ ending_lines e) ++ rest)
  enter_own (Prune x low high c ∷ steps) e n above s box rest = refl
  enter_own (Bound x low high ∷ steps) e n above s box rest = refl
  enter_own [] empty n above s box rest = refl
  enter_own [] barred n above s box rest = refl
  enter_own [] (next t) n above s box rest = refl
  enter_own [] (branch x bs) n above s box rest = refl

  -- a case with an upper value or without
  abbrev case_state : Option ℤ → Tally → Within → Own → Fork → State
  case_state None n around o b = case_due n around o b
  case_state (Some high) n around o b = ranged_due n around o b high

  enter_case : (steps : List Step) (e : Ending) (upto : Option ℤ) (n : Tally) (around : Within) (o : Own) (b : Fork) (rest : List Line) →
      run g (case_state upto n around o b) ((map step_line steps ++ ending_lines e) ++ rest)
      ≡ run g (end_due (n & taken (may_take upto b)) (in_case (fork_after upto b) around) o (box_to b.box b.variable (covered upto b.left))) ((map step_line steps ++ ending_lines e) ++ rest)
  enter_case (Prune x low high c ∷ steps) e None n around o b rest = refl
  enter_case (Bound x low high ∷ steps) e None n around o b rest = refl
  enter_case [] empty None n around o b rest = refl
  enter_case [] barred None n around o b rest = refl
  enter_case [] (next t) None n around o b rest = refl
  enter_case [] (branch x bs) None n around o b rest = refl
  enter_case (Prune x low high c ∷ steps) e (Some v) n around o b rest = refl
  enter_case (Bound x low high ∷ steps) e (Some v) n around o b rest = refl
  enter_case [] empty (Some v) n around o b rest = refl
  enter_case [] barred (Some v) n around o b rest = refl
  enter_case [] (next t) (Some v) n around o b rest = refl
  enter_case [] (branch x bs) (Some v) n around o b rest = refl

  enter_range : (upto : Option ℤ) (n : Tally) (around : Within) (o : Own) (b : Fork) (ls rest : List Line) →
      run g (case_due n around o b) ((upto_lines upto ++ ls) ++ rest) ≡ run g (case_state upto n around o b) (ls ++ rest)
  enter_range None n around o b ls rest = refl
  enter_range (Some v) n around o b ls rest = refl

  -- a case that needs no more than its cover
  sure : (n : Tally) (k : ℕ) (b : Bool) → (n & record { in_place = b; turns = 0; opens = k }) ≡ (n & record { in_place = b && true; turns = 0; opens = k })
  sure n k true = refl
  sure n k false = refl

  four : (a b c d : Bool) → ((a && b) && (c && d)) ≡ (a && ((b && c) && d))
  four false b c d = refl
  four true false c d = refl
  four true true c d = refl

  -- marks of steps, one by one
  marks_more : (t : Option Tracked) (s : Step) (steps : List Step) (box : Box) → step_marks t (s ∷ steps) box ≡ step_marks t (s ∷ []) box ++ step_marks t steps (after_step s box)
  marks_more t (Prune x low high c) steps box = refl
  marks_more None (Bound x low high) steps box = refl
  marks_more (Some t) (Bound x low high) steps box = refl

  map_append : {X Y : Type 0} (f : X → Y) (xs ys : List X) → map f (xs ++ ys) ≡ map f xs ++ map f ys
  map_append f [] ys = refl
  map_append f (x ∷ xs) ys = ap (λ zs. f x ∷ zs) (map_append f xs ys)

  own_same : (o : Own) (ls ks : List Leaf) → ls ≡ ks → with_leaves o ls ≡ with_leaves o ks
  own_same o ls ks e = ap (with_leaves o) e

  own_none : (o : Own) → with_leaves o [] ≡ o
  own_none o = ap (λ ls. let p : Own = record { spot = o.spot; before = o.before; leaves = ls } in p) (append-nil o.leaves)

  own_twice : (o : Own) (ls ks : List Leaf) → with_leaves (with_leaves o ls) ks ≡ with_leaves o (ls ++ ks)
  own_twice o ls ks = ap (λ ms. let p : Own = record { spot = o.spot; before = o.before; leaves = ms } in p) (append_assoc o.leaves ls ks)

  more_steps : (s : Step) (steps : List Step) (n : Tally) (around : Within) (o : Own) (box : Box) (rest : List Line) →
      run g (end_due ((n & test (is_own_step g o.spot s box)) & test (steps_in_place g o.spot.later o.spot.number o.spot.demands steps (after_step s box))) around
      (with_leaves (with_leaves o (marks g o.spot.later o.spot.number o.spot.demands (s ∷ []) box)) (marks g o.spot.later o.spot.number o.spot.demands steps (after_step s box))) (after_steps steps (after_step s box))) rest
      ≡ run g (end_due (n & test (steps_in_place g o.spot.later o.spot.number o.spot.demands (s ∷ steps) box)) around (with_leaves o (marks g o.spot.later o.spot.number o.spot.demands (s ∷ steps) box)) (after_steps (s ∷ steps) box)) rest
  more_steps s steps n around o box rest =
      let spot = o.spot in
      let tracked = tracked_variable g spot.later spot.number (list_after g spot.later spot.demands) in
      let one = marks g spot.later spot.number spot.demands (s ∷ []) box in
      let others = marks g spot.later spot.number spot.demands steps (after_step s box) in
      ap (λ k. run g (end_due k around (with_leaves (with_leaves o one) others) (after_steps steps (after_step s box))) rest)
      (joined n (test (is_own_step g spot s box)) (test (steps_in_place g spot.later spot.number spot.demands steps (after_step s box))) (test (steps_in_place g spot.later spot.number spot.demands (s ∷ steps) box)) refl refl refl)
      ∙ ap (λ p. run g (end_due (n & test (steps_in_place g spot.later spot.number spot.demands (s ∷ steps) box)) around p (after_steps steps (after_step s box))) rest)
      (own_twice o one others ∙ own_same o (one ++ others) (marks g spot.later spot.number spot.demands (s ∷ steps) box)
      (sym (ap (map leaf_bound) (marks_more tracked s steps box) ∙ map_append leaf_bound (step_marks tracked (s ∷ []) box) (step_marks tracked steps (after_step s box)))))

  -- the steps of a scope's own tree
  run_steps : (steps : List Step) (n : Tally) (around : Within) (o : Own) (box : Box) (rest : List Line) →
      run g (end_due n around o box) (map step_line steps ++ rest)
      ≡ run g (end_due (n & test (steps_in_place g o.spot.later o.spot.number o.spot.demands steps box)) around (with_leaves o (marks g o.spot.later o.spot.number o.spot.demands steps box)) (after_steps steps box)) rest
  run_steps [] n around o box rest =
      ap (λ m. run g (end_due m around o box) rest) (same_tally n (n & test true) (all_true n.in_place) (omega arith) (omega arith))
      ∙ ap (λ p. run g (end_due (n & test true) around p box) rest) (sym (own_none o))
    where
      all_true : (b : Bool) → b ≡ (b && true)
      all_true true = refl
      all_true false = refl
  run_steps (Prune x low high c ∷ steps) n around o box rest = run_steps steps _ around _ _ rest ∙ more_steps (Prune x low high c) steps n around o box rest
  run_steps (Bound x low high ∷ steps) n around o box rest = run_steps steps _ around _ _ rest ∙ more_steps (Bound x low high) steps n around o box rest

  -- the steps of a horizon, and its dot
  run_prunes : (steps : List Step) (n : Tally) (above : Above) (s : Spot) (k : ℕ) (box left : Box) (rest : List Line) →
      run g (prune_due n above s k box left) ((map step_line steps ++ Dot ∷ []) ++ rest)
      ≡ run g (body_due (n & test (are_legal g s.number (suc k) None steps left && has_empty (after_steps steps left))) above (with_horizon s k) box) rest
  run_prunes [] n above s k box left rest = refl
  run_prunes (Prune x low high c ∷ steps) n above s k box left rest =
      let p = Prune x low high c in
      run_prunes steps (n & test (is_legal g s.number (suc k) None p left)) above s k box (after_step p left) rest
      ∙ ap (λ m. run g (body_due m above (with_horizon s k) box) rest) (joined n (test (is_legal g s.number (suc k) None p left)) (test (are_legal g s.number (suc k) None steps (after_step p left) && has_empty (after_steps steps (after_step p left)))) _ (sym (and_assoc (is_legal g s.number (suc k) None p left) (are_legal g s.number (suc k) None steps (after_step p left)) (has_empty (after_steps steps (after_step p left))))) refl refl)
  run_prunes (Bound x low high ∷ steps) n above s k box left rest =
      let p = Bound x low high in
      run_prunes steps (n & test (is_legal g s.number (suc k) None p left)) above s k box (after_step p left) rest
      ∙ ap (λ m. run g (body_due m above (with_horizon s k) box) rest) (joined n (test (is_legal g s.number (suc k) None p left)) (test (are_legal g s.number (suc k) None steps (after_step p left) && has_empty (after_steps steps (after_step p left)))) _ (sym (and_assoc (is_legal g s.number (suc k) None p left) (are_legal g s.number (suc k) None steps (after_step p left)) (has_empty (after_steps steps (after_step p left))))) refl refl)

  -- what the lines of an ending come to
  abbrev EndingRuns : Ending → Type 0
  EndingRuns e = (n : Tally) (around : Within) (o : Own) (box : Box) (rest : List Line) →
      run g (end_due n around o box) (ending_lines e ++ rest)
      ≡ run g (after_part g (n & ending_tally e o.spot box) around (with_leaves o (leaves g e o.spot.later o.spot.number o.spot.demands box))) rest

  -- steps and an ending
  run_own : (e : Ending) → EndingRuns e → (steps : List Step) (n : Tally) (around : Within) (o : Own) (box : Box) (rest : List Line) →
      run g (end_due n around o box) ((map step_line steps ++ ending_lines e) ++ rest)
      ≡ run g (after_part g (n & own_tally steps e o.spot box) around (with_leaves o (own_leaves steps e o.spot box))) rest
  run_own e runs steps n around o box rest =
      let spot = o.spot in
      let left = after_steps steps box in
      let own_marks = marks g spot.later spot.number spot.demands steps box in
      let own_ends = leaves g e spot.later spot.number spot.demands left in
      let steps_count = test (steps_in_place g spot.later spot.number spot.demands steps box) in
      ap (run g (end_due n around o box)) (append_assoc (map step_line steps) (ending_lines e) rest)
      ∙ (run_steps steps n around o box (ending_lines e ++ rest)
      ∙ (runs (n & steps_count) around (with_leaves o own_marks) left rest
      ∙ (ap (λ m. run g (after_part g m around (with_leaves (with_leaves o own_marks) own_ends)) rest)
      (joined n steps_count (ending_tally e spot left) (own_tally steps e spot box) refl (omega arith) (omega arith))
      ∙ ap (λ p. run g (after_part g (n & own_tally steps e spot box) around p) rest) (own_twice o own_marks own_ends))))

  mutual
    pub run_tree : (t : Tree) (n : Tally) (above : Above) (s : Spot) (box : Box) (rest : List Line) →
        run g (node_due n above s box) (tree_lines t ++ rest)
        ≡ run g (after_node g (n & tree_tally t s box) above (read g t s.later s.number s.demands box)) rest
    run_tree (tree None c) n above s box rest = enter_body c n above s box rest ∙ run_body c n above s box rest
    run_tree (tree (Some z) c) n above s box rest =
        let k = z.scope.0 in
        let there = with_horizon s k in
        let steps_ok = are_legal g s.number (suc k) None z.steps box && has_empty (after_steps z.steps box) in
        ap (λ ls. run g (node_due n above s box) (ls ++ rest)) (seen_lines z c)
        ∙ (ap (λ ls. run g (prune_due (n & test (may_see k s)) above s k box box) ls) (append_assoc (map step_line z.steps ++ Dot ∷ []) (body_lines c) rest)
        ∙ (run_prunes z.steps (n & test (may_see k s)) above s k box box (body_lines c ++ rest)
        ∙ (run_body c ((n & test (may_see k s)) & test steps_ok) above there box rest
        ∙ ap (λ m. run g (after_node g m above (read_body g c s.later s.number s.demands box)) rest)
        (ap (λ m. m & body_tally c there box) (joined n (test (may_see k s)) (test steps_ok) (test (may_see k s && steps_ok)) refl refl refl)
        ∙ joined n (test (may_see k s && steps_ok)) (body_tally c there box) (tree_tally (tree (Some z) c) s box)
        (ap (λ b. b && body_in_place g c s.later s.number s.demands box (Some k)) (sym (and_assoc (may_see k s) (are_legal g s.number (suc k) None z.steps box) (has_empty (after_steps z.steps box))))) (omega arith) (omega arith)))))

    run_body : (c : Body) (n : Tally) (above : Above) (s : Spot) (box : Box) (rest : List Line) →
        run g (body_due n above s box) (body_lines c ++ rest)
        ≡ run g (after_node g (n & body_tally c s box) above (read_body g c s.later s.number s.demands box)) rest
    run_body stuck n above s box rest = refl
    run_body goal n above s box rest = refl
    run_body (cases steps e) n above s box rest =
        let inside = test (not (is_horizon s.horizon s.number) && not (is_goal s.later)) in
        let found = read_body g (cases steps e) s.later s.number s.demands box in
        enter_own steps e n above s box rest
        ∙ (run_own e (run_ending e) steps (n & inside) (whole_tree above) (own_at g s box) box rest
        ∙ ap (λ m. run g (after_node g m above found) rest)
        (joined n inside (own_tally steps e s box) (body_tally (cases steps e) s box)
        (sym (and_assoc (not (is_horizon s.horizon s.number) && not (is_goal s.later)) (steps_in_place g s.later s.number s.demands steps box) (ending_in_place g e s.later s.number s.demands (after_steps steps box) s.horizon))) (omega arith) (omega arith)))

    run_ending : (e : Ending) → EndingRuns e
    run_ending empty n around o box rest = ap (λ p. run g (after_part g (n & test (has_empty box)) around p) rest) (sym (own_none o))
    run_ending barred n around o box rest = refl
    run_ending (next t) n around o box rest =
        let i = o.spot.number in
        let there = spot_after g o.spot in
        let found = read g t there.later there.number there.demands box in
        run_tree t (n & test (goes_on g i box)) (below o (position g (suc i) box) around) there box rest
        ∙ ap (λ m. run g (after_part g m around (with_leaf o (leaf_node (position g (suc i) box) found))) rest)
        (joined n (test (goes_on g i box)) (tree_tally t there box) (ending_tally (next t) o.spot box) refl (omega arith) (omega arith))
    run_ending (branch x bs) n around o box rest =
        let fork = fork_on x.0 box in
        let may = test (may_branch g o.spot.number x.0 box) in
        run_branches bs (n & may) around o fork rest
        ∙ ap (λ m. run g (after_part g m around (with_leaves o (branch_leaves g bs x.0 fork.left o.spot.later o.spot.number o.spot.demands box))) rest)
        (joined n may (branches_tally bs x.0 fork.left o.spot box) (ending_tally (branch x bs) o.spot box) refl (omega arith) (omega arith))

    run_branches : (bs : Branches) (n : Tally) (around : Within) (o : Own) (b : Fork) (rest : List Line) →
        run g (case_due n around o b) (cases_lines bs ++ rest)
        ≡ run g (after_part g (n & branches_tally bs b.variable b.left o.spot b.box) around (with_leaves o (branch_leaves g bs b.variable b.left o.spot.later o.spot.number o.spot.demands b.box))) rest
    run_branches no_more n around o b rest = ap (λ p. run g (after_part g (n & test _) around p) rest) (sym (own_none o))
    run_branches (piece upto c bs) n around o b rest =
        let spot = o.spot in
        let one = case_tally c upto b.variable b.left spot b.box in
        let here = case_leaves g c spot.later spot.number spot.demands (box_to b.box b.variable (covered upto b.left)) in
        let fork = fork_after upto b in
        let others = branch_leaves g bs b.variable fork.left spot.later spot.number spot.demands b.box in
        let all = branches_tally (piece upto c bs) b.variable b.left spot b.box in
        ap (λ ls. run g (case_due n around o b) (ls ++ rest)) (cases_first upto c bs)
        ∙ (enter_range upto n around o b (case_lines c ++ cases_lines bs) rest
        ∙ (ap (run g (case_state upto n around o b)) (append_assoc (case_lines c) (cases_lines bs) rest)
        ∙ (run_case c upto n around o b (cases_lines bs ++ rest)
        ∙ (run_branches bs (n & one) around (with_leaves o here) fork rest
        ∙ (ap (λ m. run g (after_part g m around (with_leaves (with_leaves o here) others)) rest)
        (joined n one (branches_tally bs b.variable fork.left spot b.box) all refl refl refl)
        ∙ ap (λ p. run g (after_part g (n & all) around p) rest) (own_twice o here others))))))

    run_case : (c : Case) (upto : Option ℤ) (n : Tally) (around : Within) (o : Own) (b : Fork) (rest : List Line) →
        run g (case_state upto n around o b) (case_lines c ++ rest)
        ≡ run g (case_due (n & case_tally c upto b.variable b.left o.spot b.box) around (with_leaves o (case_leaves g c o.spot.later o.spot.number o.spot.demands (box_to b.box b.variable (covered upto b.left)))) (fork_after upto b)) rest
    run_case skip None n around o b rest = ap (λ m. run g (case_due m around (with_leaf o leaf_skipped) (fork_after None b)) rest) (sure n 0 (is_cover None b.left))
    run_case skip (Some v) n around o b rest = ap (λ m. run g (case_due m around (with_leaf o leaf_skipped) (fork_after (Some v) b)) rest) (sure n 0 (is_cover (Some v) b.left))
    run_case left_open None n around o b rest = ap (λ m. run g (case_due m around (with_leaf o leaf_skipped) (fork_after None b)) rest) (sure n 1 (is_cover None b.left))
    run_case left_open (Some v) n around o b rest = ap (λ m. run g (case_due m around (with_leaf o leaf_skipped) (fork_after (Some v) b)) rest) (sure n 1 (is_cover (Some v) b.left))
    run_case (go steps e) upto n around o b rest =
        let spot = o.spot in
        let at = box_to b.box b.variable (covered upto b.left) in
        let fork = fork_after upto b in
        let found = own_leaves steps e spot at in
        enter_case steps e upto n around o b rest
        ∙ (run_own e (run_ending e) steps (n & taken (may_take upto b)) (in_case fork around) o at rest
        ∙ ap (λ m. run g (case_due m around (with_leaves o found) fork) rest)
        (joined n (taken (may_take upto b)) (own_tally steps e spot at) (case_tally (go steps e) upto b.variable b.left spot b.box)
        (four (is_cover upto b.left) (nat_lt (length (covered upto b.left)) (length (values_left b.box b.variable))) (steps_in_place g spot.later spot.number spot.demands steps at) (ending_in_place g e spot.later spot.number spot.demands (after_steps steps at) spot.horizon))
        refl refl))

-- the lines of a tree, and no others
pub run_lines : (g : Game) (t : Tree) → run g (start g) (tree_lines t) ≡ ended (tree_tally g t (root_spot g) (declared_box g)) (root_finding g t)
run_lines g t =
    ap (run g (start g)) (sym (append-nil (tree_lines t)))
    ∙ (run_tree g t nothing at_root (root_spot g) (declared_box g) []
    ∙ ap (λ m. ended m (root_finding g t)) (same_tally (nothing & tree_tally g t (root_spot g) (declared_box g)) (tree_tally g t (root_spot g) (declared_box g)) refl (omega arith) (omega arith)))
