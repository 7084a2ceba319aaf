-- Each tree in place means what it says at its node: the induction over the tree.
use Rattle.std.proofs.Common.{◌≡◌, ℕ, suc, ◌+◌, ◌<◌, ◌≤◌, Bool, true, false, ◌&&◌, not, List, [], ◌∷◌, ◌++◌, length, set, refl, sym, ◌∙◌, subst, arith, Option, Some, None}
use Rattle.std.specs.Prelude.{ℤ, IsTrue, ⊤, nat_lt}
use Rattle.std.proofs.lemmas.List.{set-get_or, take-append-drop}
use Rattle.std.proofs.lemmas.Bool.{and_parts}
use Rattle.qc_model.specs.declared.problem.Kind.{Kind}
use Rattle.qc_model.specs.declared.problem.Kind.TheVariants.{Exists, Forall}
use Rattle.qc_model.specs.declared.problem.Scope.{Scope}
use Rattle.qc_model.specs.declared.problem.Condition.{Condition}
use Rattle.qc_model.specs.Content.{Game}
use Rattle.qc_model.specs.Lists.{Among}
use Rattle.qc_model.specs.Domains.{Box, InBox, values_left, is_single, has_empty}
use Rattle.qc_model.specs.Game.{before, allows, is_of_scope}
use Rattle.qc_model.specs.Value.{value}
use Rattle.qc_model.specs.Counter.{AnswersOnce}
use Rattle.qc_model.specs.Block.{of_kind}
use Rattle.qc_model.specs.Demands.{demands_through, demands_after}
use Rattle.qc_model.specs.Bottlenecks.{bottleneck_last, bottlenecks_last}
use Rattle.qc_model.specs.Sees.{AllVisible, aggregates_in, ScopeSees, SeesRight}
use Rattle.qc_model.specs.Lists.{Distinct}
use Rattle.model_laws.proofs.Validity.{valid_differs}
use Rattle.model_laws.proofs.Better.{and_first, and_second}
use Rattle.model_laws.proofs.Seen.{after_visible}
use Rattle.proof_tree.specs.Tree.{Tree, tree, Body, stuck, goal, cases, Ending, empty, barred, next, branch, Branches, no_more, piece, Case, skip, left_open, go}
use Rattle.proof_tree.specs.Place.{position, is_fixed, list_after, tracked_variable}
use Rattle.proof_tree.specs.Steps.{after_steps}
use Rattle.proof_tree.specs.InPlace.{horizon_below, is_horizon, horizon_in_place, steps_in_place, in_place, body_in_place, ending_in_place, branches_in_place, case_in_place}
use Rattle.proof_tree.specs.Cover.{cover, covered, uncovered, is_cover, box_to}
use Rattle.qc_model.proofs.Moves.{among_left, among_right}
use Rattle.proof_tree.specs.Finding.{Finding, Leaf, kind_finding, stuck_finding, kind_stuck}
use Rattle.proof_tree.specs.Read.{marks, read, read_body, leaves, branch_leaves, case_leaves}
use Rattle.proof_tree.specs.Good.{Good, IsBlocked}
use Rattle.proof_tree.specs.Fair.{bounded_within}
use Rattle.proof_tree.specs.Meaning.{VerdictMeans}
use Rattle.proof_meaning.proofs.Blocks.{blocked_less, blocked_next, blocked_below}
use Rattle.proof_meaning.proofs.Boxes.{differ, some_widen}
use Rattle.proof_meaning.proofs.GoodValues.{declared_keeps}
use Rattle.proof_meaning.proofs.Narrowed.{steps_widen}
use Rattle.proof_meaning.proofs.Passing.{move_count}
use Rattle.proof_meaning.proofs.Places.{not_true}
use Rattle.proof_meaning.proofs.Widths.{in_scope}
use Rattle.proof_meaning.proofs.Premises.{IsSound}
use Rattle.proof_meaning.proofs.Taken.{get_distinct, distinct_parts}
use Rattle.proof_meaning.proofs.Frames.{FairNode, FairPart, front_in, narrow_fair}
use Rattle.proof_meaning.proofs.Entering.{enter, all_fixed, TheMove, the_move, child_fair}
use Rattle.proof_meaning.proofs.LeafLists.{LeavesMean}
use Rattle.proof_meaning.proofs.LeafRules.{empty_mean, barred_mean, next_mean, none_mean, skipped_mean, case_mean}
use Rattle.proof_meaning.proofs.StepRules.{flag_after, steps_fair, steps_mean}
use Rattle.proof_meaning.proofs.ExistsNodes.{exists_node, own_value}
use Rattle.proof_meaning.proofs.ForallNodes.{forall_node}
use Rattle.proof_meaning.proofs.Once.{kind_once, stuck_once}
use Rattle.proof_meaning.proofs.EndNodes.{goal_node, stuck_node}

-- the strategy has the value that is stated for the scope's own condition
abbrev pub OwnBy : Option Condition → Game → List ℤ → Finding → Type 0
OwnBy None g a f = ⊤
OwnBy (Some c) g a f = (n : ℤ) → f.own ≡ Some n → value g f.strategy c.target a ≡ n

abbrev pub OwnMeans : List Scope → Game → List ℤ → Finding → Type 0
OwnMeans [] g a f = ⊤
OwnMeans (s ∷ later) g a f = OwnBy s.condition g a f

pub record NodeMeans (g : Game) (is_bounded : Bool) (later : List Scope) (i : ℕ) (d : List Condition) (a : List ℤ) (box : Box) (f : Finding) : Type 0 where
  pub verdict : VerdictMeans f.verdict g later i d a box f is_bounded
  pub own : OwnMeans later g a f
  pub once : AnswersOnce f.counter

no_own : (x : Option Condition) (g : Game) (a : List ℤ) (f : Finding) → f.own ≡ None → OwnBy x g a f
no_own None g a f e = tt
no_own (Some c) g a f e = λ n q. absurd (none n (sym e ∙ q))
  where
    none : (n : ℤ) → ¬ (None ≡ Some n)
    none n q = cc

-- the list of a position names what is visible there, and each universal scope from there on may have its list
abbrev pub Asked : Game → List Scope → ℕ → List Condition → Type 0
Asked g scopes i d = AllVisible g scopes i d × (bottlenecks_last g scopes d ≡ true)

pub after_asked : (g : Game) (later : List Scope) (k : Kind) (x : Option Condition) (i : ℕ) (d : List Condition) → Asked g (record { kind = k; condition = x } ∷ later) i d →
    ScopeSees k g later (suc i) x (aggregates_in g i) → Asked g later (suc i) (demands_after g k x d)
after_asked g later k x i d h s = (after_visible g later k x i d h.0 s, and_second (of_kind k true (bottleneck_last g d)) (bottlenecks_last g later (demands_after g k x d)) h.1)

kind_node : (g : Game) (r : IsSound g) (later : List Scope) (i : ℕ) (d : List Condition) (a : List ℤ) (box : Box) (b : Bool) (k : Kind) (x : Option Condition) (ls : List Leaf) →
    LeavesMean g (bounded_within k b) k later i (demands_after g k x d) a box ls → FairNode g b (record { kind = k; condition = x } ∷ later) i a box → has_empty box ≡ false →
    Asked g (record { kind = k; condition = x } ∷ later) i d → NodeMeans g b (record { kind = k; condition = x } ∷ later) i d a box (kind_finding k x g i d a ls)
kind_node g r later i d a box b Exists None ls m f full v = record { verdict = exists_node g later i a box b None d ls m f full; own = tt; once = kind_once Exists None g i d a ls m.once m.distinct }
kind_node g r later i d a box b Exists (Some c) ls m f full v =
    record { verdict = exists_node g later i a box b (Some c) d ls m f full; own = own_value g later i a box b c d ls m f full; once = kind_once Exists (Some c) g i d a ls m.once m.distinct }
kind_node g r later i d a box b Forall x ls m f full v = record {
  verdict = forall_node g later i a box b x d ls m f full (and_first (bottleneck_last g d) (bottlenecks_last g later (demands_through g d)) v.1) (valid_differs g r.valid);
  own = no_own x g a (kind_finding Forall x g i d a ls) refl;
  once = kind_once Forall x g i d a ls m.once m.distinct;
}

stuck_own : (g : Game) (later : List Scope) (d : List Condition) (a : List ℤ) → OwnMeans later g a (stuck_finding later g d a)
stuck_own g [] d a = tt
stuck_own g (s ∷ later) d a = by s.kind
  where
    by : (k : Kind) → OwnBy s.condition g a (kind_stuck k g d a)
    by Exists = no_own s.condition g a (kind_stuck Exists g d a) refl
    by Forall = no_own s.condition g a (kind_stuck Forall g d a) refl

-- below a universal scope all good values lie in the box
child_all : (g : Game) (b : Bool) (k : Kind) (later : List Scope) (i : ℕ) (a w : List ℤ) (box : Box) → FairPart g b k later i a box → TheMove g i a w box → k ≡ Forall → (u : List ℤ) → Good g later (suc i) w u → InBox u box
child_all g b k later i a w box f m q u good =
    let at = subst (λ z. InBox z box) m.after m.lies in
    let f' = subst (λ j. FairPart g b j later i a box) q f in
    (declared_keeps g later (suc i) (a ++ m.tuple) u box (subst (λ z. Good g later (suc i) z u) m.after good) at (move_count g i a m.tuple f.frame.count m.is_move) (f'.rest m.tuple (a ++ m.tuple) m.is_move refl at)).0

mutual
  pub tree_means : (g : Game) (r : IsSound g) (t : Tree) (later : List Scope) (i : ℕ) (d : List Condition) (box : Box) (b : Bool) (h : Option ℕ) → i + length later ≡ length g.scopes → SeesRight g later i → Asked g later i d → has_empty box ≡ false →
      FairNode g b later i (position g i box) box → IsBlocked g i (position g i box) box h → IsTrue (in_place g t later i d box h) → NodeMeans g b later i d (position g i box) box (read g t later i d box)
  tree_means g r (tree z c) later i d box b h len sees v full f blocked e =
      let p = and_parts (horizon_in_place g z later i box h) (body_in_place g c later i d box (horizon_below z h)) e in
      body_means g r c later i d box b (horizon_below z h) len sees v full f
      (blocked_below g r.table r.ordered z later i (position g i box) box h f.frame.count f.frame.within full p.0 blocked) p.1

  body_means : (g : Game) (r : IsSound g) (c : Body) (later : List Scope) (i : ℕ) (d : List Condition) (box : Box) (b : Bool) (h : Option ℕ) → i + length later ≡ length g.scopes → SeesRight g later i → Asked g later i d → has_empty box ≡ false →
      FairNode g b later i (position g i box) box → IsBlocked g i (position g i box) box h → IsTrue (body_in_place g c later i d box h) → NodeMeans g b later i d (position g i box) box (read_body g c later i d box)
  body_means g r stuck later i d box b h len sees v full f blocked e =
      record { verdict = stuck_node g r.ordered later i d (position g i box) box b h len blocked e full f; own = stuck_own g later d (position g i box); once = stuck_once later g d (position g i box) }
  body_means g r goal [] i d box b h len sees v full f blocked e =
      record { verdict = goal_node g i d (position g i box) box b v.0 (front_in g i (position g i box) box f.frame full); own = tt; once = tt }
  body_means g r goal (s ∷ later) i d box b h len sees v full f blocked e = absurd (differ (and_parts (not (is_horizon h i)) false e).1)
  body_means g r (cases steps end) [] i d box b h len sees v full f blocked e =
      let p = and_parts _ (ending_in_place g end [] i d (after_steps steps box) h) e in
      let p1 = and_parts _ (steps_in_place g [] i d steps box) p.0 in
      absurd (differ (and_parts (not (is_horizon h i)) false p1.0).1)
  body_means g r (cases steps end) (s ∷ later) i d box b h len sees v full f blocked e =
      let p = and_parts _ (ending_in_place g end (s ∷ later) i d (after_steps steps box) h) e in
      let p1 = and_parts _ (steps_in_place g (s ∷ later) i d steps box) p.0 in
      let a = position g i box in
      let after = after_steps steps box in
      let x = list_after g (s ∷ later) d in
      let up : suc i + length later ≡ length g.scopes = omega arith in
      let w = after_asked g later s.kind s.condition i d v sees.0 in
      let part = enter g b s.kind s.condition later i a box full f in
      let part1 = steps_fair g r s later i x a up w.0 (tracked_variable g (s ∷ later) i x) refl steps (bounded_within s.kind b) box p1.1 part in
      let m = ending_means g r end s later i d after a (flag_after steps (bounded_within s.kind b)) h up sees v part1 (blocked_less g i a box after h (steps_widen steps box) blocked) p.1 in
      kind_node g r later i d a box b s.kind s.condition (marks g (s ∷ later) i d steps box ++ leaves g end (s ∷ later) i d after)
      (steps_mean g r s later i x a up w.0 (tracked_variable g (s ∷ later) i x) refl steps (bounded_within s.kind b) box (leaves g end (s ∷ later) i d after) p1.1 part m) f full v

  -- later has the scopes after i
  pub ending_means : (g : Game) (r : IsSound g) (end : Ending) (s : Scope) (later : List Scope) (i : ℕ) (d : List Condition) (box : Box) (a : List ℤ) (b : Bool) (h : Option ℕ) → suc i + length later ≡ length g.scopes →
      SeesRight g (s ∷ later) i → Asked g (s ∷ later) i d → FairPart g b s.kind later i a box → IsBlocked g i a box h → IsTrue (ending_in_place g end (s ∷ later) i d box h) →
      LeavesMean g b s.kind later i (list_after g (s ∷ later) d) a box (leaves g end (s ∷ later) i d box)
  ending_means g r empty s later i d box a b h len sees v f blocked e = empty_mean g b s.kind later i (list_after g (s ∷ later) d) a box r.ordered.no_empty f e
  ending_means g r barred s later i d box a b h len sees v f blocked e =
      let p = and_parts (not (has_empty box) && is_fixed g i box) (not (allows g i (position g (suc i) box))) e in
      let q = and_parts (not (has_empty box)) (is_fixed g i box) p.0 in
      barred_mean g b s.kind later i (list_after g (s ∷ later) d) a box f.frame (all_fixed g i a box f.frame (not_true (has_empty box) q.0) q.1) (not_true (allows g i (position g (suc i) box)) p.1)
  ending_means g r (next u) s later i d box a b h len sees v f blocked e =
      let p = and_parts _ (in_place g u later (suc i) (list_after g (s ∷ later) d) box h) e in
      let p2 = and_parts _ (allows g i (position g (suc i) box)) p.0 in
      let q = and_parts (not (has_empty box)) (is_fixed g i box) p2.0 in
      let full = not_true (has_empty box) q.0 in
      let fixed = all_fixed g i a box f.frame full q.1 in
      let m = the_move g i a box f.frame full q.1 p2.1 in
      let w = position g (suc i) box in
      let x = list_after g (s ∷ later) d in
      let child = tree_means g r u later (suc i) x box b h len sees.1 (after_asked g later s.kind s.condition i d v sees.0) full (child_fair g b s.kind later i a w box f fixed refl m)
      (blocked_next g i a m.tuple w box h m.after m.is_move blocked) p.1 in
      next_mean g b s.kind later i x a w box (read g u later (suc i) x box) f.frame fixed refl m (child_all g b s.kind later i a w box f m) child.verdict child.once
  ending_means g r (branch x bs) s later i d box a b h len sees v f blocked e =
      let p = and_parts _ (branches_in_place g bs x.0 (values_left box x.0) (s ∷ later) i d box h) e in
      let p1 = and_parts _ (not (is_single (values_left box x.0))) p.0 in
      let p2 = and_parts (not (has_empty box)) (is_of_scope g i x.0) p1.0 in
      let q = in_scope g i x.0 p2.1 in
      let m = branches_mean g r bs x.0 (values_left box x.0) s later i d box a b h len sees v f blocked (not_true (has_empty box) p2.0) q.0 q.1 (get_distinct box x.0 f.frame.distinct) (λ u k. k) p.1 in
      subst (λ c. LeavesMean g b s.kind later i (list_after g (s ∷ later) d) a c (branch_leaves g bs x.0 (values_left box x.0) (s ∷ later) i d box)) (set-get_or box x.0 []) m

  branches_mean : (g : Game) (r : IsSound g) (bs : Branches) (x : ℕ) (vs : List ℤ) (s : Scope) (later : List Scope) (i : ℕ) (d : List Condition) (box : Box) (a : List ℤ) (b : Bool) (h : Option ℕ) → suc i + length later ≡ length g.scopes →
      SeesRight g (s ∷ later) i → Asked g (s ∷ later) i d → FairPart g b s.kind later i a box → IsBlocked g i a box h → has_empty box ≡ false → before g i ≤ x → x < before g (suc i) → Distinct vs →
      ((u : ℤ) → Among u vs → Among u (values_left box x)) → IsTrue (branches_in_place g bs x vs (s ∷ later) i d box h) →
      LeavesMean g b s.kind later i (list_after g (s ∷ later) d) a (set box x vs) (branch_leaves g bs x vs (s ∷ later) i d box)
  branches_mean g r no_more x [] s later i d box a b h len sees v f blocked full low high new sub e = none_mean g b s.kind later i (list_after g (s ∷ later) d) a box x f.frame.count high
  branches_mean g r no_more x (n ∷ vs) s later i d box a b h len sees v f blocked full low high new sub e = absurd (differ e)
  branches_mean g r (piece upto c bs) x vs s later i d box a b h len sees v f blocked full low high new sub e =
      let us = covered upto vs in
      let rest = uncovered upto vs in
      let q : us ++ rest ≡ vs = take-append-drop (cover upto vs) vs in
      let p = and_parts _ (branches_in_place g bs x rest (s ∷ later) i d box h) e in
      let p1 = and_parts (is_cover upto vs) (case_in_place g c x us (s ∷ later) i d box h) p.0 in
      let parts = distinct_parts us rest (subst Distinct (sym q) new) in
      let y = list_after g (s ∷ later) d in
      let one = case_means g r c x us s later i d box a b h len sees v f blocked full low high parts.first (λ u k. sub u (subst (Among u) q (among_left u us rest k))) p1.1 in
      let others = branches_mean g r bs x rest s later i d box a b h len sees v f blocked full low high parts.second (λ u k. sub u (subst (Among u) q (among_right u us rest k))) p.1 in
      subst (λ z. LeavesMean g b s.kind later i y a (set box x z) (branch_leaves g (piece upto c bs) x vs (s ∷ later) i d box)) q
      (case_mean g b s.kind later i y a box x us rest (case_leaves g c (s ∷ later) i d (box_to box x us)) (branch_leaves g bs x rest (s ∷ later) i d box) f.frame.count high parts.none one others)

  case_means : (g : Game) (r : IsSound g) (c : Case) (x : ℕ) (us : List ℤ) (s : Scope) (later : List Scope) (i : ℕ) (d : List Condition) (box : Box) (a : List ℤ) (b : Bool) (h : Option ℕ) → suc i + length later ≡ length g.scopes →
      SeesRight g (s ∷ later) i → Asked g (s ∷ later) i d → FairPart g b s.kind later i a box → IsBlocked g i a box h → has_empty box ≡ false → before g i ≤ x → x < before g (suc i) → Distinct us →
      ((u : ℤ) → Among u us → Among u (values_left box x)) → IsTrue (case_in_place g c x us (s ∷ later) i d box h) →
      LeavesMean g b s.kind later i (list_after g (s ∷ later) d) a (set box x us) (case_leaves g c (s ∷ later) i d (set box x us))
  case_means g r skip x us s later i d box a b h len sees v f blocked full low high new sub e = skipped_mean g b s.kind later i (list_after g (s ∷ later) d) a (set box x us)
  case_means g r left_open x us s later i d box a b h len sees v f blocked full low high new sub e = skipped_mean g b s.kind later i (list_after g (s ∷ later) d) a (set box x us)
  case_means g r (go steps end) x us s later i d box a b h len sees v f blocked full low high new sub e =
      let small = set box x us in
      let after = after_steps steps small in
      let p = and_parts _ (ending_in_place g end (s ∷ later) i d after h) e in
      let p1 = and_parts (nat_lt (length us) (length (values_left box x))) (steps_in_place g (s ∷ later) i d steps small) p.0 in
      let y = list_after g (s ∷ later) d in
      let t = tracked_variable g (s ∷ later) i y in
      let w = after_asked g later s.kind s.condition i d v sees.0 in
      let part = narrow_fair g b s.kind later i a box x us low high new sub full f in
      let part1 = steps_fair g r s later i y a len w.0 t refl steps b small p1.1 part in
      let less = blocked_less g i a box after h (λ u k. some_widen box x us u sub (steps_widen steps small u k)) blocked in
      let one = ending_means g r end s later i d after a (flag_after steps b) h len sees v part1 less p.1 in
      steps_mean g r s later i y a len w.0 t refl steps b small (leaves g end (s ∷ later) i d after) p1.1 part one
