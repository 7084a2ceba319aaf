-- The whole tree proves what the search answers, and is in order.
use Rattle.std.proofs.Common.{◌≡◌, ◌≤◌, ◌<◌, ◌+◌, ◌*◌, ◌^◌, ◌&&◌, ◌∙◌, inl, inr, ℕ, zero, suc, true, false, not, cond, List, [], ◌∷◌, ◌++◌, map, length, refl, ap, arith, Option, Some, None, min, Bool, ℤ, subst, sym}
use Rattle.std.specs.Prelude.{is_some, ◌==◌, ◌⊎◌, IsTrue, nat_le}
use Rattle.std.specs.Ordering.{int_eq}
use Rattle.std.specs.List.{list_all}
use Rattle.std.proofs.lemmas.Bool.Decides.{nat_tests, Decides-int_eq}
use Rattle.std.proofs.lemmas.Bool.{and_from, and_parts}
use Rattle.qc_model.specs.declared.problem.Kind.{Kind}
use Rattle.qc_model.specs.declared.problem.Kind.TheVariants.{Exists, Forall}
use Rattle.qc_model.specs.declared.problem.Condition.{Condition}
use Rattle.qc_model.specs.declared.problem.Scope.{Scope}
use Rattle.qc_model.specs.Content.{Game}
use Rattle.qc_model.specs.Block.{of_kind}
use Rattle.qc_model.specs.Demands.{demands_after}
use Rattle.qc_model.specs.Domains.{Box, declared_box}
use Rattle.qc_model.specs.ExistsVerdict.{exists_verdict, best_vector, some_open, beats, without_own}
use Rattle.qc_model.specs.ForallVerdict.{goal_verdict}
use Rattle.qc_model.specs.Game.{allows}
use Rattle.qc_model.specs.Turns.{value_product, full_turns_of}
use Rattle.qc_model.specs.Verdict.{Verdict, lost, exact, at_most, unknown, is_exact, is_lost, is_unknown, some_node, each_node, exact_vectors, bounds, is_none_of, first_value}
use Rattle.proof_tree.specs.Tree.{Tree, tree, Body, stuck, goal, cases, Ending, empty, barred, next, branch, Branches, no_more, piece, Case, skip, left_open as open_case, go}
use Rattle.proof_tree.specs.Pieces.{is_go, is_open, each_case, goes_at_one}
use Rattle.proof_tree.specs.Place.{position}
use Rattle.proof_tree.specs.Steps.{after_steps}
use Rattle.proof_tree.specs.Finding.{Finding, Leaf, seen_of, kind_finding, kind_stuck}
use Rattle.proof_tree.specs.Read.{read, root_finding, marks, leaves}
use Rattle.proof_tree.specs.InPlace.{in_place, root_in_place, horizon_in_place, horizon_below, is_horizon}
use Rattle.proof_tree.specs.Counts.{body_count, ending_count, branch_count, case_count, turns_of, opens_of, cases_of}
use Rattle.proof_tree.specs.Proves.{optimises_first, is_value, shows, proves}
use Rattle.proof_tree.specs.Lines.{tree_lines}
use Rattle.proof_tree.specs.Meaning.{OutcomeMeans}
use Rattle.proof_tree.specs.Text.{tree_fits, outcome_fits}
use Rattle.proof_tree.specs.declared.line.Line.{Line}
use Rattle.proof_tree.specs.declared.tree.Outcome.{Outcome}
use Rattle.proof_tree.specs.declared.tree.Outcome.TheVariants.{True, False, Open}
use Rattle.proof_tree.specs.declared.tree.Version.{Version}
use Rattle.proof_tree.specs.declared.tree.Version.TheVariants.{Two}
use Rattle.joins.specs.Seen.{verdict_of}
use Rattle.joins.specs.declared.leaves.Found.{Found}
use Rattle.strategy_arena.specs.Certificate.{line_fits}
use Rattle.game_search.specs.Attempted.{Attempted}
use Rattle.search_parts.specs.Made.{NodeMade}
use Rattle.search_parts.specs.Own.{IsOwnSized}
use Rattle.search_parts.specs.Settled.{beats_none, is_vague_verdict}
use Rattle.game_search.specs.Solution.{Solution, SolutionLines, OpenMeans, outcome_by}
use Rattle.search_parts.specs.Written.{NodeWritten}
use Rattle.search_parts.proofs.Bools.{is_below}

same_value : (v : ℤ) → int_eq v v ≡ true
same_value v = (Decides-int_eq v v).1 refl

-- cases that are taken and cases that are open are cases
both_counts : (a b c d e f : ℕ) → a + b ≤ e → c + d ≤ f → (a + c) + (b + d) ≤ e + f
both_counts a b c d e f h k = omega arith

mutual
  pub tree_cases : (t : Tree) → turns_of t + opens_of t ≤ cases_of t
  tree_cases (tree z c) = body_cases c

  body_cases : (c : Body) → body_count is_go c + body_count is_open c ≤ body_count (λ x. true) c
  body_cases stuck = omega arith
  body_cases goal = omega arith
  body_cases (cases steps end) = ending_cases end

  ending_cases : (e : Ending) → ending_count is_go e + ending_count is_open e ≤ ending_count (λ x. true) e
  ending_cases empty = omega arith
  ending_cases barred = omega arith
  ending_cases (next t) = tree_cases t
  ending_cases (branch x bs) = branches_cases bs

  branches_cases : (bs : Branches) → branch_count is_go bs + branch_count is_open bs ≤ branch_count (λ x. true) bs
  branches_cases no_more = omega arith
  branches_cases (piece upto c bs) = both_counts _ _ _ _ _ _ (case_cases c) (branches_cases bs)

  case_cases : (c : Case) → case_count is_go c + case_count is_open c ≤ case_count (λ x. true) c
  case_cases skip = omega arith
  case_cases open_case = omega arith
  case_cases (go steps end) = let h = ending_cases end in omega (arith, h)

same_number : (m n : ℕ) → m ≡ n → (m == n) ≡ true
same_number m n e = grind (arith, nat_tests)

below_or : (m n : ℕ) → (min m n < n) ⊎ (min m n ≡ n)
below_or zero zero = inr (omega arith)
below_or zero (suc n) = inl (omega arith)
below_or (suc m) zero = inr (omega arith)
below_or (suc m) (suc n) = elim (below_or m n) [ inl h ↦ inl (omega arith) | inr h ↦ inr (omega arith) ]

-- the game can take more turns, where a case more was open
below_full : (m n k : ℕ) → n ≤ 10000000 → n + 1 ≤ k → (min m (2 ^ 63) < 2 ^ 63 → k ≤ min m (2 ^ 63)) → n < min m (2 ^ 63)
below_full m n k small more few = elim (below_or m (2 ^ 63)) [ inl h ↦ let r = few h in omega (arith, r, more) | inr h ↦ omega (arith, h, small) ]

-- as the law of certificates has it
abbrev HasFewCases : Game → Type 0
HasFewCases g = (t : Tree) → IsTrue (root_in_place g t) → IsTrue (each_case goes_at_one t) → full_turns_of g < 2 ^ 63 → cases_of t ≤ full_turns_of g

-- as the law of meanings has it, and that of lines
abbrev HasMeanings : Game → Type 0
HasMeanings g = (outcome : Outcome) (optimum : Option ℤ) (t : Tree) → IsTrue (proves g outcome optimum t) → OutcomeMeans outcome optimum g t

abbrev pub HaveFits : Type 0
HaveFits = (version : Version) (t : Tree) → IsTrue (tree_fits version t) → IsTrue (list_all line_fits (tree_lines t))

pub at_least : (m n : ℕ) → m ≤ n → nat_le m n ≡ true
at_least m n h = grind (arith, nat_tests)

-- what a root's own value says beside its verdict
pub record OwnSays (optimises : Bool) (v : Verdict) (own : Option ℤ) : Type 0 where
  pub known : is_exact v ≡ true → is_some own ≡ optimises
  pub none : is_exact v ≡ false → own ≡ None

pub own_says : (g : Game) (t : Tree) (later : List Scope) (i : ℕ) (d : List Condition) (box : Box) (h : Option ℕ) → in_place g t later i d box h ≡ true → OwnSays (optimises_first later) (read g t later i d box).verdict (read g t later i d box).own
own_says g (tree z stuck) [] i d box h e = record { known = λ f. cc; none = λ f. refl }
own_says g (tree z stuck) (s ∷ later) i d box h e = by s.kind s.condition
  where
    by : (k : Kind) (c : Option Condition) → OwnSays (of_kind k (is_some c) false) (kind_stuck k g d (position g i box)).verdict (kind_stuck k g d (position g i box)).own
    by Exists c = record { known = λ f. cc; none = λ f. refl }
    by Forall c = record { known = λ f. refl; none = λ f. refl }
own_says g (tree z goal) [] i d box h e = record { known = λ f. refl; none = λ f. refl }
own_says g (tree z goal) (s ∷ later) i d box h e =
    let body = and_parts (horizon_in_place g z (s ∷ later) i box h) _ e in
    let scope = and_parts (not (is_horizon (horizon_below z h) i)) false body.1 in
    absurd cc
own_says g (tree z (cases steps end)) [] i d box h e = record { known = λ f. cc; none = λ f. refl }
own_says g (tree z (cases steps end)) (s ∷ later) i d box h e = by s.kind s.condition
  where
    ls : List Leaf
    ls = marks g (s ∷ later) i d steps box ++ leaves g end (s ∷ later) i d (after_steps steps box)

    as_tested : (v : Verdict) (w : ℤ) → OwnSays true v (cond (is_exact v) (Some w) None)
    as_tested v w = record { known = λ f. ap (λ b. is_some (cond b (Some w) None)) f; none = λ f. ap (λ b. cond b (Some w) None) f }

    by : (k : Kind) (c : Option Condition) → OwnSays (of_kind k (is_some c) false) (kind_finding k c g i d (position g i box) ls).verdict (kind_finding k c g i d (position g i box) ls).own
    by Exists None = record { known = λ f. refl; none = λ f. refl }
    by Exists (Some c) =
        let dd = demands_after g Exists (Some c) d in
        as_tested (exists_verdict (Some c) dd (map seen_of ls)) (first_value (best_vector dd (exact_vectors (map seen_of ls))))
    by Forall c = record { known = λ f. refl; none = λ f. refl }

-- a root, of which nothing is demanded, never comes to a bound
sure : (g : Game) (t : Tree) (later : List Scope) (i : ℕ) (box : Box) → is_vague_verdict beats_none (read g t later i [] box).verdict ≡ true → is_unknown (read g t later i [] box).verdict ≡ true
sure g (tree z stuck) [] i box e = cc
sure g (tree z stuck) (s ∷ later) i box e = by s.kind e
  where
    by : (k : Kind) → is_vague_verdict beats_none (kind_stuck k g [] (position g i box)).verdict ≡ true → is_unknown (kind_stuck k g [] (position g i box)).verdict ≡ true
    by Exists e = cc
    by Forall e = cc
sure g (tree z goal) later i box e = by (allows g i (position g i box)) e
  where
    by : (b : Bool) → is_vague_verdict beats_none (goal_verdict g b [] (position g i box)) ≡ true → is_unknown (goal_verdict g b [] (position g i box)) ≡ true
    by true e = cc
    by false e = cc
sure g (tree z (cases steps end)) [] i box e = refl
sure g (tree z (cases steps end)) (s ∷ later) i box e = by s.kind s.condition e
  where
    ls : List Leaf
    ls = marks g (s ∷ later) i [] steps box ++ leaves g end (s ∷ later) i [] (after_steps steps box)

    two_tests : (a b : Bool) (v w : Verdict) → is_vague_verdict beats_none v ≡ false → is_vague_verdict beats_none w ≡ false → is_vague_verdict beats_none (cond a v (cond b w unknown)) ≡ true → is_unknown (cond a v (cond b w unknown)) ≡ true
    two_tests true b v w p q e = cc
    two_tests false true v w p q e = cc
    two_tests false false v w p q e = refl

    three_tests : (a b c : Bool) (w : List ℤ) → is_vague_verdict beats_none (cond a lost (cond b unknown (cond c (exact w) unknown))) ≡ true → is_unknown (cond a lost (cond b unknown (cond c (exact w) unknown))) ≡ true
    three_tests true b c w e = cc
    three_tests false true c w e = refl
    three_tests false false true w e = cc
    three_tests false false false w e = refl

    by : (k : Kind) (c : Option Condition) → is_vague_verdict beats_none (kind_finding k c g i [] (position g i box) ls).verdict ≡ true → is_unknown (kind_finding k c g i [] (position g i box) ls).verdict ≡ true
    by Exists None e = two_tests (some_node is_exact (map seen_of ls)) (each_node is_lost (map seen_of ls)) (exact []) lost refl refl e
    by Exists (Some c) e =
        let xs = map seen_of ls in
        let v = best_vector (c ∷ []) (exact_vectors xs) in
        three_tests (each_node is_lost xs && is_none_of (bounds xs)) (some_open xs) (not (is_none_of (exact_vectors xs)) && list_all (beats c.sense true (first_value v)) (bounds xs)) (without_own (Some c) v) e
    by Forall c e = two_tests (some_node is_lost (map seen_of ls)) (each_node is_exact (map seen_of ls)) lost _ refl refl e

module _ (cuts : Bool) (g : Game) (turns : ℕ) (some : 1 ≤ turns) (small : turns ≤ 10000000) (few : HasFewCases g) (meanings : HasMeanings g) (fitting : HaveFits) where
  -- a certificate of the second version that proves the outcome
  whole : (outcome : Outcome) (v : Verdict) (own : Option ℤ) (left : ℕ) (t : Tree) → NodeMade cuts beats_none g g.scopes 0 [] (declared_box g) None v turns left t → IsTrue (proves g outcome own t) → outcome_fits outcome own ≡ true → OpenMeans outcome g turns t →
      Solution g turns outcome own t
  whole outcome v own left t m shown fits spent = record {
    proves = shown;
    in_order = and_from _ _ (and_from _ _ (and_from _ _ m.lasts m.ones) m.apart) m.settled;
    diligent = record { closed = m.closed; foreseen = m.foreseen };
    incumbents = m.keeps;
    few = omega (arith, m.spent);
    spent = spent;
    means = meanings outcome own t shown;
    has_text = and_from _ _ fits m.fits;
  }

  pub solved : (v : Verdict) (own : Option ℤ) (left : ℕ) (lines : List Line) → (is_vague_verdict beats_none v ≡ true → cuts ≡ false) → (w : NodeWritten cuts beats_none g g.scopes 0 [] (declared_box g) None v turns left [] lines) → (root_finding g w.tree).own ≡ own →
      SolutionLines g turns (outcome_by v turns) own lines
  solved v own left lines surely w has_own = record {
    tree = w.tree;
    is_lines = w.lines;
    fits = subst (λ ls. list_all line_fits ls ≡ true) (sym w.lines) (fitting Two w.tree w.made.fits);
    solution = by v own surely w.made (subst (λ o. OwnSays (optimises_first g.scopes) v o) has_own (subst (λ u. OwnSays (optimises_first g.scopes) u f.own) w.made.verdict says)) (subst (IsOwnSized (suc (2 * turns_of w.tree))) has_own w.made.own) has_own;
  }
    where
      f : Finding
      f = root_finding g w.tree

      says : OwnSays (optimises_first g.scopes) f.verdict f.own
      says = own_says g w.tree g.scopes 0 [] (declared_box g) None w.made.placed

      spent_all : ((opens_of w.tree ≡ 0) ⊎ (left ≡ 0)) → ¬ (opens_of w.tree ≡ 0) → left ≡ 0
      spent_all (inl e) h = absurd (h e)
      spent_all (inr e) h = e

      shown_true : (own : Option ℤ) → is_some own ≡ optimises_first g.scopes → is_exact f.verdict ≡ true → f.own ≡ own → shows g w.tree f True own ≡ true
      shown_true None e q r = and_from _ _ q (ap not (sym e))
      shown_true (Some o) e q r = and_from _ _ (and_from _ _ q (sym e)) (ap (is_value o) r ∙ same_value o)

      fits_true : (own : Option ℤ) → IsOwnSized (suc (2 * turns_of w.tree)) own → turns_of w.tree + left ≤ turns → outcome_fits True own ≡ true
      fits_true None e q = refl
      fits_true (Some o) e q = at_least _ _ (omega (arith, e, q, small))

      left_open : (v : Verdict) (own : Option ℤ) → is_vague_verdict beats_none v ≡ true → own ≡ None → cuts ≡ false → NodeMade cuts beats_none g g.scopes 0 [] (declared_box g) None v turns left w.tree → Solution g turns (Open turns) own w.tree
      left_open v own q e uncut m =
          let some_open : ¬ (opens_of w.tree ≡ 0) = λ o. let r : false ≡ true = sym (m.gap o) ∙ q in absurd cc in
          let none_left : left ≡ 0 = spent_all m.opens some_open in
          let least = m.exact uncut in
          let all : turns_of w.tree ≡ turns = omega (arith, m.spent, least, none_left) in
          let cases_more = tree_cases w.tree in
          let unknown_there = sure g w.tree g.scopes 0 (declared_box g) (ap (is_vague_verdict beats_none) m.verdict ∙ q) in
          subst (λ o. Solution g turns (Open turns) o w.tree) (sym e)
          (whole (Open turns) v None left w.tree m
          (and_from _ _ m.placed (and_from _ _ (and_from _ _ unknown_there (same_number (turns_of w.tree) turns all)) (is_below 0 (opens_of w.tree) (omega (arith, some_open)))))
          (and_from _ _ (at_least 1 turns some) (at_least turns 10000000 small))
          (record { all = refl; taken = all; below = below_full (length g.variables * value_product g.variables) turns (cases_of w.tree) small (omega (arith, all, some_open, cases_more)) (few w.tree m.placed m.ones) }))

      by : (v : Verdict) (own : Option ℤ) → (is_vague_verdict beats_none v ≡ true → cuts ≡ false) → NodeMade cuts beats_none g g.scopes 0 [] (declared_box g) None v turns left w.tree → OwnSays (optimises_first g.scopes) v own → IsOwnSized (suc (2 * turns_of w.tree)) own → f.own ≡ own →
          Solution g turns (outcome_by v turns) own w.tree
      by (exact u) own surely m o sized h = whole True (exact u) own left w.tree m (and_from _ _ m.placed (shown_true own (o.known refl) (ap is_exact m.verdict) h)) (fits_true own sized m.spent) tt
      by lost own surely m o sized h =
          subst (λ n. Solution g turns False n w.tree) (sym (o.none refl)) (whole False lost None left w.tree m (and_from _ _ m.placed (ap is_lost m.verdict)) refl tt)
      by (at_most p) own surely m o sized h = left_open (at_most p) own refl (o.none refl) (surely refl) m
      by unknown own surely m o sized h = left_open unknown own refl (o.none refl) (surely refl) m

  pub solution_of : (found : Found) (own : Option ℤ) (outcome : Outcome) (optimum : Option ℤ) (shown lines : List Line) → ((v : List ℤ) → is_vague_verdict beats_none (verdict_of found v) ≡ true → cuts ≡ false) → Attempted cuts g turns found own shown →
      ((v : List ℤ) → outcome ≡ outcome_by (verdict_of found v) turns) → optimum ≡ own → lines ≡ shown → SolutionLines g turns outcome optimum lines
  solution_of found own outcome optimum shown lines surely a e f h =
      let v = verdict_of found a.vector in
      subst (λ o. SolutionLines g turns o optimum lines) (sym (e a.vector))
      (subst (λ n. SolutionLines g turns (outcome_by v turns) n lines) (sym f) (subst (λ ls. SolutionLines g turns (outcome_by v turns) own ls) (sym h) (solved v own a.left shown (surely a.vector) a.root a.has_own)))
