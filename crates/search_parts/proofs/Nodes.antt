-- What a node's record, and that of a part of its own tree, follows from: one lemma for each line.
use Rattle.std.proofs.Common.{◌≡◌, ◌≤◌, Some, inl, ℕ, suc, Bool, true, false, not, ◌&&◌, List, [], ◌∷◌, refl, sym, ap, subst, ◌∙◌, arith, Option, None, ◌++◌, ◌*◌, ℤ}
use Rattle.std.specs.Prelude.{◌==◌, nat_le}
use Rattle.std.proofs.lemmas.Bool.Decides.{nat_tests}
use Rattle.std.proofs.lemmas.Bool.{and_from, not_from_false, or_from}
use Rattle.qc_model.specs.declared.problem.Condition.{Condition}
use Rattle.qc_model.specs.declared.problem.Scope.{Scope}
use Rattle.qc_model.specs.declared.problem.VarId.{VarId}
use Rattle.qc_model.specs.Content.{Game}
use Rattle.qc_model.specs.Block.{constraints_in_force}
use Rattle.qc_model.specs.Closed.{is_closed}
use Rattle.qc_model.specs.Demands.{demands}
use Rattle.qc_model.specs.Domains.{Box, values_left, is_single, has_empty}
use Rattle.qc_model.specs.Game.{allows, is_of_scope}
use Rattle.qc_model.specs.Verdict.{Verdict, lost, exact, at_most, unknown, Seen, seen_barred, seen_node, is_unknown, bounds}
use Rattle.qc_model.specs.ExistsVerdict.{some_open}
use Rattle.qc_model.specs.ForallVerdict.{goal_verdict}
use Rattle.proof_tree.specs.Tree.{Tree, tree, goal, cases, Ending, barred, next, branch, Branches, Body, stuck, empty}
use Rattle.proof_tree.specs.Counts.{turns_of, ending_turns, branch_turns, ending_opens}
use Rattle.proof_tree.specs.Diligent.{SeesAhead}
use Rattle.proof_tree.specs.Finding.{stuck_finding}
use Rattle.proof_tree.specs.Incumbents.{has_no_worse}
use Rattle.proof_tree.specs.Place.{position, is_fixed, is_fixed_to, is_goal, next_scopes, list_after, tracked_variable}
use Rattle.proof_tree.specs.InPlace.{is_horizon, horizon_in_place, horizon_below}
use Rattle.proof_tree.specs.Read.{read, leaves, marks}
use Rattle.proof_tree.specs.Steps.{after_steps}
use Rattle.proof_tree.specs.Order.{skips}
use Rattle.proof_tree.specs.Text.{is_place, horizon_fits}
use Rattle.proof_tree.specs.declared.tree.Step.{Step}
use Rattle.proof_tree.specs.declared.tree.Horizon.{Horizon}
use Rattle.joins.specs.Joins.{IsLong}
use Rattle.joins.specs.Sizes.{EachHas, IsSized}
use Rattle.joins.specs.Verdicts.{scope_verdict, scope_wishes}
use Rattle.search_parts.specs.Beaten.{firsts, seen_bounds, is_beaten, are_beaten}
use Rattle.search_parts.specs.Own.{IsOwnSized}
use Rattle.search_parts.specs.Settled.{is_ended, is_vague_verdict}
use Rattle.search_parts.specs.Made.{NodeMade, EndingMade, PartMade, BoundedMade, CasesMade}
use Rattle.search_parts.proofs.Beating.{among_none, among_self, among_more, among_as, beaten_among, no_worse_among}
use Rattle.search_parts.proofs.Joining.{verdict_so, not_unknown}
use Rattle.search_parts.proofs.Marks.{firsts-append}
use Rattle.search_parts.specs.Bounded.{Outdoes}
use Rattle.search_parts.proofs.Outdone.{ended_sure, decided}
use Rattle.search_parts.proofs.Sizes.{sizes_of, sizes_none, sizes_barred, sizes_more}
use Rattle.search_parts.proofs.Stepping.{bounded_says, part_long, part_beaten}

-- where the horizon in force is here, it is at most whatever lies ahead
sees_here : (g : Game) (later : List Scope) (i : ℕ) (box : Box) (h : Option ℕ) → is_horizon h i ≡ true → SeesAhead g later i box h
sees_here g [] i box h e = tt
sees_here g (s ∷ later) i box None e = cc
sees_here g (s ∷ later) i box (Some n) e = λ k from upto none. at_most n i k e from
  where
    at_most : (n i k : ℕ) → (n == i) ≡ true → i ≤ k → nat_le n k ≡ true
    at_most n i k e h = grind (arith, nat_tests)

-- a node's bound that isn't vague is beaten by the exact leaves before it
bound_beaten : (w : List Condition) (before : List Seen) (v : Verdict) → is_vague_verdict (is_beaten w (firsts before)) v ≡ false → are_beaten w (firsts (before ++ seen_node v ∷ [])) (bounds (seen_node v ∷ [])) ≡ true
bound_beaten w before lost e = refl
bound_beaten w before (exact v) e = refl
bound_beaten w before (at_most p) e =
    let more = among_as (firsts before) (firsts before ++ []) (firsts (before ++ seen_node (at_most p) ∷ [])) (sym (firsts-append before (seen_node (at_most p) ∷ []))) (among_more (firsts before) (firsts before) [] (among_self (firsts before))) in
    beaten_among w (firsts before) (firsts (before ++ seen_node (at_most p) ∷ [])) (p ∷ []) more (and_from _ _ (unnot (is_beaten w (firsts before) p) e) refl)
  where
    unnot : (b : Bool) → not b ≡ false → b ≡ true
    unnot true e = refl
    unnot false e = cc
bound_beaten w before unknown e = cc

pub goal_made : (cuts : Bool) (above : ℤ → Bool) (g : Game) (i : ℕ) (d : List Condition) (box : Box) (h : Option ℕ) (had : ℕ) (v : Verdict) → is_horizon h i ≡ false → goal_verdict g (allows g i (position g i box)) d (position g i box) ≡ v →
    IsLong g i v → IsSized 1 v → NodeMade cuts above g [] i d box h v had had (tree None goal)
goal_made cuts above g i d box h had v f e long sized = record {
  placed = and_from _ _ (not_from_false (is_horizon h i) f) refl;
  verdict = e;
  settled = refl;
  lasts = refl;
  ones = refl;
  apart = refl;
  fits = refl;
  spent = omega arith;
  exact = λ f. omega arith;
  opens = inl refl;
  gap = λ o. ap (is_vague_verdict above) (sym e) ∙ by (allows g i (position g i box));
  long = long;
  sized = sized;
  own = tt;
  keeps = refl;
  closed = refl;
  foreseen = (tt, tt);
}
  where
    by : (b : Bool) → is_vague_verdict above (goal_verdict g b d (position g i box)) ≡ false
    by true = refl
    by false = refl

module _ (cuts : Bool) (above : ℤ → Bool) (g : Game) (later : List Scope) (i : ℕ) (d : List Condition) (h : Option ℕ) where
  -- a node of a scope, by its own tree, where it is known what the node comes to: its steps may have marks that nothing beats yet
  pub node_made : is_goal later ≡ false → list_after g later d ≡ demands g (suc i) → is_horizon h i ≡ false → Outdoes g later d above → (box : Box) (ms : List ℤ) (seen : List Seen) (v : Verdict) (had left : ℕ) (steps : List Step) (e : Ending) → BoundedMade cuts above g later i d box h [] ms seen had left steps e →
      scope_verdict later g d (position g i box) seen ≡ v → (ending_opens e ≡ 0 → is_vague_verdict above v ≡ false) → IsLong g i v → IsSized (suc (2 * ending_turns e)) v → IsOwnSized (suc (2 * ending_turns e)) (read g (tree None (cases steps e)) later i d box).own →
      SeesAhead g later i box h → NodeMade cuts above g later i d box h v had left (tree None (cases steps e))
  node_made scope same f outdoes box ms seen v had left steps e p comes sure long sized own ahead =
      let m = p.ended in
      let lm = marks g later i d steps box in
      let ls = leaves g e later i d (after_steps steps box) in
      let a = position g i box in
      let shown : (read g (tree None (cases steps e)) later i d box).verdict ≡ scope_verdict later g d a seen =
      verdict_so g later i d a (lm ++ ls) ∙ ap (scope_verdict later g d a) (sym (bounded_says cuts above g later i d box h [] ms seen had left steps e p)) in
      record {
        placed = and_from _ _ (and_from _ _ (and_from _ _ (not_from_false (is_horizon h i) f) (not_from_false (is_goal later) scope)) p.stepped.legal) m.placed;
        verdict = shown ∙ comes;
        settled = and_from _ _ (ap (λ u. not (skips e && is_unknown u)) shown ∙ by (skips e) (λ q. ap (is_ended above later (list_after g later d)) p.both ∙ m.skips q)) m.settled;
        lasts = m.lasts;
        ones = m.ones;
        apart = m.apart;
        fits = and_from _ _ p.stepped.fits m.fits;
        spent = m.spent;
        exact = m.exact;
        opens = m.opens;
        gap = sure;
        long = long;
        sized = sized;
        own = own;
        keeps = m.keeps [] (among_none (firsts (seen_bounds ms)));
        closed = m.closed;
        foreseen = (ahead, m.foreseen);
      }
    where
      by : (b : Bool) → (b ≡ true → is_ended above later (list_after g later d) seen ≡ true) → not (b && is_unknown (scope_verdict later g d (position g i box) seen)) ≡ true
      by true f = ap not (ended_sure above g later d (position g i box) seen scope outdoes (f refl))
      by false f = refl

  -- it is known, where no case is open, and no bound is among the steps
  pub part_known : is_goal later ≡ false → list_after g later d ≡ demands g (suc i) → Outdoes g later d above → (box : Box) (seen : List Seen) (v : Verdict) (had left : ℕ) (steps : List Step) (e : Ending) → PartMade cuts above g later i d box h [] [] seen had left steps e →
      scope_verdict later g d (position g i box) seen ≡ v → ending_opens e ≡ 0 → is_vague_verdict above v ≡ false
  part_known scope same outdoes box seen v had left steps e p comes o =
      let each : EachHas (list_after g later d) seen = subst (λ dd. EachHas dd seen) (sym same) (part_long cuts above g later i d box h [] [] seen had left steps e p) in
      ap (is_vague_verdict above) (sym comes)
      ∙ decided above g later d (position g i box) seen scope outdoes (λ q. ap some_open p.both ∙ p.ended.gap o (ap (is_ended above later (list_after g later d)) (sym p.both) ∙ q)) each (part_beaten cuts above g later i d box h [] [] seen had left steps e p o)

  -- a horizon before the node's own lines
  pub horizon_made : (z : Option Horizon) (c : Body) (box : Box) (v : Verdict) (had left : ℕ) → horizon_in_place g z later i box h ≡ true → horizon_fits z ≡ true → NodeMade cuts above g later i d box (horizon_below z h) v had left (tree None c) →
      NodeMade cuts above g later i d box h v had left (tree z c)
  horizon_made z c box v had left f q m = record {
    placed = and_from _ _ f m.placed;
    verdict = m.verdict;
    settled = m.settled;
    lasts = m.lasts;
    ones = m.ones;
    apart = m.apart;
    fits = and_from _ _ q m.fits;
    spent = m.spent;
    exact = m.exact;
    opens = m.opens;
    gap = m.gap;
    long = m.long;
    sized = m.sized;
    own = m.own;
    keeps = m.keeps;
    closed = m.closed;
    foreseen = m.foreseen;
  }

  -- the scope is the horizon
  pub stuck_made : (box : Box) (v : Verdict) (had : ℕ) → is_horizon h i ≡ true → is_vague_verdict above v ≡ false → (stuck_finding later g d (position g i box)).verdict ≡ v → IsLong g i v → IsSized 1 v → IsOwnSized 1 (stuck_finding later g d (position g i box)).own →
      NodeMade cuts above g later i d box h v had had (tree None stuck)
  stuck_made box v had f n e long sized own = record {
    placed = f;
    verdict = e;
    settled = refl;
    lasts = refl;
    ones = refl;
    apart = refl;
    fits = refl;
    spent = omega arith;
    exact = λ f. omega arith;
    opens = inl refl;
    gap = λ o. n;
    long = long;
    sized = sized;
    own = own;
    keeps = refl;
    closed = refl;
    foreseen = (sees_here g later i box h f, tt);
  }

  -- a domain is empty
  pub empty_made : (box : Box) (before : List Seen) (had : ℕ) → has_empty box ≡ true → EndingMade cuts above g later i d box h before [] had had empty
  empty_made box before had f = record {
    placed = f;
    says = refl;
    settled = refl;
    lasts = refl;
    ones = refl;
    apart = refl;
    fits = refl;
    spent = omega arith;
    exact = λ f. omega arith;
    opens = inl refl;
    gap = λ o q. refl;
    skips = λ e. cc;
    beaten = λ o. refl;
    keeps = λ reached a. refl;
    long = tt;
    sizes = sizes_none 1;
    closed = refl;
    foreseen = tt;
  }

  -- a tuple that isn't allowed
  pub barred_made : (box : Box) (before : List Seen) (had : ℕ) → has_empty box ≡ false → is_fixed g i box ≡ true → allows g i (position g (suc i) box) ≡ false →
      EndingMade cuts above g later i d box h before (seen_barred ∷ []) had had barred
  barred_made box before had full fixed refused = record {
    placed = and_from _ _ (and_from _ _ (not_from_false (has_empty box) full) fixed) (not_from_false (allows g i (position g (suc i) box)) refused);
    says = refl;
    settled = refl;
    lasts = refl;
    ones = refl;
    apart = refl;
    fits = refl;
    spent = omega arith;
    exact = λ f. omega arith;
    opens = inl refl;
    gap = λ o q. refl;
    skips = λ e. cc;
    beaten = λ o. refl;
    keeps = λ reached a. refl;
    long = tt;
    sizes = sizes_barred 1;
    closed = refl;
    foreseen = tt;
  }

  -- a tuple that goes on to a node
  pub next_made : (box : Box) (before : List Seen) (v : Verdict) (had left : ℕ) (t : Tree) → has_empty box ≡ false → is_fixed g i box ≡ true → allows g i (position g (suc i) box) ≡ true →
      has_no_worse (tracked_variable g later i (list_after g later d)) (firsts before) box ≡ true → NodeMade cuts (is_beaten (scope_wishes later g d) (firsts before)) g (next_scopes later) (suc i) (list_after g later d) box h v had left t →
      EndingMade cuts above g later i d box h before (seen_node v ∷ []) had left (next t)
  next_made box before v had left t full fixed passes worse m = record {
    placed = and_from _ _ (and_from _ _ (and_from _ _ (not_from_false (has_empty box) full) fixed) passes) m.placed;
    says = ap (λ u. seen_node u ∷ []) (sym m.verdict);
    settled = m.settled;
    lasts = m.lasts;
    ones = m.ones;
    apart = m.apart;
    fits = m.fits;
    spent = m.spent;
    exact = m.exact;
    opens = m.opens;
    gap = λ o q. or_from (is_unknown v) false (not_unknown (is_beaten (scope_wishes later g d) (firsts before)) v (m.gap o)) refl;
    skips = λ e. cc;
    beaten = λ o. bound_beaten (scope_wishes later g d) before v (m.gap o);
    keeps = λ reached a. and_from _ _ (no_worse_among (tracked_variable g later i (list_after g later d)) (firsts before) reached box a worse) m.keeps;
    long = (m.long, tt);
    sizes = sizes_of (suc (2 * turns_of t)) v m.sized;
    closed = m.closed;
    foreseen = m.foreseen;
  }

  -- a branch, by its cases, where the box is closed and the variables of the scope before x have one value left
  pub branch_made : (box : Box) (x : VarId) (before seen : List Seen) (had left : ℕ) (bs : Branches) → has_empty box ≡ false → is_of_scope g i x.0 ≡ true → is_single (values_left box x.0) ≡ false → is_place 500 x.0 ≡ true →
      is_closed (constraints_in_force g later i) box ≡ true → is_fixed_to g i x.0 box ≡ true →
      has_no_worse (tracked_variable g later i (list_after g later d)) (firsts before) box ≡ true → CasesMade cuts above g later i d box h x.0 (values_left box x.0) false before seen had left bs → EndingMade cuts above g later i d box h before seen had left (branch x bs)
  branch_made box x before seen had left bs full own many place closed earlier worse m = record {
    placed = and_from _ _ (and_from _ _ (and_from _ _ (not_from_false (has_empty box) full) own) (not_from_false (is_single (values_left box x.0)) many)) m.placed;
    says = m.says;
    settled = m.settled;
    lasts = m.lasts;
    ones = m.ones;
    apart = m.apart;
    fits = and_from _ _ place m.fits;
    spent = m.spent;
    exact = m.exact;
    opens = m.opens;
    gap = m.gap;
    skips = m.skips;
    beaten = m.beaten;
    keeps = λ reached a. and_from _ _ (no_worse_among (tracked_variable g later i (list_after g later d)) (firsts before) reached box a worse) (m.keeps reached a);
    long = m.long;
    sizes = sizes_more (2 * branch_turns bs) (suc (2 * branch_turns bs)) seen (omega arith) m.sizes;
    closed = and_from _ _ (and_from _ _ closed earlier) m.closed;
    foreseen = m.foreseen;
  }

-- a node, where more turns may have been done
pub more_done : (cuts : Bool) (above : ℤ → Bool) (g : Game) (later : List Scope) (i : ℕ) (d : List Condition) (box : Box) (h : Option ℕ) (v : Verdict) (had more left : ℕ) (t : Tree) → cuts ≡ true → had ≤ more → NodeMade cuts above g later i d box h v had left t → NodeMade cuts above g later i d box h v more left t
more_done cuts above g later i d box h v had more left t cut l m = record {
  placed = m.placed;
  verdict = m.verdict;
  settled = m.settled;
  lasts = m.lasts;
  ones = m.ones;
  apart = m.apart;
  fits = m.fits;
  spent = omega (arith, m.spent, l);
  exact = λ f. let q : true ≡ false = sym cut ∙ f in cc;
  opens = m.opens;
  gap = m.gap;
  long = m.long;
  sized = m.sized;
  own = m.own;
  keeps = m.keeps;
  closed = m.closed;
  foreseen = m.foreseen;
}

-- a node, where the scope right above beats more
pub more_beaten : (cuts : Bool) (above more : ℤ → Bool) (g : Game) (later : List Scope) (i : ℕ) (d : List Condition) (box : Box) (h : Option ℕ) (v : Verdict) (had left : ℕ) (t : Tree) → ((n : ℤ) → above n ≡ true → more n ≡ true) → NodeMade cuts above g later i d box h v had left t →
    NodeMade cuts more g later i d box h v had left t
more_beaten cuts above more g later i d box h v had left t f m = record {
  placed = m.placed;
  verdict = m.verdict;
  settled = m.settled;
  lasts = m.lasts;
  ones = m.ones;
  apart = m.apart;
  fits = m.fits;
  spent = m.spent;
  exact = m.exact;
  opens = m.opens;
  gap = λ o. less_vague v (m.gap o);
  long = m.long;
  sized = m.sized;
  own = m.own;
  keeps = m.keeps;
  closed = m.closed;
  foreseen = m.foreseen;
}
  where
    unnot : (b : Bool) → not b ≡ false → b ≡ true
    unnot true e = refl
    unnot false e = cc

    less_vague : (w : Verdict) → is_vague_verdict above w ≡ false → is_vague_verdict more w ≡ false
    less_vague lost e = refl
    less_vague (exact u) e = refl
    less_vague (at_most p) e = ap not (f p (unnot (above p) e))
    less_vague unknown e = cc
