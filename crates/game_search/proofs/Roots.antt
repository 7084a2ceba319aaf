-- The root of a piece, from what its own tree tells, beside a value that was reached elsewhere.
use Rattle.std.proofs.Common.{◌≡◌, ◌≤◌, ◌<◌, ◌+◌, ◌*◌, ◌∙◌, inl, inr, ℕ, zero, suc, Bool, true, false, cond, List, [], ◌∷◌, ◌++◌, length, refl, sym, ap, subst, arith, Option, None, Some, append_assoc, ℤ}
use Rattle.std.specs.Prelude.{◌⊎◌, is_some, unsigned_abs}
use Rattle.std.specs.List.{list_any}
use Rattle.std.proofs.lemmas.Bool.{and_from, not_from_false, or_from}
use Rattle.qc_model.specs.declared.problem.Kind.{Kind}
use Rattle.qc_model.specs.declared.problem.Kind.TheVariants.{Exists, Forall}
use Rattle.qc_model.specs.declared.problem.Condition.{Condition}
use Rattle.qc_model.specs.declared.problem.Scope.{Scope}
use Rattle.qc_model.specs.Block.{of_kind}
use Rattle.qc_model.specs.Content.{Game}
use Rattle.qc_model.specs.Demands.{demands_after}
use Rattle.qc_model.specs.Domains.{Box}
use Rattle.qc_model.specs.ExistsVerdict.{best_vector}
use Rattle.qc_model.specs.ForallVerdict.{known_numbers}
use Rattle.qc_model.specs.Verdict.{Verdict, exact, Seen, exact_vectors, first_value, is_exact}
use Rattle.proof_tree.specs.Counts.{ending_turns, turns_of}
use Rattle.proof_tree.specs.Diligent.{SeesAhead}
use Rattle.proof_tree.specs.InPlace.{horizon_below, horizon_in_place, is_horizon}
use Rattle.proof_tree.specs.Lines.{body_lines, horizon_lines}
use Rattle.proof_tree.specs.Order.{skips}
use Rattle.proof_tree.specs.Place.{is_goal, list_after, position}
use Rattle.proof_tree.specs.Proves.{optimises_first}
use Rattle.proof_tree.specs.Read.{read}
use Rattle.proof_tree.specs.Text.{horizon_fits}
use Rattle.proof_tree.specs.Tree.{cases, stuck, tree}
use Rattle.proof_tree.specs.declared.line.Line.{Line}
use Rattle.proof_tree.specs.declared.line.Line.TheVariants.{Stuck as StuckLine}
use Rattle.proof_tree.specs.declared.tree.Horizon.{Horizon}
use Rattle.joins.specs.Columns.{number_at}
use Rattle.joins.specs.Joins.{LeafFits, StandsAt}
use Rattle.joins.specs.Sizes.{EachHas, HasSizes}
use Rattle.joins.specs.Verdicts.{kind_own, kind_verdict, kind_wishes, own_at, scope_own, scope_verdict, scope_wishes, settled_at, verdict_at}
use Rattle.joins.specs.declared.joins.Joins.{Joins}
use Rattle.joins.proofs.Sizing.{leaf_fits, sizes_both}
use Rattle.search_parts.specs.Beaten.{firsts, seen_bounds}
use Rattle.search_parts.specs.Own.{IsOwnSized}
use Rattle.search_parts.specs.Settled.{beats_none, is_ended, is_outdone, is_settled, is_vague_verdict}
use Rattle.search_parts.proofs.Beating.{among_none}
use Rattle.search_parts.proofs.Bools.{not_first}
use Rattle.search_parts.proofs.Joining.{known, settled_wishes}
use Rattle.search_parts.proofs.Sizes.{own_sized_as, sizes_none, sizes_of}
use Rattle.search_parts.proofs.Stepping.{part_beaten, part_long, part_open, part_says}
use Rattle.search_parts.proofs.Sure.{vectors_marks}
use Rattle.game_search.specs.Beside.{RootPut}
use Rattle.search_walk.specs.Here.{here_at}
use Rattle.game_search.specs.Pieces.{leaf_at, seen_at_root}
use Rattle.search_walk.specs.Put.{CasePut, IsReady, IsTold, NodePut}
use Rattle.search_walk.proofs.Here.{demands_next, settled_here}
use Rattle.game_search.proofs.Solved.{own_says}

-- ---- a first scope that is the player's and has a condition
pub some_first : (ss : List Scope) → optimises_first ss ≡ true → 0 < length ss
some_first [] f = cc
some_first (s ∷ ss) f = omega arith

no_goal : (ss : List Scope) → optimises_first ss ≡ true → is_goal ss ≡ false
no_goal [] f = cc
no_goal (s ∷ ss) f = refl

-- just its own wish is asked of it
one_wish : (g : Game) (ss : List Scope) → optimises_first ss ≡ true → 1 ≡ length (list_after g ss [])
one_wish g [] f = cc
one_wish g (s ∷ ss) f = by s.kind s.condition f
  where
    by : (k : Kind) (o : Option Condition) → of_kind k (is_some o) false ≡ true → 1 ≡ length (demands_after g k o [])
    by Exists None f = cc
    by Exists (Some c) f = refl
    by Forall o f = cc

some_wish : {X : Type 0} (g : Game) (ss : List Scope) (d : List Condition) → optimises_first ss ≡ true → scope_wishes ss g d ≡ [] → X
some_wish g [] d f e = cc
some_wish g (s ∷ ss) d f e = by s.kind s.condition f e
  where
    by : {X : Type 0} (k : Kind) (o : Option Condition) → of_kind k (is_some o) false ≡ true → kind_wishes k o g d ≡ [] → X
    by Exists None f e = cc
    by Exists (Some c) f e = cc
    by Forall o f e = cc

-- so no leaf settles it
never_settled : (g : Game) (ss : List Scope) (d : List Condition) (xs : List Seen) → optimises_first ss ≡ true → is_settled ss (list_after g ss d) xs ≡ false
never_settled g ss d xs f = by (is_settled ss (list_after g ss d) xs) refl
  where
    by : (b : Bool) → is_settled ss (list_after g ss d) xs ≡ b → is_settled ss (list_after g ss d) xs ≡ false
    by false e = e
    by true e = some_wish g ss d f (settled_wishes g ss d xs e)

none_beats : (above : ℤ → Bool) (ns : List ℤ) → ((n : ℤ) → above n ≡ false) → list_any above ns ≡ false
none_beats above [] h = refl
none_beats above (n ∷ ns) h = or_from (above n) (list_any above ns) (h n) (none_beats above ns h)

-- and nothing ends it
never_ended : (above : ℤ → Bool) (g : Game) (ss : List Scope) (d : List Condition) (xs : List Seen) → optimises_first ss ≡ true → ((n : ℤ) → above n ≡ false) → is_ended above ss (list_after g ss d) xs ≡ false
never_ended above g ss d xs f h = or_from (is_settled ss (list_after g ss d) xs) (is_outdone above xs) (never_settled g ss d xs f) (none_beats above (known_numbers xs) h)

-- what it comes to doesn't depend on values before it
anywhere : (g : Game) (ss : List Scope) (d : List Condition) (a b : List ℤ) (xs : List Seen) → optimises_first ss ≡ true → scope_verdict ss g d a xs ≡ scope_verdict ss g d b xs
anywhere g [] d a b xs f = refl
anywhere g (s ∷ ss) d a b xs f = by s.kind f
  where
    by : (k : Kind) → of_kind k (is_some s.condition) false ≡ true → kind_verdict k s.condition g d a xs ≡ kind_verdict k s.condition g d b xs
    by Exists f = refl
    by Forall f = cc

-- a scope's own condition has a value only where the scope is exact
own_exact : (g : Game) (ss : List Scope) (d : List Condition) (a : List ℤ) (xs : List Seen) → is_exact (scope_verdict ss g d a xs) ≡ false → scope_own ss g d xs ≡ None
own_exact g [] d a xs e = refl
own_exact g (s ∷ ss) d a xs e = by s.kind s.condition e
  where
    by : (k : Kind) (o : Option Condition) → is_exact (kind_verdict k o g d a xs) ≡ false → kind_own k o g d xs ≡ None
    by Exists None e = refl
    by Exists (Some c) e =
        let dd = demands_after g Exists (Some c) d in
        ap (λ b. cond b (Some (first_value (best_vector dd (exact_vectors xs)))) None) e
    by Forall o e = refl

-- ---- the leaf that has reached a value
leaf_sizes : (r : ℤ) → unsigned_abs r ≤ 1000000000000000000 → HasSizes 1000000000 (leaf_at r ∷ [])
leaf_sizes r h = sizes_of 1000000000 (exact (r ∷ [])) each
  where
    each : (k : ℕ) → unsigned_abs (number_at k (r ∷ [])) ≤ 1000000000 * 1000000000
    each zero = omega (arith, h)
    each (suc k) = omega arith

pub reached_fits : (g : Game) (r : ℤ) → optimises_first g.scopes ≡ true → unsigned_abs r ≤ 1000000000000000000 → LeafFits g 0 [] (exact (r ∷ []))
reached_fits g r f h =
    leaf_fits g 0 0 1000000000 [] (exact (r ∷ [])) (one_wish g g.scopes f ∙ ap length (demands_next g g.scopes 0 [] (some_first g.scopes f))) (sizes_none 0) each (omega arith)
  where
    each : (k : ℕ) → unsigned_abs (number_at k (r ∷ [])) ≤ 1000000000 * 1000000000
    each zero = omega (arith, h)
    each (suc k) = omega arith

-- the root's own tree may begin after it
pub ready_beside : (g : Game) (r : ℤ) (left : ℕ) (joins : Joins) → optimises_first g.scopes ≡ true → unsigned_abs r ≤ 1000000000000000000 → left ≤ 10000000 → StandsAt joins 0 (leaf_at r ∷ []) → IsReady g 0 joins (2 + 2 * left) (leaf_at r ∷ [])
ready_beside g r left joins f h few stands = record {
  stands = stands;
  unsettled = settled_here g 0 (leaf_at r ∷ []) ∙ never_settled g g.scopes [] (leaf_at r ∷ []) f;
  size = 1000000000;
  sizes = leaf_sizes r h;
  room = omega (arith, few);
}

own_more : (m n : ℕ) (o : Option ℤ) → m ≤ n → IsOwnSized m o → IsOwnSized n o
own_more m n None l h = tt
own_more m n (Some v) l h = omega (arith, l, h)

-- ---- nothing was reached
pub root_by_node : (cuts : Bool) (g : Game) (box : Box) (v : Verdict) (had left : ℕ) (old new : List Line) (joins : Joins) → NodePut (here_at cuts beats_none g 0 box None) v had left old new joins → RootPut cuts g box None v had left old new joins
root_by_node cuts g box v had left old new joins w =
    let t = w.written.tree in
    let m = w.written.made in
    record {
      tree = t;
      lines = w.written.lines;
      made = record {
        placed = m.placed;
        verdict = m.verdict;
        settled = m.settled;
        lasts = m.lasts;
        ones = m.ones;
        apart = m.apart;
        fits = m.fits;
        spent = m.spent;
        exact = m.exact;
        opens = m.opens;
        gap = m.gap;
        known = λ e. (own_says g t g.scopes 0 [] box None m.placed).none (ap is_exact m.verdict ∙ e);
        small = own_more (suc (2 * turns_of t)) (1000000000 + suc (2 * turns_of t)) (read g t g.scopes 0 [] box).own (omega arith) m.own;
        incumbents = m.keeps;
        closed = m.closed;
        foreseen = m.foreseen;
      };
      own = w.own;
    }

-- ---- a value was reached
module _ (cuts : Bool) (g : Game) (box : Box) (r : ℤ) (first : optimises_first g.scopes ≡ true) (small : unsigned_abs r ≤ 1000000000000000000) where
  -- the join of a scope that no leaf settles stands for all that was seen
  all_stand : (joins : Joins) (xs : List Seen) → IsTold g 0 joins xs → StandsAt joins 0 xs
  all_stand joins xs t = by t.same
    where
      by : ((t.stood ≡ xs) ⊎ ((settled_at g 0 t.stood ≡ true) × (settled_at g 0 xs ≡ true))) → StandsAt joins 0 xs
      by (inl q) = subst (StandsAt joins 0) q t.stands
      by (inr q) = let e : true ≡ false = sym q.1 ∙ (settled_here g 0 xs ∙ never_settled g g.scopes [] xs first) in cc

  -- nobody passes the first scope
  pub root_stuck : (z : Option Horizon) (v : Verdict) (had : ℕ) (old mid new : List Line) (joins : Joins) → horizon_in_place g z g.scopes 0 box None ≡ true → horizon_fits z ≡ true → SeesAhead g g.scopes 0 box (horizon_below z None) → is_horizon (horizon_below z None) 0 ≡ true →
      mid ≡ old ++ horizon_lines z → new ≡ mid ++ StuckLine ∷ [] → verdict_at g 0 (position g 0 box) (leaf_at r ∷ []) ≡ v → StandsAt joins 0 (leaf_at r ∷ []) → RootPut cuts g box (Some r) v had had old new joins
  root_stuck z v had old mid new joins place fits ahead here p q comes stands =
      let xs = leaf_at r ∷ [] in
      let shown : verdict_at g 0 [] xs ≡ v = anywhere g g.scopes [] [] (position g 0 box) xs first ∙ comes in
      record {
        tree = tree z stuck;
        lines = q ∙ (ap (λ ls. ls ++ StuckLine ∷ []) p ∙ append_assoc old (horizon_lines z) (StuckLine ∷ []));
        made = record {
          placed = and_from _ _ place here;
          verdict = shown;
          settled = refl;
          lasts = refl;
          ones = refl;
          apart = refl;
          fits = and_from _ _ fits refl;
          spent = omega arith;
          exact = λ c. omega arith;
          opens = inl refl;
          gap = λ o. ap (is_vague_verdict beats_none) (sym shown) ∙ known beats_none g g.scopes [] [] xs (no_goal g.scopes first) refl (one_wish g g.scopes first, tt) refl;
          known = λ e. own_exact g g.scopes [] [] xs (ap is_exact shown ∙ e);
          small = own_sized_as g g.scopes [] (1000000000 + suc (2 * 0)) xs xs refl (sizes_both 1000000000 (suc (2 * 0)) xs [] (leaf_sizes r small) (sizes_none (suc (2 * 0))));
          incumbents = refl;
          closed = refl;
          foreseen = (ahead, tt);
        };
        own = λ s. record { stood = xs; stands = stands; is_own = refl };
      }

  -- the root's own tree, after the leaf
  pub root_by_part : (above : ℤ → Bool) → ((n : ℤ) → above n ≡ false) → (z : Option Horizon) (v : Verdict) (had left : ℕ) (old mid new : List Line) (now joins : Joins) → horizon_in_place g z g.scopes 0 box None ≡ true → horizon_fits z ≡ true → SeesAhead g g.scopes 0 box (horizon_below z None) →
      is_horizon (horizon_below z None) 0 ≡ false → mid ≡ old ++ horizon_lines z → CasePut (here_at cuts above g 0 box (horizon_below z None)) (leaf_at r ∷ []) had left mid new now → ((xs : List Seen) → StandsAt now 0 xs → v ≡ verdict_at g 0 (position g 0 box) xs) →
      ((xs : List Seen) → StandsAt now 0 xs → StandsAt joins 0 xs) → RootPut cuts g box (Some r) v had left old new joins
  root_by_part above nothing z v had left old mid new now joins place fits ahead apart q w says kept =
      let h = horizon_below z None in
      let ss = g.scopes in
      let leaf = leaf_at r ∷ [] in
      let ms = w.ms in
      let seen = w.part.seen in
      let steps = w.part.written.steps in
      let e = w.part.written.ending in
      let p = w.part.written.made in
      let m = p.ended in
      let t = tree z (cases steps e) in
      let n = suc (2 * ending_turns e) in
      let told : seen ≡ seen_at_root g t box = part_says cuts above g ss 0 [] box h leaf ms seen had left steps e p in
      let stand : StandsAt now 0 (leaf_at r ∷ seen) = all_stand now (leaf_at r ∷ seen) w.part.told in
      let comes : verdict_at g 0 [] (leaf_at r ∷ seen) ≡ v = anywhere g ss [] [] (position g 0 box) (leaf_at r ∷ seen) first ∙ sym (says (leaf_at r ∷ seen) stand) in
      let shown : verdict_at g 0 [] (leaf_at r ∷ seen_at_root g t box) ≡ v = ap (λ xs. verdict_at g 0 [] (leaf_at r ∷ xs)) (sym told) ∙ comes in
      let ended = never_ended above g ss [] ((leaf ++ seen_bounds ms) ++ p.last) first nothing in
      let long : EachHas (list_after g ss []) seen = subst (λ d. EachHas d seen) (sym (demands_next g ss 0 [] (some_first ss first))) (part_long cuts above g ss 0 [] box h leaf ms seen had left steps e p) in
      record {
        tree = t;
        lines = w.part.written.lines ∙ (ap (λ ls. ls ++ body_lines (cases steps e)) q ∙ append_assoc old (horizon_lines z) (body_lines (cases steps e)));
        made = record {
          placed = and_from _ _ place (and_from _ _ (and_from _ _ (and_from _ _ (not_from_false (is_horizon h 0) apart) (not_from_false (is_goal ss) (no_goal ss first))) p.stepped.legal) m.placed);
          verdict = shown;
          settled = and_from _ _ (not_first (skips e) _ (none_skipped (skips e) refl (λ k. sym ended ∙ m.skips k))) m.settled;
          lasts = m.lasts;
          ones = m.ones;
          apart = m.apart;
          fits = and_from _ _ fits (and_from _ _ p.stepped.fits m.fits);
          spent = m.spent;
          exact = m.exact;
          opens = m.opens;
          gap = λ o.
              ap (is_vague_verdict beats_none) (sym comes)
              ∙ known beats_none g ss [] [] (leaf_at r ∷ seen) (no_goal ss first) (part_open cuts above g ss 0 [] box h leaf ms seen had left steps e p ∙ m.gap o ended) (one_wish g ss first, long) (part_beaten cuts above g ss 0 [] box h leaf ms seen had left steps e p o);
          known = λ k. own_exact g ss [] [] (leaf_at r ∷ seen_at_root g t box) (ap is_exact shown ∙ k);
          small = own_sized_as g ss [] (1000000000 + n) (leaf_at r ∷ seen_at_root g t box) (leaf_at r ∷ p.last) (ap (λ xs. (r ∷ []) ∷ exact_vectors xs) (sym told ∙ p.both) ∙ ap (λ vs. (r ∷ []) ∷ vs) (vectors_marks ms p.last))
              (sizes_both 1000000000 n leaf p.last (leaf_sizes r small) m.sizes);
          incumbents = m.keeps [] (among_none (firsts (leaf ++ seen_bounds ms)));
          closed = m.closed;
          foreseen = (ahead, m.foreseen);
        };
        own = λ s. record { stood = leaf_at r ∷ seen; stands = kept (leaf_at r ∷ seen) stand; is_own = ap (λ xs. own_at g 0 (leaf_at r ∷ xs)) (sym told) };
      }
    where
      none_skipped : (b : Bool) → skips w.part.written.ending ≡ b → (b ≡ true → false ≡ true) → b ≡ false
      none_skipped true k f = let i = f refl in cc
      none_skipped false k f = refl
