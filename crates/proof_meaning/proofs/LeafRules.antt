-- What each ending of a scope's own tree makes of the leaves.
use Rattle.std.proofs.Common.{◌≡◌, ◌⊎◌, inl, inr, ℕ, suc, ◌<◌, Bool, true, false, ◌&&◌, List, [], ◌∷◌, ◌++◌, length, map, set, take, refl, sym, ap, ◌∙◌, subst, arith}
use Rattle.std.specs.Prelude.{ℤ, IsTrue}
use Rattle.std.specs.List.{list_all}
use Rattle.std.proofs.lemmas.List.{map-append}
use Rattle.std.proofs.lemmas.List.Folds.{list_all-append}
use Rattle.std.proofs.lemmas.Bool.{and_parts}
use Rattle.qc_model.specs.declared.problem.Kind.{Kind}
use Rattle.qc_model.specs.declared.problem.Kind.TheVariants.{Exists, Forall}
use Rattle.qc_model.specs.declared.problem.Scope.{Scope}
use Rattle.qc_model.specs.declared.problem.Condition.{Condition}
use Rattle.qc_model.specs.Content.{Game}
use Rattle.qc_model.specs.Lists.{Among}
use Rattle.qc_model.specs.Domains.{Box, InBox, declared_box, has_empty, is_single}
use Rattle.qc_model.specs.Game.{before, allows, IsMove}
use Rattle.qc_model.specs.Plan.{Plan}
use Rattle.qc_model.specs.Optimal.{Optimal}
use Rattle.qc_model.specs.Counter.{CounterWins, AnswersOnce}
use Rattle.qc_model.specs.Demands.{vector}
use Rattle.qc_model.specs.Verdict.{Verdict, lost, exact, at_most, unknown, seen_node, is_lost}
use Rattle.qc_model.proofs.ExistsMeans.{Allows, FirstNoBetter, SomeAllows}
use Rattle.model_laws.specs.Positions.{AtMost}
use Rattle.qc_model.specs.Lists.{Distinct}
use Rattle.model_laws.specs.Verdicts.{Means}
use Rattle.model_laws.proofs.Order.{distinct_append}
use Rattle.proof_tree.specs.Place.{position}
use Rattle.proof_tree.specs.Finding.{Finding, Leaf, leaf_barred, leaf_skipped, leaf_bound, leaf_node, seen_of}
use Rattle.proof_tree.specs.Good.{Good}
use Rattle.proof_tree.specs.Meaning.{FirstIsNoBetter, VerdictMeans}
use Rattle.proof_meaning.proofs.Boxes.{differ, in_front, empty_past, none_past, none_at, set_widen, values_split}
use Rattle.proof_meaning.proofs.GoodValues.{good_front, after_front}
use Rattle.proof_meaning.proofs.LeafWords.{not_skipped, reached_left, reached_right}
use Rattle.qc_model.proofs.Moves.{among_left, among_right}
use Rattle.proof_meaning.proofs.Passing.{GoodAfter, move_count}
use Rattle.proof_meaning.proofs.Taken.{apart}
use Rattle.proof_meaning.proofs.Reach.{reach, lies_to, lies_from, plan_good}
use Rattle.proof_meaning.proofs.Frames.{Frame, FairPart}
use Rattle.proof_meaning.proofs.Entering.{TheMove, the_only}
use Rattle.proof_meaning.proofs.LeafLists.{is_unmarked, leaf_tuples, LeavesMean, each_append, loses_append, once_append, unmarked_append, tuples_append, allows_left, allows_right, each_wider, tuple_lies}

-- a choice goes through good values
pub choice_good : (g : Game) (k : Kind) (later : List Scope) (i : ℕ) (b : List ℤ) (s : Plan) → k ≡ Exists → Optimal g later (suc i) b s → GoodAfter k g later i b (reach b s)
choice_good g k later i b s q o = subst (λ j. GoodAfter j g later i b (reach b s)) (sym q) (plan_good g later (suc i) b s o)

pub choice_front : (g : Game) (later : List Scope) (i : ℕ) (b : List ℤ) (s : Plan) (box : Box) → Optimal g later i b s → InBox (reach b s) box → InBox b box
choice_front g later i b s box o h =
    let r = good_front g later i b (reach b s) (plan_good g later i b s o) in
    in_front b r.0 box (subst (λ u. InBox u box) r.1 h)

good_start : (g : Game) (k : Kind) (later : List Scope) (i : ℕ) (b w : List ℤ) (box : Box) → GoodAfter k g later i b w → InBox w box → InBox b box
good_start g k later i b w box good h = let r = after_front g k later i b w good in in_front b r.0 box (subst (λ u. InBox u box) r.1 h)

-- an empty domain
pub empty_mean : (g : Game) (b : Bool) (k : Kind) (later : List Scope) (i : ℕ) (e : List Condition) (a : List ℤ) (box : Box) → has_empty (declared_box g) ≡ false → FairPart g b k later i a box → has_empty box ≡ true →
    LeavesMean g b k later i e a box []
empty_mean g b k later i e a box none f h = record {
  each = tt;
  loses = λ _ _. tt;
  complete = λ _ _ t w m good j. nothing t w m good j;
  covers = λ q t s m o j. nothing t (reach (a ++ t) s) m (choice_good g k later i (a ++ t) s q o) j;
  distinct = tt;
  once = tt;
  no_marks = λ _. refl;
}
  where
    nothing : (t w : List ℤ) → IsMove g i a t → GoodAfter k g later i (a ++ t) w → InBox w box → ⊥
    nothing t w m good j =
        differ (sym (none_past (length w) (declared_box g) none) ∙ subst (λ ds. has_empty ds ≡ true) (f.rest t w m good j) (empty_past w box j h))

-- single values that aren't allowed
pub barred_mean : (g : Game) (b : Bool) (k : Kind) (later : List Scope) (i : ℕ) (e : List Condition) (a : List ℤ) (box : Box) → Frame g i a box → list_all is_single (take (before g (suc i)) box) ≡ true →
    allows g i (position g (suc i) box) ≡ false → LeavesMean g b k later i e a box (leaf_barred ∷ [])
barred_mean g b k later i e a box f fixed h = record {
  each = tt;
  loses = λ _ _. tt;
  complete = λ _ _ t w m good j. nothing t m (good_start g k later i (a ++ t) w box good j);
  covers = λ q t s m o j. absurd (nothing t m (choice_front g later (suc i) (a ++ t) s box o j));
  distinct = tt;
  once = tt;
  no_marks = λ _. refl;
}
  where
    nothing : (t : List ℤ) → IsMove g i a t → InBox (a ++ t) box → ⊥
    nothing t m j = differ (sym h ∙ subst (λ u. allows g i u ≡ true) (the_only g i a t box f fixed m j) m.is_allowed)

-- a node
at_most_vector : (g : Game) (e : List Condition) (w : List ℤ) (s : Plan) (p : ℤ) → FirstIsNoBetter g e w s p → FirstNoBetter e (vector g e w s) p
at_most_vector g [] w s p h = tt
at_most_vector g (c ∷ e) w s p h = h

at_most_all : (g : Game) (e : List Condition) (w : List ℤ) (P : Plan → Type 0) (p : ℤ) → ((s : Plan) → P s → FirstIsNoBetter g e w s p) → AtMost g e w P p
at_most_all g [] w P p h = tt
at_most_all g (c ∷ e) w P p h = h

pub node_allows : (g : Game) (b : Bool) (later : List Scope) (i : ℕ) (e : List Condition) (w : List ℤ) (box : Box) (f : Finding) (v : Verdict) → VerdictMeans v g later i e w box f b →
    (s : Plan) → Optimal g later i w s → InBox (reach w s) box → Allows e (seen_node v) (vector g e w s)
node_allows g b later i e w box f lost h s o j = h.none s (record { optimal = o; lies = lies_from box w s j })
node_allows g b later i e w box f (exact v) h s o j = h.best s (record { optimal = o; lies = lies_from box w s j })
node_allows g b later i e w box f (at_most p) h s o j = at_most_vector g e w s p (h s (record { optimal = o; lies = lies_from box w s j }))
node_allows g b later i e w box f unknown h s o j = tt

pub node_shown : (g : Game) (b : Bool) (later : List Scope) (i : ℕ) (e : List Condition) (w : List ℤ) (box : Box) (f : Finding) (x : Verdict) → VerdictMeans x g later i e w box f b →
    (v : List ℤ) → x ≡ exact v → Optimal g later i w f.strategy × InBox (reach w f.strategy) box × (vector g e w f.strategy ≡ v)
node_shown g b later i e w box f lost h v q = cc
node_shown g b later i e w box f (exact u) h v q =
    (h.is_optimal.optimal, lies_to box w f.strategy h.is_optimal.lies, h.has_vector ∙ (let r : u ≡ v = cc in r))
node_shown g b later i e w box f (at_most p) h v q = cc
node_shown g b later i e w box f unknown h v q = cc

pub node_means : (g : Game) (b : Bool) (later : List Scope) (i : ℕ) (e : List Condition) (w : List ℤ) (box : Box) (f : Finding) (x : Verdict) → VerdictMeans x g later i e w box f b →
    ((s : Plan) → Optimal g later i w s → InBox (reach w s) box) → Means g e w (Optimal g later i w) x
node_means g b later i e w box f lost h l = λ s o. h.none s (record { optimal = o; lies = lies_from box w s (l s o) })
node_means g b later i e w box f (exact v) h l = record {
  some = (f.strategy, h.is_optimal.optimal, h.has_vector);
  none_better = λ s o. h.best s (record { optimal = o; lies = lies_from box w s (l s o) });
}
node_means g b later i e w box f (at_most p) h l = at_most_all g e w (Optimal g later i w) p (λ s o. h s (record { optimal = o; lies = lies_from box w s (l s o) }))
node_means g b later i e w box f unknown h l = tt

node_loses : (g : Game) (b : Bool) (later : List Scope) (i : ℕ) (e : List Condition) (w : List ℤ) (box : Box) (f : Finding) (x : Verdict) → VerdictMeans x g later i e w box f b → b ≡ false → IsTrue (is_lost x) → CounterWins g later i w f.counter
node_loses g b later i e w box f lost h q l = h.loses q
node_loses g b later i e w box f (exact v) h q l = absurd (differ l)
node_loses g b later i e w box f (at_most p) h q l = absurd (differ l)
node_loses g b later i e w box f unknown h q l = absurd (differ l)

pub next_mean : (g : Game) (b : Bool) (k : Kind) (later : List Scope) (i : ℕ) (e : List Condition) (a w : List ℤ) (box : Box) (f : Finding) → Frame g i a box → list_all is_single (take (before g (suc i)) box) ≡ true →
    w ≡ position g (suc i) box → TheMove g i a w box → (k ≡ Forall → (u : List ℤ) → Good g later (suc i) w u → InBox u box) → VerdictMeans f.verdict g later (suc i) e w box f b → AnswersOnce f.counter →
    LeavesMean g b k later i e a box (leaf_node w f ∷ [])
next_mean g b k later i e a w box f frame fixed p m all h once = record {
  each = (
    record {
      move = m;
      shown = λ v q. let s = node_shown g b later (suc i) e w box f f.verdict h v q in record { optimal = s.0; lies = s.1; has_vector = s.2 };
      means = λ q. node_means g b later (suc i) e w box f f.verdict h (λ s o. all q (reach w s) (plan_good g later (suc i) w s o));
    },
    tt,
  );
  loses = λ q _. (node_loses g b later (suc i) e w box f f.verdict h q, tt);
  complete = λ _ _ t u mv good j. inl (only t mv (good_start g k later i (a ++ t) u box good j));
  covers = λ q t s mv o j.
      let r = only t mv (choice_front g later (suc i) (a ++ t) s box o j) in
      inl (subst (λ z. Allows e (seen_node f.verdict) (vector g e z s)) r
      (node_allows g b later (suc i) e w box f f.verdict h s (subst (λ z. Optimal g later (suc i) z s) (sym r) o) (subst (λ z. InBox (reach z s) box) (sym r) j)));
  distinct = (λ n. n, tt);
  once = (once, tt);
  no_marks = λ _. refl;
}
  where
    only : (t : List ℤ) → IsMove g i a t → InBox (a ++ t) box → w ≡ a ++ t
    only t mv j = p ∙ sym (the_only g i a t box frame fixed mv j)

-- a box that keeps what matters
pub same_mean : (g : Game) (b : Bool) (k : Kind) (later : List Scope) (i : ℕ) (e : List Condition) (a : List ℤ) (small box : Box) (ls : List Leaf) → ((w : List ℤ) → InBox w small → InBox w box) →
    ((t w : List ℤ) → IsMove g i a t → GoodAfter k g later i (a ++ t) w → InBox w box → InBox w small) → LeavesMean g b k later i e a small ls → LeavesMean g b k later i e a box ls
same_mean g b k later i e a small box ls wider stays h = record {
  each = each_wider g k later i e a small box ls wider h.each;
  loses = h.loses;
  complete = λ u z t w m good j. h.complete u z t w m good (stays t w m good j);
  covers = λ q t s m o j. h.covers q t s m o (stays t (reach (a ++ t) s) m (choice_good g k later i (a ++ t) s q o) j);
  distinct = h.distinct;
  once = h.once;
  no_marks = h.no_marks;
}

-- a bound before the leaves, whose mark holds what it removes
pub bound_mean : (g : Game) (b : Bool) (later : List Scope) (i : ℕ) (e : List Condition) (a : List ℤ) (small box : Box) (m : ℤ) (ls : List Leaf) → ((w : List ℤ) → InBox w small → InBox w box) → (¬ (e ≡ [])) →
    ((t : List ℤ) (s : Plan) → IsMove g i a t → Optimal g later (suc i) (a ++ t) s → InBox (reach (a ++ t) s) box → InBox (reach (a ++ t) s) small ⊎ FirstNoBetter e (vector g e (a ++ t) s) m) →
    LeavesMean g true Exists later i e a small ls → LeavesMean g b Exists later i e a box (leaf_bound m ∷ ls)
bound_mean g b later i e a small box m ls wider some held h = record {
  each = each_wider g Exists later i e a small box ls wider h.each;
  loses = λ _ u. absurd (differ (u refl));
  complete = λ u. absurd (differ (u refl));
  covers = λ q t s mv o j. elim (held t s mv o j) [ inl r ↦ inr (h.covers q t s mv o r) | inr n ↦ inl n ];
  distinct = h.distinct;
  once = h.once;
  no_marks = λ q. absurd (some q);
}

-- no case is left
pub none_mean : (g : Game) (b : Bool) (k : Kind) (later : List Scope) (i : ℕ) (e : List Condition) (a : List ℤ) (box : Box) (x : ℕ) → length a ≡ before g i → x < before g (suc i) → LeavesMean g b k later i e a (set box x []) []
none_mean g b k later i e a box x n high = record {
  each = tt;
  loses = λ _ _. tt;
  complete = λ _ _ t w m good j. nothing t m (good_start g k later i (a ++ t) w (set box x []) good j);
  covers = λ q t s m o j. absurd (nothing t m (choice_front g later (suc i) (a ++ t) s (set box x []) o j));
  distinct = tt;
  once = tt;
  no_marks = λ _. refl;
}
  where
    nothing : (t : List ℤ) → IsMove g i a t → InBox (a ++ t) (set box x []) → ⊥
    nothing t m j = let c = move_count g i a t n m in none_at box x (a ++ t) (omega arith) j

-- a case that is left out
pub skipped_mean : (g : Game) (b : Bool) (k : Kind) (later : List Scope) (i : ℕ) (e : List Condition) (a : List ℤ) (box : Box) → LeavesMean g b k later i e a box (leaf_skipped ∷ [])
skipped_mean g b k later i e a box = record {
  each = tt;
  loses = λ _ _. tt;
  complete = λ _ z. absurd (differ z);
  covers = λ q t s m o j. inl tt;
  distinct = tt;
  once = tt;
  no_marks = λ _. refl;
}

-- a case with the values us, and the others
pub case_mean : (g : Game) (b : Bool) (k : Kind) (later : List Scope) (i : ℕ) (e : List Condition) (a : List ℤ) (box : Box) (x : ℕ) (us vs : List ℤ) (ks ls : List Leaf) →
    length a ≡ before g i → x < before g (suc i) → ((z : ℤ) → Among z us → ¬ Among z vs) →
    LeavesMean g b k later i e a (set box x us) ks → LeavesMean g b k later i e a (set box x vs) ls → LeavesMean g b k later i e a (set box x (us ++ vs)) (ks ++ ls)
case_mean g b k later i e a box x us vs ks ls n high new one rest = record {
  each = each_append g k later i e a whole ks ls (each_wider g k later i e a first whole ks (λ w. set_widen box x us (us ++ vs) w (λ z. among_left z us vs)) one.each)
      (each_wider g k later i e a others whole ls (λ w. set_widen box x vs (us ++ vs) w (λ z. among_right z us vs)) rest.each);
  loses = λ q u. loses_append g later i ks ls (one.loses q (λ j. (unmarked u j).0)) (rest.loses q (λ j. (unmarked u j).1));
  complete = λ u z t w m good j.
      let y = and_parts (list_all not_skipped ks) (list_all not_skipped ls) (sym (list_all-append not_skipped ks ls) ∙ z) in
      elim (values_split box x us vs w j) [
        | inl r ↦ reached_left (a ++ t) ks ls (one.complete (λ p. (unmarked u p).0) y.0 t w m good r)
        | inr r ↦ reached_right (a ++ t) ks ls (rest.complete (λ p. (unmarked u p).1) y.1 t w m good r)
      ];
  covers = λ q t s m o j.
      subst (λ xs. SomeAllows e xs (vector g e (a ++ t) s)) (sym (map-append seen_of ks ls))
      (elim (values_split box x us vs (reach (a ++ t) s) j) [
        | inl r ↦ allows_left e (map seen_of ks) (map seen_of ls) (vector g e (a ++ t) s) (one.covers q t s m o r)
        | inr r ↦ allows_right e (map seen_of ks) (map seen_of ls) (vector g e (a ++ t) s) (rest.covers q t s m o r)
      ]);
  distinct = subst Distinct (sym (tuples_append (length a) ks ls)) (distinct_append (leaf_tuples (length a) ks) (leaf_tuples (length a) ls) one.distinct rest.distinct (λ t p q.
      let y = tuple_lies g k later i e a first ks one.each t p in
      let z = tuple_lies g k later i e a others ls rest.each t q in
      let c = move_count g i a t n y.0 in
      apart box x us vs (a ++ t) (omega arith) new y.1 z.1));
  once = once_append ks ls one.once rest.once;
  no_marks = λ q. unmarked_append ks ls ∙ (ap (λ y. y && is_unmarked ls) (one.no_marks q) ∙ rest.no_marks q);
}
  where
    whole : Box
    whole = set box x (us ++ vs)

    first : Box
    first = set box x us

    others : Box
    others = set box x vs

    unmarked : (k ≡ Exists → is_unmarked (ks ++ ls) ≡ true) → k ≡ Exists → (is_unmarked ks ≡ true) × (is_unmarked ls ≡ true)
    unmarked u q = and_parts (is_unmarked ks) (is_unmarked ls) (sym (unmarked_append ks ls) ∙ u q)
