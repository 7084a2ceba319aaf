-- The best of the exact leaves, as leaves come.
use Rattle.std.proofs.Common.{◌≡◌, ◌⊎◌, inl, inr, ℕ, Bool, true, false, ◌&&◌, ◌||◌, cond, Option, Some, None, List, [], ◌∷◌, ◌++◌, map, drop, refl, sym, ap, ◌∙◌, subst, ℤ, arith}
use Rattle.std.specs.Ordering.{int_eq}
use Rattle.std.proofs.lemmas.Int.{ints}
use Rattle.std.proofs.lemmas.Bool.Decides.{Decides-int_eq}
use Rattle.std.proofs.lemmas.Bool.{or_left, false≢true}
use Rattle.qc_model.specs.declared.problem.Sense.{Sense}
use Rattle.qc_model.specs.declared.problem.Sense.TheVariants.{Min, Max}
use Rattle.qc_model.specs.declared.problem.Condition.{Condition}
use Rattle.qc_model.specs.Lists.{same_values}
use Rattle.qc_model.specs.Optimal.{is_better}
use Rattle.qc_model.specs.Demands.{is_better_vector}
use Rattle.qc_model.specs.Plan.{Plan, finish, choose}
use Rattle.qc_model.specs.Verdict.{Verdict, lost, exact, at_most, unknown, seen_node, exact_vectors, is_none_of}
use Rattle.qc_model.specs.ExistsVerdict.{best_from, best_vector}
use Rattle.qc_model.proofs.Vectors.{no_better_self}
use Rattle.proof_tree.specs.Finding.{Finding, Leaf, leaf_barred, leaf_skipped, leaf_bound, leaf_node, seen_of, is_exact_at, first_choice}
use Rattle.proof_meaning.proofs.LeafWords.{same_true, same_self}
use Rattle.qc_play.specs.declared.best.Best.{Best}
use Rattle.qc_play.specs.Shape.{plan_of}
use Rattle.qc_play.specs.Entries.{NoneBetter, IsBest, KeepsBest, wins_over}
use Rattle.qc_play.proofs.LeavesMore.{vectors_same, vectors_exact, choice_none, choice_some}

either : (a e b : Bool) → (a || (e && b)) ≡ true → (a ≡ true) ⊎ ((e ≡ true) × (b ≡ true))
either true e b h = inl refl
either false true b h = inr (refl, h)
either false false b h = absurd (false≢true h)

is_right : (a e b : Bool) → e ≡ true → b ≡ true → (a || (e && b)) ≡ true
is_right true e b h k = refl
is_right false true b h k = k
is_right false false b h k = absurd (false≢true h)

number_through : (s : Sense) (x y z : ℤ) → is_better s x y ≡ true → is_better s y z ≡ true → is_better s x z ≡ true
number_through Min x y z h k = grind (arith, ints)
number_through Max x y z h k = grind (arith, ints)

-- better than v, and v better than w
better_through : (d : List Condition) (u v w : List ℤ) → is_better_vector d u v ≡ true → is_better_vector d v w ≡ true → is_better_vector d u w ≡ true
better_through [] u v w h k = absurd (false≢true h)
better_through (c ∷ d) [] v w h k = absurd (false≢true h)
better_through (c ∷ d) (x ∷ u) [] w h k = absurd (false≢true h)
better_through (c ∷ d) (x ∷ u) (y ∷ v) [] h k = absurd (false≢true k)
better_through (c ∷ d) (x ∷ u) (y ∷ v) (z ∷ w) h k =
    by (either (is_better c.sense x y) (int_eq x y) (is_better_vector d u v) h) (either (is_better c.sense y z) (int_eq y z) (is_better_vector d v w) k) (better_through d u v w)
  where
    by : (is_better c.sense x y ≡ true) ⊎ ((int_eq x y ≡ true) × (is_better_vector d u v ≡ true)) → (is_better c.sense y z ≡ true) ⊎ ((int_eq y z ≡ true) × (is_better_vector d v w ≡ true)) →
        (is_better_vector d u v ≡ true → is_better_vector d v w ≡ true → is_better_vector d u w ≡ true) → (is_better c.sense x z || (int_eq x z && is_better_vector d u w)) ≡ true
    by (inl p) (inl q) f = or_left (is_better c.sense x z) (int_eq x z && is_better_vector d u w) (number_through c.sense x y z p q)
    by (inl p) (inr q) f = or_left (is_better c.sense x z) (int_eq x z && is_better_vector d u w) (subst (λ n. is_better c.sense x n ≡ true) ((Decides-int_eq y z).0 q.0) p)
    by (inr p) (inl q) f = or_left (is_better c.sense x z) (int_eq x z && is_better_vector d u w) (subst (λ n. is_better c.sense n z ≡ true) (sym ((Decides-int_eq x y).0 p.0)) q)
    by (inr p) (inr q) f =
        is_right (is_better c.sense x z) (int_eq x z) (is_better_vector d u w)
        ((Decides-int_eq x z).1 ((Decides-int_eq x y).0 p.0 ∙ (Decides-int_eq y z).0 q.0)) (f p.1 q.1)

-- none is better than what is better than that
none_better_than : (d : List Condition) (v b : List ℤ) (ws : List (List ℤ)) → is_better_vector d v b ≡ true → NoneBetter d b ws → NoneBetter d v ws
none_better_than d v b [] h k = tt
none_better_than d v b (w ∷ ws) h k = (go (is_better_vector d w v) refl, none_better_than d v b ws h k.1)
  where
    go : (x : Bool) → is_better_vector d w v ≡ x → x ≡ false
    go true e = absurd (false≢true (sym k.0 ∙ better_through d w v b e h))
    go false e = refl

none_better_more : (d : List Condition) (b v : List ℤ) (ws : List (List ℤ)) → NoneBetter d b ws → is_better_vector d v b ≡ false → NoneBetter d b (ws ++ v ∷ [])
none_better_more d b v [] h k = (k, tt)
none_better_more d b v (w ∷ ws) h k = (h.0, none_better_more d b v ws h.1 k)

best_from_more : (d : List Condition) (u : List ℤ) (vs : List (List ℤ)) (w : List ℤ) → best_from d u (vs ++ w ∷ []) ≡ cond (is_better_vector d w (best_from d u vs)) w (best_from d u vs)
best_from_more d u [] w = refl
best_from_more d u (v ∷ vs) w = best_from_more d (cond (is_better_vector d v u) v u) vs w

best_more : (d : List Condition) (vs : List (List ℤ)) (w : List ℤ) → is_none_of vs ≡ false → best_vector d (vs ++ w ∷ []) ≡ cond (is_better_vector d w (best_vector d vs)) w (best_vector d vs)
best_more d [] w e = cc
best_more d (v ∷ vs) w e = best_from_more d v vs w

some_more : (vs : List (List ℤ)) (w : List ℤ) → is_none_of (vs ++ w ∷ []) ≡ false
some_more [] w = refl
some_more (v ∷ vs) w = refl

-- no leaf has a vector that is better than all of theirs
none_such : (d : List Condition) (v b : List ℤ) (plan : Finding → Plan) (n : ℕ) (ls : List Leaf) → is_better_vector d v b ≡ true → NoneBetter d b (exact_vectors (map seen_of ls)) → first_choice (is_exact_at v) plan n ls ≡ finish
none_such d v b plan n [] h k = refl
none_such d v b plan n (leaf_barred ∷ ls) h k = none_such d v b plan n ls h k
none_such d v b plan n (leaf_skipped ∷ ls) h k = none_such d v b plan n ls h k
none_such d v b plan n (leaf_bound m ∷ ls) h k = none_such d v b plan n ls h k
none_such d v b plan n (leaf_node w f ∷ ls) h k = by f.verdict (none_such d v b plan n ls h) k
  where
    at : (u : List ℤ) (x : Bool) → same_values v u ≡ x → is_better_vector d u b ≡ false → first_choice (is_exact_at v) plan n ls ≡ finish → cond x (choose (drop n w) (plan f)) (first_choice (is_exact_at v) plan n ls) ≡ finish
    at u true e l m = absurd (false≢true (sym (subst (λ z. is_better_vector d z b ≡ false) (sym (same_true v u e)) l) ∙ h))
    at u false e l m = m

    by : (x : Verdict) → (NoneBetter d b (exact_vectors (map seen_of ls)) → first_choice (is_exact_at v) plan n ls ≡ finish) → NoneBetter d b (exact_vectors (seen_node x ∷ map seen_of ls)) →
        cond (is_exact_at v x) (choose (drop n w) (plan f)) (first_choice (is_exact_at v) plan n ls) ≡ finish
    by lost r k = r k
    by (exact u) r k = at u (same_values v u) refl k.0 (r k.1)
    by (at_most p) r k = r k
    by unknown r k = r k

-- no leaf is exact
none_exact : (v : List ℤ) (plan : Finding → Plan) (n : ℕ) (ls : List Leaf) → exact_vectors (map seen_of ls) ≡ [] → first_choice (is_exact_at v) plan n ls ≡ finish
none_exact v plan n [] k = refl
none_exact v plan n (leaf_barred ∷ ls) k = none_exact v plan n ls k
none_exact v plan n (leaf_skipped ∷ ls) k = none_exact v plan n ls k
none_exact v plan n (leaf_bound m ∷ ls) k = none_exact v plan n ls k
none_exact v plan n (leaf_node w f ∷ ls) k = by f.verdict (none_exact v plan n ls) k
  where
    by : (x : Verdict) → (exact_vectors (map seen_of ls) ≡ [] → first_choice (is_exact_at v) plan n ls ≡ finish) → exact_vectors (seen_node x ∷ map seen_of ls) ≡ [] →
        cond (is_exact_at v x) (choose (drop n w) (plan f)) (first_choice (is_exact_at v) plan n ls) ≡ finish
    by lost r k = r k
    by (exact u) r k = cc
    by (at_most p) r k = r k
    by unknown r k = r k

-- a leaf that isn't exact
pub best_same : (d : List Condition) (n : ℕ) (o : Option Best) (ls : List Leaf) (l : Leaf) → exact_vectors (seen_of l ∷ []) ≡ [] → KeepsBest d n o ls → KeepsBest d n o (ls ++ l ∷ [])
best_same d n None ls l e k = vectors_same ls l e ∙ k
best_same d n (Some b) ls l e k =
    let q = vectors_same ls l e in
    record {
      some = ap is_none_of q ∙ k.some;
      vector = k.vector ∙ ap (best_vector d) (sym q);
      none_better = subst (NoneBetter d b.vector) (sym q) k.none_better;
      first = choice_some (is_exact_at b.vector) (λ f. f.strategy) n ls (l ∷ []) b.tuple (plan_of b.plan) k.first;
    }

-- an exact leaf that is no better
pub best_kept : (d : List Condition) (n : ℕ) (o : Option Best) (ls : List Leaf) (w : List ℤ) (f : Finding) (v : List ℤ) → wins_over d o v ≡ false → KeepsBest d n o ls → f.verdict ≡ exact v → KeepsBest d n o (ls ++ leaf_node w f ∷ [])
best_kept d n None ls w f v e k x = cc
best_kept d n (Some b) ls w f v e k x =
    let q = vectors_exact ls w f v x in
    let vs = exact_vectors (map seen_of ls) in
    record {
      some = ap is_none_of q ∙ some_more vs v;
      vector = k.vector ∙ sym (ap (best_vector d) q ∙ (best_more d vs v k.some ∙ ap (λ y. cond y v (best_vector d vs)) (ap (is_better_vector d v) (sym k.vector) ∙ e)));
      none_better = subst (NoneBetter d b.vector) (sym q) (none_better_more d b.vector v vs k.none_better e);
      first = choice_some (is_exact_at b.vector) (λ f. f.strategy) n ls (leaf_node w f ∷ []) b.tuple (plan_of b.plan) k.first;
    }

-- the choice of the leaf b
taken : (b : Best) (n : ℕ) (w : List ℤ) (f : Finding) → f.verdict ≡ exact b.vector → b.tuple ≡ drop n w → plan_of b.plan ≡ f.strategy → first_choice (is_exact_at b.vector) (λ f. f.strategy) n (leaf_node w f ∷ []) ≡ choose b.tuple (plan_of b.plan)
taken b n w f x t s =
    ap (λ y. cond y (choose (drop n w) f.strategy) finish) (ap (is_exact_at b.vector) x ∙ same_self b.vector)
    ∙ (ap (λ u. choose u f.strategy) (sym t) ∙ ap (choose b.tuple) (sym s))

-- an exact leaf that is the first, or better
pub best_taken : (d : List Condition) (n : ℕ) (o : Option Best) (b : Best) (ls : List Leaf) (w : List ℤ) (f : Finding) → wins_over d o b.vector ≡ true → KeepsBest d n o ls → f.verdict ≡ exact b.vector → b.tuple ≡ drop n w → plan_of b.plan ≡ f.strategy →
    IsBest d n b (ls ++ leaf_node w f ∷ [])
best_taken d n None b ls w f e k x t s =
    let v = b.vector in
    let q : exact_vectors (map seen_of (ls ++ leaf_node w f ∷ [])) ≡ v ∷ [] = vectors_exact ls w f v x ∙ ap (λ vs. vs ++ v ∷ []) k in
    record {
      some = ap is_none_of q;
      vector = sym (ap (best_vector d) q);
      none_better = subst (NoneBetter d v) (sym q) (no_better_self d v, tt);
      first = choice_none (is_exact_at v) (λ f. f.strategy) n ls (leaf_node w f ∷ []) (none_exact v (λ f. f.strategy) n ls k) ∙ taken b n w f x t s;
    }
best_taken d n (Some o) b ls w f e k x t s =
    let v = b.vector in
    let vs = exact_vectors (map seen_of ls) in
    let q = vectors_exact ls w f v x in
    record {
      some = ap is_none_of q ∙ some_more vs v;
      vector = sym (ap (best_vector d) q ∙ (best_more d vs v k.some ∙ ap (λ y. cond y v (best_vector d vs)) (ap (is_better_vector d v) (sym k.vector) ∙ e)));
      none_better = subst (NoneBetter d v) (sym q) (none_better_more d v v vs (none_better_than d v o.vector vs e k.none_better) (no_better_self d v));
      first = choice_none (is_exact_at v) (λ f. f.strategy) n ls (leaf_node w f ∷ []) (none_such d v o.vector (λ f. f.strategy) n ls e k.none_better) ∙ taken b n w f x t s;
    }
