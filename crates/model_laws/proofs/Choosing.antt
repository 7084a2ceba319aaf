-- The verdict of an existential position means what it says, where those of its leaves do.
use Rattle.std.proofs.Common.{◌≡◌, ◌⊎◌, inl, inr, ℕ, suc, Bool, true, false, not, ◌&&◌, List, [], ◌∷◌, ◌++◌, map, length, refl, sym, ap, ◌∙◌, subst, ℤ, Option, Some, None, cond}
use Rattle.std.specs.Prelude.{IsTrue, drop}
use Rattle.std.specs.List.{list_all}
use Rattle.qc_model.specs.declared.problem.Kind.TheVariants.{Exists}
use Rattle.qc_model.specs.declared.problem.Sense.{Sense}
use Rattle.qc_model.specs.declared.problem.Scope.{Scope}
use Rattle.qc_model.specs.declared.problem.Condition.{Condition}
use Rattle.qc_model.specs.Content.{Game}
use Rattle.qc_model.specs.Lists.{Among}
use Rattle.qc_model.specs.Plan.{Plan, choose}
use Rattle.qc_model.specs.Value.{value}
use Rattle.qc_model.specs.Optimal.{is_better, Optimal}
use Rattle.qc_model.specs.Demands.{vector, is_better_vector, IsBestVector, with_condition}
use Rattle.qc_model.specs.Verdict.{Verdict, lost, exact, at_most, unknown, is_lost, is_exact, some_node, each_node, exact_vectors, bounds, is_none_of, first_value}
use Rattle.qc_model.specs.ExistsVerdict.{best_from, best_vector, best_number_from, best_number, beats, some_open, exists_verdict}
use Rattle.qc_model.proofs.Moves.{among_left, among_right}
use Rattle.qc_model.proofs.Vectors.{worse_through, none_beats_best, AllLong}
use Rattle.model_laws.specs.Positions.{Chosen, AtMost}
use Rattle.model_laws.specs.Verdicts.{Means, Claim, barred, skipped, marked, reaches, seen_in, none_skipped, EachChoice, HeldBy, IsFound, IsCovered}
use Rattle.model_laws.proofs.Better.{IsBetterVector, better_is, better_false, and_first, and_second, vector_not_better, vector_false}
use Rattle.model_laws.proofs.Folds.{not_better_self}
use Rattle.model_laws.proofs.Listed.{all_to}
use Rattle.model_laws.proofs.Existence.{better_chain}
use Rattle.model_laws.proofs.Choices.{BeatsBound, beats_is, best_same, not_beaten_by_best, not_beaten_by_bound, to_chosen, from_chosen, plain_position, condition_position}
use Rattle.model_laws.proofs.Joins.{best_at_most, means_cond, each_unskipped}

-- the best of some vectors is one of them
best_from_one : (e : List Condition) (v : List ℤ) (ws : List (List ℤ)) → Among (best_from e v ws) (v ∷ ws)
best_from_one e v [] = inl refl
best_from_one e v (w ∷ ws) = by (is_better_vector e w v) (best_from_one e w ws) (best_from_one e v ws)
  where
    by : (b : Bool) → Among (best_from e w ws) (w ∷ ws) → Among (best_from e v ws) (v ∷ ws) → Among (best_from e (cond b w v) ws) (v ∷ w ∷ ws)
    by true f h = inr f
    by false f h = elim h [ inl q ↦ inl q | inr n ↦ inr (inr n) ]

pub best_one : (e : List Condition) (vs : List (List ℤ)) → not (is_none_of vs) ≡ true → Among (best_vector e vs) vs
best_one e [] q = cc
best_one e (v ∷ vs) q = best_from_one e v vs

best_of_all : (e : List Condition) (vs : List (List ℤ)) → AllLong e vs → (v : List ℤ) → Among v vs → is_better_vector e v (best_vector e vs) ≡ false
best_of_all e [] l v m = absurd m
best_of_all e (w ∷ vs) l v m = none_beats_best e w vs l.0 l.1 v m

-- none is better than the best of some numbers that one of them holds back
turn : (s : Sense) (m n : ℤ) → is_better s m n ≡ true → is_better s n m ≡ false
turn s m n e = better_false s n m (λ k. not_better_self s m (better_chain s m n m (better_is s m n e) k))

first_kept : (s : Sense) (x n m : ℤ) (b : Bool) → is_better s m n ≡ b → is_better s x n ≡ false → is_better s x (cond b m n) ≡ false
first_kept s x n m true e h = worse_through s x n m h (turn s m n e)
first_kept s x n m false e h = h

second_kept : (s : Sense) (x n m : ℤ) (b : Bool) → is_better s m n ≡ b → is_better s x m ≡ false → is_better s x (cond b m n) ≡ false
second_kept s x n m true e h = h
second_kept s x n m false e h = worse_through s x m n h e

best_from_weaker : (s : Sense) (x n : ℤ) (ms : List ℤ) → is_better s x n ≡ false → is_better s x (best_number_from s n ms) ≡ false
best_from_weaker s x n [] h = h
best_from_weaker s x n (m ∷ ms) h = best_from_weaker s x (cond (is_better s m n) m n) ms (first_kept s x n m (is_better s m n) refl h)

best_among_weaker : (s : Sense) (x b n : ℤ) (ms : List ℤ) → Among b ms → is_better s x b ≡ false → is_better s x (best_number_from s n ms) ≡ false
best_among_weaker s x b n [] m h = absurd m
best_among_weaker s x b n (k ∷ ms) m h = elim m [
  | inl q ↦ best_from_weaker s x (cond (is_better s k n) k n) ms (second_kept s x n k (is_better s k n) refl (subst (λ z. is_better s x z ≡ false) q h))
  | inr r ↦ best_among_weaker s x b (cond (is_better s k n) k n) ms r h
]

pub best_weaker : (s : Sense) (x b : ℤ) (ns : List ℤ) → Among b ns → is_better s x b ≡ false → is_better s x (best_number s ns) ≡ false
best_weaker s x b [] m h = absurd m
best_weaker s x b (n ∷ ns) m h = elim m [ inl q ↦ best_from_weaker s x n ns (subst (λ z. is_better s x z ≡ false) q h) | inr r ↦ best_among_weaker s x b n ns r h ]

pub choose_vector : (g : Game) (e : List Condition) (a u : List ℤ) (r : Plan) → vector g e a (choose u r) ≡ vector g e (a ++ u) r
choose_vector g [] a u r = refl
choose_vector g (c ∷ e) a u r = refl

pub vector_long : (g : Game) (e : List Condition) (a : List ℤ) (s : Plan) → length (vector g e a s) ≡ length e
vector_long g [] a s = refl
vector_long g (c ∷ e) a s = ap suc (vector_long g e a s)

open_unskipped : (ls : List Claim) → some_open (map seen_in ls) ≡ false → none_skipped ls ≡ true
open_unskipped [] n = refl
open_unskipped (barred ∷ ls) n = open_unskipped ls n
open_unskipped (skipped ∷ ls) n = cc
open_unskipped (marked m ∷ ls) n = open_unskipped ls n
open_unskipped (reaches t lost ∷ ls) n = open_unskipped ls n
open_unskipped (reaches t (exact w) ∷ ls) n = open_unskipped ls n
open_unskipped (reaches t (at_most p) ∷ ls) n = open_unskipped ls n
open_unskipped (reaches t unknown ∷ ls) n = cc

-- some leaf is exact
any_exact : (ls : List Claim) → some_node is_exact (map seen_in ls) ≡ true → (w : List ℤ) × Among w (exact_vectors (map seen_in ls))
any_exact [] q = cc
any_exact (barred ∷ ls) q = any_exact ls q
any_exact (skipped ∷ ls) q = any_exact ls q
any_exact (marked m ∷ ls) q = any_exact ls q
any_exact (reaches t lost ∷ ls) q = any_exact ls q
any_exact (reaches t (exact w) ∷ ls) q = (w, inl refl)
any_exact (reaches t (at_most p) ∷ ls) q = any_exact ls q
any_exact (reaches t unknown ∷ ls) q = any_exact ls q

module _ (g : Game) (e : List Condition) (a : List ℤ) (R : List ℤ → Plan → Type 0) (Q : Plan → Type 0) where
  -- the vectors of the exact leaves have a value for each entry
  all_long : (ls : List Claim) → EachChoice g e a R Q ls → AllLong e (exact_vectors (map seen_in ls))
  all_long [] h = tt
  all_long (barred ∷ ls) h = all_long ls h.1
  all_long (skipped ∷ ls) h = all_long ls h.1
  all_long (marked m ∷ ls) h = all_long ls h.1
  all_long (reaches t lost ∷ ls) h = all_long ls h.1
  all_long (reaches t (exact w) ∷ ls) h = (let b = h.0.0 in (subst (λ (z : List ℤ). length z ≡ length e) b.some.2 (vector_long g e (a ++ t) b.some.0), all_long ls h.1))
  all_long (reaches t (at_most p) ∷ ls) h = all_long ls h.1
  all_long (reaches t unknown ∷ ls) h = all_long ls h.1

  at_leaf : (v t : List ℤ) (p s : Plan) → p ≡ choose t s → ¬ IsBetterVector e (vector g e (a ++ t) s) v → ¬ IsBetterVector e (vector g e a p) v
  at_leaf v t p s q m b = m (subst (λ y. IsBetterVector e y v) (ap (vector g e a) q ∙ choose_vector g e a t s) b)

  held_at : (e' : List Condition) (p : Plan) (m : ℤ) → HeldBy g e' a p m → AtMost g e' a (λ s. s ≡ p) m
  held_at [] p m h = tt
  held_at (c ∷ e') p m h = λ s q. subst (λ r. is_better c.sense (value g r c.target a) m ≡ false) (sym q) h

  -- where nothing is open, no plan that is found is better than v, if no exact leaf is and v beats each bound
  found_held : (v : List ℤ) (ls : List Claim) → EachChoice g e a R Q ls → some_open (map seen_in ls) ≡ false →
      ((w : List ℤ) → Among w (exact_vectors (map seen_in ls)) → ¬ IsBetterVector e w v) → ((b : ℤ) → Among b (bounds (map seen_in ls)) → BeatsBound e v b) →
      (p : Plan) → IsFound g e a R ls p → ¬ IsBetterVector e (vector g e a p) v
  found_held v [] h n f k p o = absurd o
  found_held v (barred ∷ ls) h n f k p o = found_held v ls h.1 n f k p o
  found_held v (skipped ∷ ls) h n f k p o = cc
  found_held v (marked m ∷ ls) h n f k p o = elim o [
    | inl q ↦ not_beaten_by_bound g e a (λ s. s ≡ p) v m (held_at e p m q) (k m (inl refl)) p refl
    | inr i ↦ found_held v ls h.1 n f (λ u j. k u (inr j)) p i
  ]
  found_held v (reaches t lost ∷ ls) h n f k p o = elim o [ inl q ↦ absurd (h.0.0 q.0 q.2) | inr i ↦ found_held v ls h.1 n f k p i ]
  found_held v (reaches t (exact w) ∷ ls) h n f k p o = elim o [
    | inl q ↦ at_leaf v t p q.0 q.1 (not_beaten_by_best g e (a ++ t) (R t) v w h.0.0 (f w (inl refl)) q.0 q.2)
    | inr i ↦ found_held v ls h.1 n (λ u j. f u (inr j)) k p i
  ]
  found_held v (reaches t (at_most b) ∷ ls) h n f k p o = elim o [
    | inl q ↦ at_leaf v t p q.0 q.1 (not_beaten_by_bound g e (a ++ t) (R t) v b h.0.0 (k b (inl refl)) q.0 q.2)
    | inr i ↦ found_held v ls h.1 n f (λ u j. k u (inr j)) p i
  ]
  found_held v (reaches t unknown ∷ ls) h n f k p o = cc

  -- an exact leaf's plan
  exact_plan : (ls : List Claim) (v : List ℤ) → EachChoice g e a R Q ls → Among v (exact_vectors (map seen_in ls)) → (p : Plan) × Q p × (vector g e a p ≡ v)
  exact_plan [] v h m = absurd m
  exact_plan (barred ∷ ls) v h m = exact_plan ls v h.1 m
  exact_plan (skipped ∷ ls) v h m = exact_plan ls v h.1 m
  exact_plan (marked n ∷ ls) v h m = exact_plan ls v h.1 m
  exact_plan (reaches t lost ∷ ls) v h m = exact_plan ls v h.1 m
  exact_plan (reaches t (exact w) ∷ ls) v h m = elim m [
    | inl q ↦ (let b = h.0.0 in (choose t b.some.0, h.0.1 b.some.0 b.some.1, choose_vector g e a t b.some.0 ∙ b.some.2 ∙ sym q))
    | inr n ↦ exact_plan ls v h.1 n
  ]
  exact_plan (reaches t (at_most p) ∷ ls) v h m = exact_plan ls v h.1 m
  exact_plan (reaches t unknown ∷ ls) v h m = exact_plan ls v h.1 m

  -- no plan is found where each leaf is lost and no mark holds any
  lost_leaves : (ls : List Claim) → EachChoice g e a R Q ls → each_node is_lost (map seen_in ls) ≡ true → ((b : ℤ) → Among b (bounds (map seen_in ls)) → (p : Plan) → ¬ HeldBy g e a p b) → (p : Plan) → ¬ IsFound g e a R ls p
  lost_leaves [] h q n p o = o
  lost_leaves (barred ∷ ls) h q n p o = lost_leaves ls h.1 q n p o
  lost_leaves (skipped ∷ ls) h q n p o = cc
  lost_leaves (marked m ∷ ls) h q n p o = elim o [ inl r ↦ n m (inl refl) p r | inr i ↦ lost_leaves ls h.1 q (λ b j. n b (inr j)) p i ]
  lost_leaves (reaches t lost ∷ ls) h q n p o = elim o [ inl r ↦ h.0.0 r.0 r.2 | inr i ↦ lost_leaves ls h.1 q n p i ]
  lost_leaves (reaches t (exact w) ∷ ls) h q n p o = cc
  lost_leaves (reaches t (at_most b) ∷ ls) h q n p o = cc
  lost_leaves (reaches t unknown ∷ ls) h q n p o = cc

  lost_mean : (ls : List Claim) → EachChoice g e a R Q ls → IsCovered g e a R Q ls → each_node is_lost (map seen_in ls) ≡ true → ((b : ℤ) → Among b (bounds (map seen_in ls)) → (p : Plan) → ¬ HeldBy g e a p b) → (p : Plan) → ¬ Q p
  lost_mean ls h k q n p o = lost_leaves ls h q n p (k (each_unskipped is_lost ls q) p o)

module _ (g : Game) (c : Condition) (d : List Condition) (a : List ℤ) (R : List ℤ → Plan → Type 0) (Q : Plan → Type 0) where
  pub exact_mean : (ls : List Claim) → EachChoice g (c ∷ d) a R Q ls → IsCovered g (c ∷ d) a R Q ls → some_open (map seen_in ls) ≡ false → not (is_none_of (exact_vectors (map seen_in ls))) ≡ true →
      list_all (beats c.sense (is_none_of d) (first_value (best_vector (c ∷ d) (exact_vectors (map seen_in ls))))) (bounds (map seen_in ls)) ≡ true →
      IsBestVector g (c ∷ d) a Q (best_vector (c ∷ d) (exact_vectors (map seen_in ls)))
  exact_mean ls h k n q w =
      let vs = exact_vectors (map seen_in ls) in
      let v = best_vector (c ∷ d) vs in
      record {
        some = exact_plan g (c ∷ d) a R Q ls v h (best_one (c ∷ d) vs q);
        none_better = λ p o. vector_false (c ∷ d) (vector g (c ∷ d) a p) v (found_held g (c ∷ d) a R Q v ls h n
            (λ u m. vector_not_better (c ∷ d) u v (best_of_all (c ∷ d) vs (all_long g (c ∷ d) a R Q ls h) u m))
            (λ b m. beats_is c d v b (all_to (beats c.sense (is_none_of d) (first_value v)) (bounds (map seen_in ls)) w b m))
            p (k (open_unskipped ls n) p o));
      }

  -- a number that holds the plan's first value back
  number : (ls : List Claim) → EachChoice g (c ∷ d) a R Q ls → some_open (map seen_in ls) ≡ false → (p : Plan) → IsFound g (c ∷ d) a R ls p →
      (b : ℤ) × (Among b (map first_value (exact_vectors (map seen_in ls))) ⊎ Among b (bounds (map seen_in ls))) × (is_better c.sense (value g p c.target a) b ≡ false)
  number [] h n p o = absurd o
  number (barred ∷ ls) h n p o = number ls h.1 n p o
  number (skipped ∷ ls) h n p o = cc
  number (marked m ∷ ls) h n p o = elim o [
    | inl q ↦ (m, inr (inl refl), q)
    | inr i ↦ (let r = number ls h.1 n p i in (r.0, elim r.1 [ inl x ↦ inl x | inr y ↦ inr (inr y) ], r.2))
  ]
  number (reaches t lost ∷ ls) h n p o = elim o [ inl q ↦ absurd (h.0.0 q.0 q.2) | inr i ↦ number ls h.1 n p i ]
  number (reaches t (exact w) ∷ ls) h n p o = elim o [
    | inl q ↦ (first_value w, inl (inl refl), subst (λ r. is_better c.sense (value g r c.target a) (first_value w) ≡ false) (sym q.1) (best_at_most g (c ∷ d) (a ++ t) (R t) w h.0.0 q.0 q.2))
    | inr i ↦ (let r = number ls h.1 n p i in (r.0, elim r.1 [ inl x ↦ inl (inr x) | inr y ↦ inr y ], r.2))
  ]
  number (reaches t (at_most b) ∷ ls) h n p o = elim o [
    | inl q ↦ (b, inr (inl refl), subst (λ r. is_better c.sense (value g r c.target a) b ≡ false) (sym q.1) (h.0.0 q.0 q.2))
    | inr i ↦ (let r = number ls h.1 n p i in (r.0, elim r.1 [ inl x ↦ inl x | inr y ↦ inr (inr y) ], r.2))
  ]
  number (reaches t unknown ∷ ls) h n p o = cc

  bound_mean : (ls : List Claim) → EachChoice g (c ∷ d) a R Q ls → IsCovered g (c ∷ d) a R Q ls → some_open (map seen_in ls) ≡ false →
      AtMost g (c ∷ d) a Q (best_number c.sense (map first_value (exact_vectors (map seen_in ls)) ++ bounds (map seen_in ls)))
  bound_mean ls h k n = λ p o.
      (let fs = map first_value (exact_vectors (map seen_in ls)) in
      let bs = bounds (map seen_in ls) in
      let r = number ls h n p (k (open_unskipped ls n) p o) in
      best_weaker c.sense (value g p c.target a) r.0 (fs ++ bs) (elim r.1 [ inl x ↦ among_left r.0 fs bs x | inr y ↦ among_right r.0 fs bs y ]) r.2)

no_mark : (ms : List ℤ) → is_none_of ms ≡ true → (b : ℤ) → ¬ Among b ms
no_mark [] q b m = m
no_mark (n ∷ ms) q b m = cc

-- the verdict of the choices means what it says
pub choices_mean : (g : Game) (e : List Condition) (a : List ℤ) (R : List ℤ → Plan → Type 0) (Q : Plan → Type 0) (ls : List Claim) → EachChoice g e a R Q ls → IsCovered g e a R Q ls →
    Means g e a Q (exists_verdict None e (map seen_in ls))
choices_mean g [] a R Q ls h k =
    means_cond g [] a Q _ _ (some_node is_exact (map seen_in ls))
    (λ q. let w = any_exact ls q in let p = exact_plan g [] a R Q ls w.0 h w.1 in record { some = (p.0, p.1, refl); none_better = λ s o. refl })
    (λ _. means_cond g [] a Q _ _ (each_node is_lost (map seen_in ls))
    (λ q. lost_mean g [] a R Q ls h k q (λ b m p x. x))
    (λ _. tt))
choices_mean g (c ∷ d) a R Q ls h k =
    let vs = exact_vectors (map seen_in ls) in
    let bs = bounds (map seen_in ls) in
    let beaten = list_all (beats c.sense (is_none_of d) (first_value (best_vector (c ∷ d) vs))) bs in
    means_cond g (c ∷ d) a Q _ _ (each_node is_lost (map seen_in ls) && is_none_of bs)
    (λ q. lost_mean g (c ∷ d) a R Q ls h k (and_first (each_node is_lost (map seen_in ls)) (is_none_of bs) q)
    (λ b m p x. no_mark bs (and_second (each_node is_lost (map seen_in ls)) (is_none_of bs) q) b m))
    (λ _. means_cond g (c ∷ d) a Q _ _ (some_open (map seen_in ls))
    (λ _. tt)
    (λ n. means_cond g (c ∷ d) a Q _ _ (not (is_none_of vs) && beaten)
    (λ q. exact_mean g c d a R Q ls h k n (and_first (not (is_none_of vs)) beaten q) (and_second (not (is_none_of vs)) beaten q))
    (λ _. bound_mean g c d a R Q ls h k n)))

-- a condition takes the first value as its own, and leaves no bound
abbrev position_verdict : Option Condition → Verdict → Verdict
position_verdict None v = v
position_verdict (Some c) lost = lost
position_verdict (Some c) (exact w) = exact (drop 1 w)
position_verdict (Some c) (at_most p) = unknown
position_verdict (Some c) unknown = unknown

position_by : (c : Condition) (x y z : Bool) (w : List ℤ) (n : ℤ) →
    cond x lost (cond y unknown (cond z (exact (drop 1 w)) unknown)) ≡ position_verdict (Some c) (cond x lost (cond y unknown (cond z (exact w) (at_most n))))
position_by c true y z w n = refl
position_by c false true z w n = refl
position_by c false false true w n = refl
position_by c false false false w n = refl

position_is : (x : Option Condition) (d : List Condition) (ls : List Claim) → exists_verdict x (with_condition x d) (map seen_in ls) ≡ position_verdict x (exists_verdict None (with_condition x d) (map seen_in ls))
position_is None d ls = refl
position_is (Some c) d ls =
    let vs = exact_vectors (map seen_in ls) in
    let bs = bounds (map seen_in ls) in
    position_by c (each_node is_lost (map seen_in ls) && is_none_of bs) (some_open (map seen_in ls)) (not (is_none_of vs) && list_all (beats c.sense (is_none_of d) (first_value (best_vector (c ∷ d) vs))) bs)
    (best_vector (c ∷ d) vs) (best_number c.sense (map first_value vs ++ bs))

position_means : (g : Game) (later : List Scope) (x : Option Condition) (i : ℕ) (a : List ℤ) (d : List Condition) (v : Verdict) → Means g (with_condition x d) a (Chosen g i a (Optimal g later (suc i))) v →
    Means g d a (Optimal g (record { kind = Exists; condition = x } ∷ later) i a) (position_verdict x v)
position_means g later None i a d lost h = λ s o. h s (to_chosen None g later i a s o)
position_means g later None i a d (exact w) h = plain_position g later i a d w h
position_means g later None i a [] (at_most p) h = tt
position_means g later None i a (c ∷ d) (at_most p) h = λ s o. h s (to_chosen None g later i a s o)
position_means g later None i a d unknown h = tt
position_means g later (Some c) i a d lost h = λ s o. h s (to_chosen (Some c) g later i a s o)
position_means g later (Some c) i a d (exact []) h = let q : value g h.some.0 c.target a ∷ vector g d a h.some.0 ≡ [] = h.some.2 in cc
position_means g later (Some c) i a d (exact (x ∷ w)) h = condition_position g later i a c d x w h
position_means g later (Some c) i a d (at_most p) h = tt
position_means g later (Some c) i a d unknown h = tt

-- the verdict of the position means what it says
pub position_mean : (g : Game) (later : List Scope) (x : Option Condition) (i : ℕ) (a : List ℤ) (d : List Condition) (ls : List Claim) →
    EachChoice g (with_condition x d) a (λ t s. Optimal g later (suc i) (a ++ t) s) (Chosen g i a (Optimal g later (suc i))) ls →
    IsCovered g (with_condition x d) a (λ t s. Optimal g later (suc i) (a ++ t) s) (Chosen g i a (Optimal g later (suc i))) ls →
    Means g d a (Optimal g (record { kind = Exists; condition = x } ∷ later) i a) (exists_verdict x (with_condition x d) (map seen_in ls))
position_mean g later x i a d ls h k =
    subst (Means g d a (Optimal g (record { kind = Exists; condition = x } ∷ later) i a)) (sym (position_is x d ls))
    (position_means g later x i a d (exists_verdict None (with_condition x d) (map seen_in ls))
    (choices_mean g (with_condition x d) a (λ t s. Optimal g later (suc i) (a ++ t) s) (Chosen g i a (Optimal g later (suc i))) ls h k))

-- the same of the same plans
means_same : (g : Game) (d : List Condition) (a : List ℤ) (P Q : Plan → Type 0) (v : Verdict) → ((s : Plan) → P s → Q s) → ((s : Plan) → Q s → P s) → Means g d a P v → Means g d a Q v
means_same g d a P Q lost f b h = λ s o. h s (b s o)
means_same g d a P Q (exact w) f b h = best_same g d a P Q w f b h
means_same g [] a P Q (at_most p) f b h = tt
means_same g (c ∷ d) a P Q (at_most p) f b h = λ s o. h s (b s o)
means_same g d a P Q unknown f b h = tt

-- without a condition also of a part of the plans
pub plain_part_mean : (g : Game) (later : List Scope) (i : ℕ) (a : List ℤ) (d : List Condition) (here : Plan → Bool) (v : Verdict) →
    Means g d a (λ p. Chosen g i a (Optimal g later (suc i)) p × IsTrue (here p)) v →
    Means g d a (λ p. Optimal g (record { kind = Exists; condition = None } ∷ later) i a p × IsTrue (here p)) v
plain_part_mean g later i a d here v h =
    means_same g d a (λ p. Chosen g i a (Optimal g later (suc i)) p × IsTrue (here p)) (λ p. Optimal g (record { kind = Exists; condition = None } ∷ later) i a p × IsTrue (here p)) v
    (λ s o. (from_chosen g later i a s o.0, o.1)) (λ s o. (to_chosen None g later i a s o.0, o.1)) h
