-- The order of numbers and of vectors.
use Rattle.std.proofs.Common.{◌≡◌, ◌⊎◌, inl, inr, Bool, true, false, ◌&&◌, ◌||◌, cond, List, [], ◌∷◌, refl, sym, ap, ◌∙◌, arith, ℕ, ◌+◌, ◌<◌, ◌≤◌, length, get_or, drop, not, Ordering, Less, Equal, Greater}
use Rattle.std.specs.Prelude.{ℤ, int_lt}
use Rattle.std.specs.Ordering.{int_eq, ordering_index}
use Rattle.std.specs.Prelude.{◌==◌, min}
use Rattle.std.proofs.lemmas.List.{drop_more, drop_all}
use Rattle.std.proofs.lemmas.Int.{ints}
use Rattle.std.proofs.lemmas.Bool.Decides.{Decides-int_eq}
use Rattle.std.proofs.lemmas.Bool.{false_from_ne_true}
use Rattle.qc_model.specs.declared.problem.Sense.{Sense}
use Rattle.qc_model.specs.declared.problem.Sense.TheVariants.{Min, Max}
use Rattle.qc_model.specs.declared.problem.Condition.{Condition}
use Rattle.qc_model.specs.Optimal.{is_better}
use Rattle.qc_model.specs.Demands.{is_better_vector}
use Rattle.joins.specs.Order.{number_order, vector_order}
use Rattle.joins.specs.Bests.{better_of}

pub better_assoc : (s : Sense) (n m k : ℤ) → better_of s (better_of s n m) k ≡ better_of s n (better_of s m k)
better_assoc Min n m k = grind (arith, ints)
better_assoc Max n m k = grind (arith, ints)

abbrev pub then_order : Ordering → Ordering → Ordering
then_order Less o = Less
then_order Equal o = o
then_order Greater o = Greater

better_apart : (s : Sense) (x y : ℤ) → is_better s x y ≡ true → (is_better s y x ≡ false) × ((int_eq x y ≡ false) × (int_eq y x ≡ false))
better_apart Min x y h = (false_from_ne_true (int_lt y x) (λ e. omega (arith, ints)), (false_from_ne_true (int_eq x y) (λ e. (let k : x ≡ y = (Decides-int_eq x y).0 e in omega (arith, ints))), false_from_ne_true (int_eq y x) (λ e. (let k : y ≡ x = (Decides-int_eq y x).0 e in omega (arith, ints)))))
better_apart Max x y h = (false_from_ne_true (int_lt x y) (λ e. omega (arith, ints)), (false_from_ne_true (int_eq x y) (λ e. (let k : x ≡ y = (Decides-int_eq x y).0 e in omega (arith, ints))), false_from_ne_true (int_eq y x) (λ e. (let k : y ≡ x = (Decides-int_eq y x).0 e in omega (arith, ints)))))

neither : (s : Sense) (x y : ℤ) → is_better s x y ≡ false → is_better s y x ≡ false → x ≡ y
neither Min x y f g = omega (arith, ints)
neither Max x y f g = omega (arith, ints)

by_tests : (b1 b2 e1 e2 r1 r2 : Bool) → (b1 ≡ true → (b2 ≡ false) × ((e1 ≡ false) × (e2 ≡ false))) → (b2 ≡ true → (b1 ≡ false) × ((e2 ≡ false) × (e1 ≡ false))) → (b1 ≡ false → b2 ≡ false → (e1 ≡ true) × (e2 ≡ true)) →
    cond (b1 || (e1 && r1)) Less (cond (b2 || (e2 && r2)) Greater Equal) ≡ then_order (cond b1 Less (cond b2 Greater Equal)) (cond r1 Less (cond r2 Greater Equal))
by_tests true b2 e1 e2 r1 r2 f g h = refl
by_tests false true true e2 r1 r2 f g h = let q : true ≡ false = (g refl).1.1 in cc
by_tests false true false e2 r1 r2 f g h = refl
by_tests false false e1 e2 r1 r2 f g h = rw ((h refl refl).0, (h refl refl).1) refl

same_both : (s : Sense) (x y : ℤ) → is_better s x y ≡ false → is_better s y x ≡ false → (int_eq x y ≡ true) × (int_eq y x ≡ true)
same_both s x y f g = let e = neither s x y f g in ((Decides-int_eq x y).1 e, (Decides-int_eq y x).1 (sym e))

pub order_step : (c : Condition) (d : List Condition) (x y : ℤ) (v w : List ℤ) → vector_order (c ∷ d) (x ∷ v) (y ∷ w) ≡ then_order (number_order c.sense x y) (vector_order d v w)
order_step c d x y v w =
    by_tests (is_better c.sense x y) (is_better c.sense y x) (int_eq x y) (int_eq y x) (is_better_vector d v w) (is_better_vector d w v)
    (better_apart c.sense x y) (λ e. better_apart c.sense y x e) (same_both c.sense x y)

pub order_end : (d : List Condition) (v w : List ℤ) → (d ≡ []) ⊎ ((v ≡ []) ⊎ (w ≡ [])) → vector_order d v w ≡ Equal
order_end [] v w h = refl
order_end (c ∷ d) [] [] h = refl
order_end (c ∷ d) [] (y ∷ w) h = refl
order_end (c ∷ d) (x ∷ v) [] h = refl
order_end (c ∷ d) (x ∷ v) (y ∷ w) (inl e) = cc
order_end (c ∷ d) (x ∷ v) (y ∷ w) (inr (inl e)) = cc
order_end (c ∷ d) (x ∷ v) (y ∷ w) (inr (inr e)) = cc

order_at : (d : List Condition) (v w : List ℤ) (k : ℕ) (c : Condition) (x y : ℤ) → k < length d → k < length v → k < length w →
    vector_order (drop k d) (drop k v) (drop k w) ≡ then_order (number_order (get_or d k c).sense (get_or v k x) (get_or w k y)) (vector_order (drop (k + 1) d) (drop (k + 1) v) (drop (k + 1) w))
order_at d v w k c x y p q r =
    ap (λ (e : List Condition). vector_order e (drop k v) (drop k w)) (drop_more d k c p)
    ∙ ap (λ (e : List ℤ). vector_order (get_or d k c ∷ drop (k + 1) d) e (drop k w)) (drop_more v k x q)
    ∙ ap (λ (e : List ℤ). vector_order (get_or d k c ∷ drop (k + 1) d) (get_or v k x ∷ drop (k + 1) v) e) (drop_more w k y r)
    ∙ order_step (get_or d k c) (drop (k + 1) d) (get_or v k x) (get_or w k y) (drop (k + 1) v) (drop (k + 1) w)

differs : (o r : Ordering) (b : Bool) → b ≡ not (ordering_index o == ordering_index Equal) → b ≡ true → then_order o r ≡ o
differs Less r b e h = refl
differs Equal r b e h = cc
differs Greater r b e h = refl

same : (o r : Ordering) (b : Bool) → b ≡ not (ordering_index o == ordering_index Equal) → b ≡ false → then_order o r ≡ r
same Less r b e h = cc
same Equal r b e h = refl
same Greater r b e h = cc

pub order_found : (d : List Condition) (v w : List ℤ) (k : ℕ) (c : Condition) (x y : ℤ) (o : Ordering) (b : Bool) → k < length d → k < length v → k < length w →
    o ≡ number_order (get_or d k c).sense (get_or v k x) (get_or w k y) → b ≡ not (ordering_index o == ordering_index Equal) → b ≡ true →
    vector_order (drop k d) (drop k v) (drop k w) ≡ vector_order d v w → o ≡ vector_order d v w
order_found d v w k c x y o b p q r e n t i =
    sym (differs o (vector_order (drop (k + 1) d) (drop (k + 1) v) (drop (k + 1) w)) b n t)
    ∙ ap (λ z. then_order z (vector_order (drop (k + 1) d) (drop (k + 1) v) (drop (k + 1) w))) e
    ∙ sym (order_at d v w k c x y p q r) ∙ i

pub order_goes_on : (d : List Condition) (v w : List ℤ) (k : ℕ) (c : Condition) (x y : ℤ) (o : Ordering) (b : Bool) → k < length d → k < length v → k < length w →
    o ≡ number_order (get_or d k c).sense (get_or v k x) (get_or w k y) → b ≡ not (ordering_index o == ordering_index Equal) → b ≡ false →
    vector_order (drop k d) (drop k v) (drop k w) ≡ vector_order d v w → vector_order (drop (k + 1) d) (drop (k + 1) v) (drop (k + 1) w) ≡ vector_order d v w
order_goes_on d v w k c x y o b p q r e n t i =
    sym (same o (vector_order (drop (k + 1) d) (drop (k + 1) v) (drop (k + 1) w)) b n t)
    ∙ ap (λ z. then_order z (vector_order (drop (k + 1) d) (drop (k + 1) v) (drop (k + 1) w))) e
    ∙ sym (order_at d v w k c x y p q r) ∙ i

nothing_left : {X : Type 0} (xs : List X) (k : ℕ) → length xs ≤ k → drop k xs ≡ []
nothing_left xs k h = drop_all k xs h

shortest : (l m n k : ℕ) → min (min l m) n ≤ k → (l ≤ k) ⊎ ((m ≤ k) ⊎ (n ≤ k))
shortest l m n k h = grind arith

pub order_at_end : (d : List Condition) (v w : List ℤ) (k : ℕ) → min (min (length d) (length v)) (length w) ≤ k → vector_order (drop k d) (drop k v) (drop k w) ≡ vector_order d v w → Equal ≡ vector_order d v w
order_at_end d v w k h i =
    sym (order_end (drop k d) (drop k v) (drop k w) (elim (shortest (length d) (length v) (length w) k h) [
      | inl p ↦ inl (nothing_left d k p)
      | inr q ↦ elim q [ inl p ↦ inr (inl (nothing_left v k p)) | inr p ↦ inr (inr (nothing_left w k p)) ]
    ])) ∙ i

-- ---- vectors of which neither is better are the same
number_equal : (s : Sense) (x y : ℤ) → number_order s x y ≡ Equal → x ≡ y
number_equal s x y e = by (is_better s x y) (is_better s y x) refl refl e
  where
    by : (a b : Bool) → is_better s x y ≡ a → is_better s y x ≡ b → cond a Less (cond b Greater Equal) ≡ Equal → x ≡ y
    by true b p q h = cc
    by false true p q h = cc
    by false false p q h = neither s x y p q

then_equal : (o r : Ordering) → then_order o r ≡ Equal → (o ≡ Equal) × (r ≡ Equal)
then_equal Less r e = cc
then_equal Equal r e = (refl, e)
then_equal Greater r e = cc

pub same_vectors : (d : List Condition) (v w : List ℤ) → length v ≡ length d → length w ≡ length d → vector_order d v w ≡ Equal → v ≡ w
same_vectors [] [] [] l m e = refl
same_vectors [] [] (y ∷ w) l m e = absurd (omega (arith, m))
same_vectors [] (x ∷ v) w l m e = absurd (omega (arith, l))
same_vectors (c ∷ d) [] w l m e = absurd (omega (arith, l))
same_vectors (c ∷ d) (x ∷ v) [] l m e = absurd (omega (arith, m))
same_vectors (c ∷ d) (x ∷ v) (y ∷ w) l m e =
    let p = then_equal (number_order c.sense x y) (vector_order d v w) (sym (order_step c d x y v w) ∙ e) in
    let q : x ≡ y = number_equal c.sense x y p.0 in
    let r : v ≡ w = same_vectors d v w (omega (arith, l)) (omega (arith, m)) p.1 in
    ap (λ (z : ℤ). z ∷ v) q ∙ ap (λ (zs : List ℤ). y ∷ zs) r
