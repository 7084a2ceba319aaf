-- What the leaves and marks of a scope of the player say of its node.
use Rattle.std.proofs.Common.{◌≡◌, inl, inr, ℕ, suc, Bool, true, false, not, ◌&&◌, List, [], ◌∷◌, ◌++◌, map, length, refl, sym, subst, ℤ, None, cond}
use Rattle.std.specs.List.{list_all}
use Rattle.std.proofs.lemmas.Bool.{or_parts}
use Rattle.qc_model.specs.declared.problem.Condition.{Condition}
use Rattle.qc_model.specs.declared.problem.Scope.{Scope}
use Rattle.qc_model.specs.Content.{Game}
use Rattle.qc_model.specs.Domains.{Box}
use Rattle.qc_model.specs.Game.{IsMove}
use Rattle.qc_model.specs.Lists.{Among}
use Rattle.qc_model.specs.Plan.{Plan, choose}
use Rattle.qc_model.specs.Value.{value}
use Rattle.qc_model.specs.Optimal.{is_better, Optimal}
use Rattle.qc_model.specs.Demands.{vector, is_better_vector}
use Rattle.qc_model.specs.Verdict.{Verdict, lost, exact, at_most, unknown, Seen, seen_barred, seen_skipped, seen_bound, seen_node, is_lost, is_exact, some_node, each_node, exact_vectors, bounds, is_none_of, first_value}
use Rattle.qc_model.specs.ExistsVerdict.{best_vector, best_number, beats, some_open, exists_verdict}
use Rattle.qc_model.proofs.Moves.{among_left, among_right}
use Rattle.qc_model.proofs.Vectors.{no_better_through, none_beats_best, AllLong}
use Rattle.model_laws.specs.Positions.{existential}
use Rattle.model_laws.proofs.Better.{and_first, and_second, vector_not_better, vector_false}
use Rattle.model_laws.proofs.Choices.{beats_is, from_chosen}
use Rattle.model_laws.proofs.Choosing.{best_one, best_weaker, vector_long}
use Rattle.model_laws.proofs.Listed.{all_to}
use Rattle.dense_meaning.specs.Throughout.{IsOptimalWithin, Says}
use Rattle.dense_laws.specs.Says.{SomeHolds, EachReached}
use Rattle.dense_laws.proofs.Held.{lost_holds_none, lost_holds_none_plain, held_by_best, number}

-- by a test
pub says_cond : (g : Game) (later : List Scope) (i : ℕ) (d : List Condition) (box : Box) (a : List ℤ) (v w : Verdict) (b : Bool) →
    (b ≡ true → Says v g later i d box a) → (b ≡ false → Says w g later i d box a) → Says (cond b v w) g later i d box a
says_cond g later i d box a v w true f h = f refl
says_cond g later i d box a v w false f h = h refl

module _ (g : Game) (later : List Scope) (i : ℕ) (e : List Condition) (a : List ℤ) where
  -- a choice, with an optimal strategy after it, that has the vector
  abbrev pub HasChoice : List ℤ → Type 0
  HasChoice v = (t : List ℤ) × (r : Plan) × IsMove g i a t × Optimal g later (suc i) (a ++ t) r × (vector g e a (choose t r) ≡ v)

  pub choice_of : (xs : List Seen) → EachReached g later i e a xs → (v : List ℤ) → Among v (exact_vectors xs) → HasChoice v
  choice_of [] h v m = absurd m
  choice_of (seen_barred ∷ xs) h v m = choice_of xs h.1 v m
  choice_of (seen_skipped ∷ xs) h v m = choice_of xs h.1 v m
  choice_of (seen_bound n ∷ xs) h v m = choice_of xs h.1 v m
  choice_of (seen_node lost ∷ xs) h v m = choice_of xs h.1 v m
  choice_of (seen_node (exact w) ∷ xs) h v m = elim m [ inl q ↦ subst HasChoice (sym q) h.0 | inr n ↦ choice_of xs h.1 v n ]
  choice_of (seen_node (at_most p) ∷ xs) h v m = choice_of xs h.1 v m
  choice_of (seen_node unknown ∷ xs) h v m = choice_of xs h.1 v m

  -- so it has a value for each entry
  pub choice_long : (v : List ℤ) → HasChoice v → length v ≡ length e
  choice_long v h = subst (λ (z : List ℤ). length z ≡ length e) h.4 (vector_long g e a (choose h.0 h.1))

all_long : (e : List Condition) (vs : List (List ℤ)) → ((v : List ℤ) → Among v vs → length v ≡ length e) → AllLong e vs
all_long e [] f = tt
all_long e (v ∷ vs) f = (f v (inl refl), all_long e vs (λ u m. f u (inr m)))

best_of_all : (e : List Condition) (vs : List (List ℤ)) → AllLong e vs → (v : List ℤ) → Among v vs → is_better_vector e v (best_vector e vs) ≡ false
best_of_all e [] l v m = absurd m
best_of_all e (w ∷ vs) l v m = none_beats_best e w vs l.0 l.1 v m

-- the first value of a vector that isn't better
pub first_no_better : (g : Game) (c : Condition) (d : List Condition) (a : List ℤ) (r : Plan) (w : List ℤ) → length w ≡ length (c ∷ d) → is_better_vector (c ∷ d) (vector g (c ∷ d) a r) w ≡ false →
    is_better c.sense (value g r c.target a) (first_value w) ≡ false
first_no_better g c d a r [] l h = cc
first_no_better g c d a r (y ∷ w) l h = (or_parts _ _ h).0

some_exact : (xs : List Seen) → some_node is_exact xs ≡ true → (w : List ℤ) × Among w (exact_vectors xs)
some_exact [] q = cc
some_exact (seen_barred ∷ xs) q = some_exact xs q
some_exact (seen_skipped ∷ xs) q = some_exact xs q
some_exact (seen_bound m ∷ xs) q = some_exact xs q
some_exact (seen_node lost ∷ xs) q = some_exact xs q
some_exact (seen_node (exact w) ∷ xs) q = (w, inl refl)
some_exact (seen_node (at_most p) ∷ xs) q = some_exact xs q
some_exact (seen_node unknown ∷ xs) q = some_exact xs q

module _ (g : Game) (c : Condition) (d : List Condition) (later : List Scope) (i : ℕ) (a : List ℤ) (xs : List Seen) (reached : EachReached g later i (c ∷ d) a xs) where
  abbrev vectors : List (List ℤ)
  vectors = exact_vectors xs

  long_at : (w : List ℤ) → Among w (exact_vectors xs) → length w ≡ length (c ∷ d)
  long_at w m = choice_long g later i (c ∷ d) a w (choice_of g later i (c ∷ d) a xs reached w m)

  -- nothing that is held is better than the best
  pub held_best : some_open xs ≡ false → list_all (beats c.sense (is_none_of d) (first_value (best_vector (c ∷ d) (exact_vectors xs)))) (bounds xs) ≡ true →
      (r : Plan) → SomeHolds g (c ∷ d) a r xs → is_better_vector (c ∷ d) (vector g (c ∷ d) a r) (best_vector (c ∷ d) (exact_vectors xs)) ≡ false
  held_best n w r h =
      let v = best_vector (c ∷ d) (exact_vectors xs) in
      vector_false (c ∷ d) (vector g (c ∷ d) a r) v
      (held_by_best g c d a r v xs n
      (λ u m q. vector_not_better (c ∷ d) (vector g (c ∷ d) a r) v
      (no_better_through (c ∷ d) (vector g (c ∷ d) a r) u v (long_at u m) q (best_of_all (c ∷ d) (exact_vectors xs) (all_long (c ∷ d) (exact_vectors xs) long_at) u m)))
      (λ b m. beats_is c d v b (all_to (beats c.sense (is_none_of d) (first_value v)) (bounds xs) w b m))
      h)

  pub held_number : some_open xs ≡ false → (r : Plan) → SomeHolds g (c ∷ d) a r xs → is_better c.sense (value g r c.target a) (best_number c.sense (map first_value (exact_vectors xs) ++ bounds xs)) ≡ false
  held_number n r h =
      let k = number g c d a r xs n (λ w m q. first_no_better g c d a r w (long_at w m) q) h in
      best_weaker c.sense (value g r c.target a) k.0 (map first_value (exact_vectors xs) ++ bounds xs)
      (elim k.1 [ inl x ↦ among_left k.0 (map first_value (exact_vectors xs)) (bounds xs) x | inr y ↦ among_right k.0 (map first_value (exact_vectors xs)) (bounds xs) y ]) k.2

-- at a scope without a condition each verdict of the table holds in the box
pub plain_scope_says : (g : Game) (later : List Scope) (i : ℕ) (d : List Condition) (box : Box) (a : List ℤ) (xs : List Seen) →
    ((r : Plan) → IsOptimalWithin g (existential None ∷ later) i box a r → SomeHolds g d a r xs) → EachReached g later i d a xs →
    Says (exists_verdict None d xs) g (existential None ∷ later) i d box a
plain_scope_says g later i [] box a xs held reached =
    says_cond g (existential None ∷ later) i [] box a _ _ (some_node is_exact xs)
    (λ q. let w = some_exact xs q in
    let k = choice_of g later i [] a xs reached w.0 w.1 in
    record { some = (choose k.0 k.1, from_chosen g later i a (choose k.0 k.1) (record { is_move = k.2; after = k.3 }), refl); best = λ r o. refl })
    (λ _. says_cond g (existential None ∷ later) i [] box a _ _ (each_node is_lost xs)
    (λ q. λ r o. lost_holds_none_plain g a r xs q (held r o))
    (λ _. tt))
plain_scope_says g later i (c ∷ d) box a xs held reached =
    let vs = exact_vectors xs in
    let bs = bounds xs in
    let v = best_vector (c ∷ d) vs in
    let beaten = list_all (beats c.sense (is_none_of d) (first_value v)) bs in
    says_cond g (existential None ∷ later) i (c ∷ d) box a _ _ (each_node is_lost xs && is_none_of bs)
    (λ q. λ r o. lost_holds_none g (c ∷ d) a r xs (and_first (each_node is_lost xs) (is_none_of bs) q) (and_second (each_node is_lost xs) (is_none_of bs) q) (held r o))
    (λ _. says_cond g (existential None ∷ later) i (c ∷ d) box a _ _ (some_open xs)
    (λ _. tt)
    (λ n. says_cond g (existential None ∷ later) i (c ∷ d) box a _ _ (not (is_none_of vs) && beaten)
    (λ q. let k = choice_of g later i (c ∷ d) a xs reached v (best_one (c ∷ d) vs (and_first (not (is_none_of vs)) beaten q)) in
    record {
      some = (choose k.0 k.1, from_chosen g later i a (choose k.0 k.1) (record { is_move = k.2; after = k.3 }), k.4);
      best = λ r o. held_best g c d later i a xs reached n (and_second (not (is_none_of vs)) beaten q) r (held r o);
    })
    (λ _. λ r o. held_number g c d later i a xs reached n r (held r o))))
