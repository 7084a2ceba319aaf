-- What the table of verdicts concludes at a scope of the player, of any strategies each of which is held by a leaf or a mark.
use Rattle.std.proofs.Common.{◌≡◌, ◌⊎◌, inl, inr, true, false, List, [], ◌∷◌, map, refl, sym, subst, ℤ}
use Rattle.qc_model.specs.declared.problem.Condition.{Condition}
use Rattle.qc_model.specs.Content.{Game}
use Rattle.qc_model.specs.Lists.{Among}
use Rattle.qc_model.specs.Plan.{Plan}
use Rattle.qc_model.specs.Value.{value}
use Rattle.qc_model.specs.Optimal.{is_better}
use Rattle.qc_model.specs.Demands.{vector, is_better_vector}
use Rattle.qc_model.specs.Verdict.{lost, exact, at_most, unknown, Seen, seen_barred, seen_skipped, seen_bound, seen_node, is_lost, each_node, exact_vectors, bounds, is_none_of, first_value}
use Rattle.qc_model.specs.ExistsVerdict.{some_open}
use Rattle.model_laws.proofs.Better.{IsBetterVector}
use Rattle.model_laws.proofs.Choices.{BeatsBound, not_beaten_by_bound}
use Rattle.dense_laws.specs.Says.{SomeHolds}

module _ (g : Game) (e : List Condition) (a : List ℤ) (r : Plan) where
  -- nothing holds it where all is lost and no mark stands
  pub lost_holds_none : (xs : List Seen) → each_node is_lost xs ≡ true → is_none_of (bounds xs) ≡ true → ¬ SomeHolds g e a r xs
  lost_holds_none [] q n h = h
  lost_holds_none (seen_barred ∷ xs) q n h = elim h [ inl k ↦ k | inr k ↦ lost_holds_none xs q n k ]
  lost_holds_none (seen_skipped ∷ xs) q n h = cc
  lost_holds_none (seen_bound m ∷ xs) q n h = cc
  lost_holds_none (seen_node lost ∷ xs) q n h = elim h [ inl k ↦ k | inr k ↦ lost_holds_none xs q n k ]
  lost_holds_none (seen_node (exact v) ∷ xs) q n h = cc
  lost_holds_none (seen_node (at_most p) ∷ xs) q n h = cc
  lost_holds_none (seen_node unknown ∷ xs) q n h = cc

-- where nothing is demanded a mark holds none
pub lost_holds_none_plain : (g : Game) (a : List ℤ) (r : Plan) (xs : List Seen) → each_node is_lost xs ≡ true → ¬ SomeHolds g [] a r xs
lost_holds_none_plain g a r [] q h = h
lost_holds_none_plain g a r (seen_barred ∷ xs) q h = elim h [ inl k ↦ k | inr k ↦ lost_holds_none_plain g a r xs q k ]
lost_holds_none_plain g a r (seen_skipped ∷ xs) q h = cc
lost_holds_none_plain g a r (seen_bound m ∷ xs) q h = elim h [ inl k ↦ k | inr k ↦ lost_holds_none_plain g a r xs q k ]
lost_holds_none_plain g a r (seen_node lost ∷ xs) q h = elim h [ inl k ↦ k | inr k ↦ lost_holds_none_plain g a r xs q k ]
lost_holds_none_plain g a r (seen_node (exact v) ∷ xs) q h = cc
lost_holds_none_plain g a r (seen_node (at_most p) ∷ xs) q h = cc
lost_holds_none_plain g a r (seen_node unknown ∷ xs) q h = cc

module _ (g : Game) (c : Condition) (d : List Condition) (a : List ℤ) (r : Plan) where
  -- it isn't better than v, if no exact leaf is and v beats each bound
  pub held_by_best : (v : List ℤ) (xs : List Seen) → some_open xs ≡ false → ((w : List ℤ) → Among w (exact_vectors xs) → is_better_vector (c ∷ d) (vector g (c ∷ d) a r) w ≡ false → ¬ IsBetterVector (c ∷ d) (vector g (c ∷ d) a r) v) →
      ((b : ℤ) → Among b (bounds xs) → BeatsBound (c ∷ d) v b) → SomeHolds g (c ∷ d) a r xs → ¬ IsBetterVector (c ∷ d) (vector g (c ∷ d) a r) v
  held_by_best v [] n f k h = absurd h
  held_by_best v (seen_barred ∷ xs) n f k h = elim h [ inl q ↦ absurd q | inr q ↦ held_by_best v xs n f k q ]
  held_by_best v (seen_skipped ∷ xs) n f k h = cc
  held_by_best v (seen_bound m ∷ xs) n f k h = elim h [
    | inl q ↦ not_beaten_by_bound g (c ∷ d) a (λ s. s ≡ r) v m (λ s e. subst (λ z. is_better c.sense (value g z c.target a) m ≡ false) (sym e) q) (k m (inl refl)) r refl
    | inr q ↦ held_by_best v xs n f (λ b j. k b (inr j)) q
  ]
  held_by_best v (seen_node lost ∷ xs) n f k h = elim h [ inl q ↦ absurd q | inr q ↦ held_by_best v xs n f k q ]
  held_by_best v (seen_node (exact w) ∷ xs) n f k h = elim h [ inl q ↦ f w (inl refl) q | inr q ↦ held_by_best v xs n (λ u j. f u (inr j)) k q ]
  held_by_best v (seen_node (at_most p) ∷ xs) n f k h = elim h [
    | inl q ↦ not_beaten_by_bound g (c ∷ d) a (λ s. s ≡ r) v p (λ s e. subst (λ z. is_better c.sense (value g z c.target a) p ≡ false) (sym e) q) (k p (inl refl)) r refl
    | inr q ↦ held_by_best v xs n f (λ b j. k b (inr j)) q
  ]
  held_by_best v (seen_node unknown ∷ xs) n f k h = cc

  -- a number holds its first value back
  pub number : (xs : List Seen) → some_open xs ≡ false → ((w : List ℤ) → Among w (exact_vectors xs) → is_better_vector (c ∷ d) (vector g (c ∷ d) a r) w ≡ false → is_better c.sense (value g r c.target a) (first_value w) ≡ false) → SomeHolds g (c ∷ d) a r xs →
      (b : ℤ) × (Among b (map first_value (exact_vectors xs)) ⊎ Among b (bounds xs)) × (is_better c.sense (value g r c.target a) b ≡ false)
  number [] n f h = absurd h
  number (seen_barred ∷ xs) n f h = elim h [ inl q ↦ absurd q | inr q ↦ number xs n f q ]
  number (seen_skipped ∷ xs) n f h = cc
  number (seen_bound m ∷ xs) n f h = elim h [
    | inl q ↦ (m, inr (inl refl), q)
    | inr i ↦ (let k = number xs n f i in (k.0, elim k.1 [ inl x ↦ inl x | inr y ↦ inr (inr y) ], k.2))
  ]
  number (seen_node lost ∷ xs) n f h = elim h [ inl q ↦ absurd q | inr q ↦ number xs n f q ]
  number (seen_node (exact w) ∷ xs) n f h = elim h [
    | inl q ↦ (first_value w, inl (inl refl), f w (inl refl) q)
    | inr i ↦ (let k = number xs n (λ u j. f u (inr j)) i in (k.0, elim k.1 [ inl x ↦ inl (inr x) | inr y ↦ inr y ], k.2))
  ]
  number (seen_node (at_most p) ∷ xs) n f h = elim h [
    | inl q ↦ (p, inr (inl refl), q)
    | inr i ↦ (let k = number xs n f i in (k.0, elim k.1 [ inl x ↦ inl x | inr y ↦ inr (inr y) ], k.2))
  ]
  number (seen_node unknown ∷ xs) n f h = cc
