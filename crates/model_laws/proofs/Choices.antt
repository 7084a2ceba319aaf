-- Existential positions: the best vector of the choices, from what is known after each tuple.
use Rattle.std.proofs.Common.{◌≡◌, ◌⊎◌, inl, inr, ℕ, true, false, ◌&&◌, Option, suc, List, [], ◌∷◌, ◌++◌, refl, sym, ◌∙◌, subst, ℤ, Some, None}
use Rattle.std.specs.Ordering.{int_eq}
use Rattle.std.proofs.lemmas.Bool.Decides.{Decides-int_eq}
use Rattle.std.proofs.lemmas.Bool.{or_cases}
use Rattle.qc_model.specs.declared.problem.Kind.TheVariants.{Exists}
use Rattle.qc_model.specs.declared.problem.Scope.{Scope}
use Rattle.qc_model.specs.declared.problem.Condition.{Condition}
use Rattle.qc_model.specs.Content.{Game}
use Rattle.qc_model.specs.Game.{IsMove}
use Rattle.qc_model.specs.Plan.{Plan, finish, choose, answer}
use Rattle.qc_model.specs.Value.{value}
use Rattle.qc_model.specs.Optimal.{is_better, Optimal}
use Rattle.qc_model.specs.Demands.{vector, is_better_vector, IsBestVector}
use Rattle.qc_model.specs.Verdict.{is_none_of, first_value}
use Rattle.qc_model.specs.ExistsVerdict.{beats}
use Rattle.model_laws.specs.Positions.{Chosen, AtMost}
use Rattle.model_laws.proofs.Better.{IsBetter, IsBetterVector, better_is, and_first, and_second, not_better, better_false, vector_not_better, vector_false, unbeaten}
use Rattle.model_laws.proofs.Existence.{neither_better, better_chain, vector_chain, vector_or_not, vectors_same}

-- the first entry's value of w is better than p, or it is p and the list has one entry
abbrev pub BeatsBound : List Condition → List ℤ → ℤ → Type 0
BeatsBound [] w p = ⊥
BeatsBound (c ∷ d) w p = IsBetter c.sense (first_value w) p ⊎ ((first_value w ≡ p) × (d ≡ []))

pub beats_is : (c : Condition) (d : List Condition) (w : List ℤ) (p : ℤ) → beats c.sense (is_none_of d) (first_value w) p ≡ true → BeatsBound (c ∷ d) w p
beats_is c d w p q = elim (or_cases (is_better c.sense (first_value w) p) (is_none_of d && int_eq (first_value w) p) q) [
  | inl b ↦ inl (better_is c.sense (first_value w) p b)
  | inr r ↦ inr ((Decides-int_eq (first_value w) p).0 (and_second (is_none_of d) (int_eq (first_value w) p) r), none_is d (and_first (is_none_of d) (int_eq (first_value w) p) r))
]
  where
    none_is : (d : List Condition) → is_none_of d ≡ true → d ≡ []
    none_is [] h = refl
    none_is (c ∷ d) h = cc

-- the same best vector of the same plans
pub best_same : (g : Game) (d : List Condition) (a : List ℤ) (P Q : Plan → Type 0) (v : List ℤ) → ((s : Plan) → P s → Q s) → ((s : Plan) → Q s → P s) → IsBestVector g d a P v → IsBestVector g d a Q v
best_same g d a P Q v f b h = record { some = (h.some.0, f h.some.0 h.some.1, h.some.2); none_better = λ s o. h.none_better s (b s o) }

-- a vector best after one tuple, that none beats after another, is the best of the choices
pub best_choice : (g : Game) (e : List Condition) (i : ℕ) (a : List ℤ) (O : List ℤ → Plan → Type 0) (t w : List ℤ) → IsMove g i a t → IsBestVector g e (a ++ t) (O (a ++ t)) w →
    ((u : List ℤ) (r : Plan) → IsMove g i a u → O (a ++ u) r → is_better_vector e (vector g e (a ++ u) r) w ≡ false) → IsBestVector g e a (Chosen g i a O) w
best_choice g e i a O t w m b f = record {
  some = (choose t b.some.0, record { is_move = m; after = b.some.1 }, same t b.some.0 e ∙ b.some.2);
  none_better = beaten;
}
  where
    same : (u : List ℤ) (r : Plan) (e : List Condition) → vector g e a (choose u r) ≡ vector g e (a ++ u) r
    same u r [] = refl
    same u r (c ∷ e) = refl

    beaten : (s : Plan) → Chosen g i a O s → is_better_vector e (vector g e a s) w ≡ false
    beaten finish h = absurd h
    beaten (choose u r) h = subst (λ v. is_better_vector e v w ≡ false) (sym (same u r e)) (f u r h.is_move h.after)
    beaten (answer l) h = absurd h

-- what is not better than the best after a tuple is not better than a vector that this best doesn't beat
pub not_beaten_by_best : (g : Game) (e : List Condition) (u : List ℤ) (P : Plan → Type 0) (w v : List ℤ) → IsBestVector g e u P v → ¬ IsBetterVector e v w → (r : Plan) → P r → ¬ IsBetterVector e (vector g e u r) w
not_beaten_by_best g e u P w v b n r o k = elim (vector_or_not e v (vector g e u r)) [
  | inl q ↦ n (vector_chain e v (vector g e u r) w q k)
  | inr m ↦ n (subst (λ z. IsBetterVector e z w) (vectors_same g e u r b.some.0
      (subst (λ z. ¬ IsBetterVector e (vector g e u r) z) (sym b.some.2) (unbeaten g e u P v b r o))
      (subst (λ z. ¬ IsBetterVector e z (vector g e u r)) (sym b.some.2) m) ∙ b.some.2) k)
]

-- nor is what a bound holds back from a vector that beats the bound
pub not_beaten_by_bound : (g : Game) (e : List Condition) (u : List ℤ) (P : Plan → Type 0) (w : List ℤ) (p : ℤ) → AtMost g e u P p → BeatsBound e w p → (r : Plan) → P r → ¬ IsBetterVector e (vector g e u r) w
not_beaten_by_bound g [] u P w p h b r o k = b
not_beaten_by_bound g (c ∷ e) u P [] p h b r o k = k
not_beaten_by_bound g (c ∷ e) u P (x ∷ w) p h b r o k =
    elim b [
      | inl q ↦ elim k [
        | inl y ↦ held (better_chain c.sense (value g r c.target u) x p y q)
        | inr s ↦ held (subst (λ z. IsBetter c.sense z p) (sym s.0) q)
      ]
      | inr q ↦ elim k [
        | inl y ↦ held (subst (IsBetter c.sense (value g r c.target u)) q.0 y)
        | inr s ↦ nothing e q.1 s.1
      ]
    ]
  where
    held : ¬ IsBetter c.sense (value g r c.target u) p
    held = not_better c.sense (value g r c.target u) p (h r o)

    nothing : (e : List Condition) → e ≡ [] → ¬ IsBetterVector e (vector g e u r) w
    nothing [] q k = k
    nothing (c ∷ e) q k = cc

-- an optimal strategy of an existential scope is such a choice
pub to_chosen : (x : Option Condition) (g : Game) (later : List Scope) (i : ℕ) (a : List ℤ) (s : Plan) → Optimal g (record { kind = Exists; condition = x } ∷ later) i a s → Chosen g i a (Optimal g later (suc i)) s
to_chosen x g later i a finish h = h
to_chosen x g later i a (choose t s) h = record { is_move = h.is_move; after = h.after }
to_chosen x g later i a (answer l) h = h

-- without a condition each choice is optimal
pub from_chosen : (g : Game) (later : List Scope) (i : ℕ) (a : List ℤ) (s : Plan) → Chosen g i a (Optimal g later (suc i)) s → Optimal g (record { kind = Exists; condition = None } ∷ later) i a s
from_chosen g later i a finish h = h
from_chosen g later i a (choose t s) h = record { is_move = h.is_move; after = h.after; best = tt }
from_chosen g later i a (answer l) h = h

-- and the best vector of the choices is the best at the position
pub plain_position : (g : Game) (later : List Scope) (i : ℕ) (a : List ℤ) (d : List Condition) (v : List ℤ) → IsBestVector g d a (Chosen g i a (Optimal g later (suc i))) v →
    IsBestVector g d a (Optimal g (record { kind = Exists; condition = None } ∷ later) i a) v
plain_position g later i a d v b =
    best_same g d a (Chosen g i a (Optimal g later (suc i))) (Optimal g (record { kind = Exists; condition = None } ∷ later) i a) v (from_chosen g later i a) (to_chosen None g later i a) b

head_of : {y x : ℤ} {u v : List ℤ} → y ∷ u ≡ x ∷ v → y ≡ x
head_of e = cc

tail_of : {y x : ℤ} {u v : List ℤ} → y ∷ u ≡ x ∷ v → u ≡ v
tail_of e = cc

-- with a condition, those with its best value are, and the best vector loses its first value
pub condition_position : (g : Game) (later : List Scope) (i : ℕ) (a : List ℤ) (c : Condition) (d : List Condition) (x : ℤ) (v : List ℤ) → IsBestVector g (c ∷ d) a (Chosen g i a (Optimal g later (suc i))) (x ∷ v) →
    IsBestVector g d a (Optimal g (record { kind = Exists; condition = Some c } ∷ later) i a) v
condition_position g later i a c d x v b = record {
  some = (b.some.0, made b.some.0 b.some.1 b.some.2, tail_of b.some.2);
  none_better = λ s o. vector_false d (vector g d a s) v (beaten s o);
}
  where
    below : (s : Plan) → Chosen g i a (Optimal g later (suc i)) s → ¬ IsBetterVector (c ∷ d) (vector g (c ∷ d) a s) (x ∷ v)
    below s o = unbeaten g (c ∷ d) a (Chosen g i a (Optimal g later (suc i))) (x ∷ v) b s o

    made : (p : Plan) → Chosen g i a (Optimal g later (suc i)) p → vector g (c ∷ d) a p ≡ x ∷ v → Optimal g (record { kind = Exists; condition = Some c } ∷ later) i a p
    made finish h e = h
    made (choose t s) h e = record {
      is_move = h.is_move;
      after = h.after;
      best = λ u r m o. better_false c.sense (value g r c.target (a ++ u)) (value g s c.target (a ++ t))
          (λ k. below (choose u r) (record { is_move = m; after = o }) (inl (subst (IsBetter c.sense (value g r c.target (a ++ u))) (head_of e) k)));
    }
    made (answer l) h e = h

    beaten : (p : Plan) → Optimal g (record { kind = Exists; condition = Some c } ∷ later) i a p → ¬ IsBetterVector d (vector g d a p) v
    beaten finish h k = h
    beaten (answer l) h k = h
    beaten (choose u r) h k =
        let y : ℤ = value g r c.target (a ++ u) in
        let not_worse : ¬ IsBetter c.sense y x = λ q. below (choose u r) (record { is_move = h.is_move; after = h.after }) (inl q) in
        let none_above : ¬ IsBetter c.sense x y = no_worse b.some.0 b.some.1 b.some.2 in
        below (choose u r) (record { is_move = h.is_move; after = h.after }) (inr (neither_better c.sense y x not_worse none_above, k))
      where
        no_worse : (p : Plan) → Chosen g i a (Optimal g later (suc i)) p → vector g (c ∷ d) a p ≡ x ∷ v → ¬ IsBetter c.sense x (value g r c.target (a ++ u))
        no_worse finish o e q = o
        no_worse (choose t s) o e q = not_better c.sense (value g s c.target (a ++ t)) (value g r c.target (a ++ u)) (h.best t s o.is_move o.after) (subst (λ z. IsBetter c.sense z (value g r c.target (a ++ u))) (sym (head_of e)) q)
        no_worse (answer l) o e q = o

-- and that first value is the condition's value under each optimal strategy
pub own_value_is : (g : Game) (later : List Scope) (i : ℕ) (a : List ℤ) (c : Condition) (d : List Condition) (x : ℤ) (v : List ℤ) → IsBestVector g (c ∷ d) a (Chosen g i a (Optimal g later (suc i))) (x ∷ v) →
    (p : Plan) → Optimal g (record { kind = Exists; condition = Some c } ∷ later) i a p → value g p c.target a ≡ x
own_value_is g later i a c d x v b finish h = absurd h
own_value_is g later i a c d x v b (answer l) h = absurd h
own_value_is g later i a c d x v b (choose u r) h =
    neither_better c.sense (value g r c.target (a ++ u)) x
    (λ k. unbeaten g (c ∷ d) a (Chosen g i a (Optimal g later (suc i))) (x ∷ v) b (choose u r) (record { is_move = h.is_move; after = h.after }) (inl k))
    (no_worse b.some.0 b.some.1 b.some.2)
  where
    no_worse : (q : Plan) → Chosen g i a (Optimal g later (suc i)) q → vector g (c ∷ d) a q ≡ x ∷ v → ¬ IsBetter c.sense x (value g r c.target (a ++ u))
    no_worse finish o e k = o
    no_worse (choose t s) o e k = not_better c.sense (value g s c.target (a ++ t)) (value g r c.target (a ++ u)) (h.best t s o.is_move o.after) (subst (λ z. IsBetter c.sense z (value g r c.target (a ++ u))) (sym (head_of e)) k)
    no_worse (answer l) o e k = o

pub held_by_best : (g : Game) (e : List Condition) (u : List ℤ) (P : Plan → Type 0) (w v : List ℤ) → IsBestVector g e u P v → is_better_vector e v w ≡ false → (r : Plan) → P r → is_better_vector e (vector g e u r) w ≡ false
held_by_best g e u P w v b n r o = vector_false e (vector g e u r) w (not_beaten_by_best g e u P w v b (vector_not_better e v w n) r o)

pub held_by_bound : (g : Game) (c : Condition) (e : List Condition) (u : List ℤ) (P : Plan → Type 0) (w : List ℤ) (p : ℤ) → AtMost g (c ∷ e) u P p → beats c.sense (is_none_of e) (first_value w) p ≡ true →
    (r : Plan) → P r → is_better_vector (c ∷ e) (vector g (c ∷ e) u r) w ≡ false
held_by_bound g c e u P w p h b r o = vector_false (c ∷ e) (vector g (c ∷ e) u r) w (not_beaten_by_bound g (c ∷ e) u P w p h (beats_is c e w p b) r o)
