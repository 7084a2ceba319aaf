-- Where a position isn't won, a counterstrategy wins that says one thing to each tuple.
use Rattle.std.proofs.Common.{◌≡◌, ◌⊎◌, inl, inr, ℕ, suc, Bool, true, false, List, [], ◌∷◌, ◌++◌, refl, sym, subst, ℤ}
use Rattle.std.specs.Prelude.{IsTrue}
use Rattle.qc_model.specs.declared.problem.Kind.{Kind}
use Rattle.qc_model.specs.declared.problem.Kind.TheVariants.{Exists, Forall}
use Rattle.qc_model.specs.declared.problem.Scope.{Scope}
use Rattle.qc_model.specs.Content.{Game}
use Rattle.qc_model.specs.Lists.{Among}
use Rattle.qc_model.specs.Game.{allows, moves, AfterMove, Wins}
use Rattle.qc_model.specs.Plan.{Plan, finish, choose, answer, Entries, no_entries, entry, EachEntry, IsFinish, Turn, Chooses}
use Rattle.qc_model.specs.Counter.{opposite, CanPassBlock, RepliesTo, CounterWins}
use Rattle.qc_model.specs.Valid.{IsValid}
use Rattle.qc_model.proofs.Moves.{moves_from, moves_to}
use Rattle.model_laws.specs.Distinct.{Distinct}
use Rattle.model_laws.specs.Replies.{AnswersOnce, EachAnswersOnce}
use Rattle.model_laws.proofs.Listed.{all_or_some}
use Rattle.model_laws.proofs.Existence.{entries_exist, entry_found}
use Rattle.model_laws.proofs.Validity.{valid_moves}

first_parts : (R : List ℤ → Plan → Type 0) (l : Entries) → EachEntry (λ t s. R t s × AnswersOnce s) l → EachEntry R l
first_parts R no_entries e = tt
first_parts R (entry t s rest) e = (e.0.0, first_parts R rest e.1)

second_parts : (R : List ℤ → Plan → Type 0) (l : Entries) → EachEntry (λ t s. R t s × AnswersOnce s) l → EachAnswersOnce l
second_parts R no_entries e = tt
second_parts R (entry t s rest) e = (e.0.1, second_parts R rest e.1)

-- P with one thing to say
abbrev Once : (Plan → Type 0) → Type 0
Once P = (s : Plan) × (P s × AnswersOnce s)

once_by : (k : Kind) (g : Game) (i : ℕ) (a : List ℤ) (W P : List ℤ → Type 0) (C : List ℤ → Plan → Type 0) → Distinct (moves g i a) → ((u : List ℤ) → W u ⊎ Once (C u)) →
    AfterMove k g i a W ⊎ Once (λ p. Turn (opposite k) p (Chooses g i a C) (RepliesTo g i a P C))
once_by Forall g i a W P C d f = elim (all_or_some (λ t. W (a ++ t)) (λ t. Once (C (a ++ t))) (λ t. f (a ++ t)) (moves g i a)) [
  | inl h ↦ inl (λ t m. h t (moves_from g i a t m))
  | inr r ↦ inr (choose r.0 r.2.0, (record { is_move = moves_to g i a r.0 r.1; after = r.2.1.0 }, r.2.1.1))
]
once_by Exists g i a W P C d f = elim (all_or_some (λ t. Once (C (a ++ t))) (λ t. W (a ++ t)) (λ t. other (f (a ++ t))) (moves g i a)) [
  | inr r ↦ inl (r.0, moves_to g i a r.0 r.1, r.2)
  | inl h ↦ inr (replies h)
]
  where
    other : {A B : Type 0} → A ⊎ B → B ⊎ A
    other h = elim h [ inl x ↦ inr x | inr y ↦ inl y ]

    replies : ((t : List ℤ) → Among t (moves g i a) → Once (C (a ++ t))) → Once (λ p. Turn Forall p (Chooses g i a C) (RepliesTo g i a P C))
    replies h =
        let r = entries_exist (λ t s. C (a ++ t) s × AnswersOnce s) (moves g i a) h in (
          answer r.0,
          (
            λ t m. inl (entry_found C a t r.0 (first_parts (λ t s. C (a ++ t) s) r.0 r.2) (subst (Among t) (sym r.1) (moves_from g i a t m))),
            (subst Distinct (sym r.1) d, second_parts (λ t s. C (a ++ t) s) r.0 r.2),
          ),
        )

once_decided : (g : Game) (later : List Scope) (i : ℕ) (a : List ℤ) → IsValid g → Wins g later i a ⊎ Once (CounterWins g later i a)
once_decided g [] i a v = goal (allows g i a)
  where
    goal : (b : Bool) → IsTrue b ⊎ Once (λ k. IsFinish k × (¬ IsTrue b))
    goal true = inl refl
    goal false = inr (finish, ((tt, λ h. (let e : false ≡ true = h in cc)), tt))
once_decided g (scope ∷ later) i a v =
    once_by scope.kind g i a (Wins g later (suc i)) (CanPassBlock g later (suc i)) (CounterWins g later (suc i)) (valid_moves g i a v) (λ u. once_decided g later (suc i) u v)

pub lost_once : (g : Game) (later : List Scope) (i : ℕ) (a : List ℤ) → IsValid g → ¬ Wins g later i a → (k : Plan) × (CounterWins g later i a k × AnswersOnce k)
lost_once g later i a v n = elim (once_decided g later i a v) [ inl w ↦ absurd (n w) | inr r ↦ r ]
