-- After each turn the side may go on.
use Rattle.std.proofs.Common.{◌≡◌, ◌⊎◌, inl, inr, ℕ, suc, true, false, List, ◌∷◌, ◌++◌, drop, sym, ◌∙◌, subst, Option, Some, ℤ}
use Rattle.std.specs.Prelude.{slice_get}
use Rattle.qc_model.specs.declared.problem.Kind.{Kind}
use Rattle.qc_model.specs.declared.problem.Kind.TheVariants.{Exists, Forall}
use Rattle.qc_model.specs.declared.problem.Condition.{Condition}
use Rattle.qc_model.specs.declared.problem.Scope.{Scope}
use Rattle.qc_model.specs.Content.{Game}
use Rattle.qc_model.specs.Game.{IsMove}
use Rattle.qc_model.specs.Plan.{Plan, finish, choose, answer, Turn, Covers, Chooses}
use Rattle.qc_model.specs.Counter.{opposite, PassScope, CanPassBlock, RepliesTo, CounterWins, AnswersOnce}
use Rattle.qc_model.specs.Optimal.{ChoosesBest, Optimal}
use Rattle.qc_play.specs.Play.{reply_to, answers_of}
use Rattle.qc_play.specs.Sides.{is_same}
use Rattle.qc_play.specs.Ends.{MayGoOn, kind_at}
use Rattle.qc_play.proofs.Endings.{found_entry, once_found, once_reply}
use Rattle.qc_play.proofs.Telling.{drop_here, kind_there, same_kind, other_kind}

module _ (g : Game) (i : ℕ) (a t : List ℤ) (r : Plan) where
  chosen_best : (c : Option Condition) (O : List ℤ → Plan → Type 0) (s : Plan) → s ≡ choose t r → Turn Exists s (ChoosesBest c g i a O) (Covers g i a O) → IsMove g i a t × O (a ++ t) r
  chosen_best c O s e h = let k : ChoosesBest c g i a O t r = subst (λ z. Turn Exists z (ChoosesBest c g i a O) (Covers g i a O)) e h in (k.is_move, k.after)

  chosen : (C : List ℤ → Plan → Type 0) (P : List ℤ → Type 0) (s : Plan) → s ≡ choose t r → Turn Exists s (Chooses g i a C) (RepliesTo g i a P C) → IsMove g i a t × C (a ++ t) r
  chosen C P s e h = let k : Chooses g i a C t r = subst (λ z. Turn Exists z (Chooses g i a C) (RepliesTo g i a P C)) e h in (k.is_move, k.after)

  answer_found : (c : Option Condition) (O : List ℤ → Plan → Type 0) (s : Plan) → reply_to t (answers_of s) ≡ Some r → Turn Forall s (ChoosesBest c g i a O) (Covers g i a O) → O (a ++ t) r
  answer_found c O finish e h = absurd h
  answer_found c O (choose u s) e h = absurd h
  answer_found c O (answer l) e h = found_entry (λ v s. O (a ++ v) s) t r l h.each e

  reply_found : (C : List ℤ → Plan → Type 0) (P : List ℤ → Type 0) (s : Plan) → reply_to t (answers_of s) ≡ Some r → IsMove g i a t → AnswersOnce s → Turn Forall s (Chooses g i a C) (RepliesTo g i a P C) →
      (C (a ++ t) r × AnswersOnce r) ⊎ (¬ P (a ++ t))
  reply_found C P finish e m o h = absurd h
  reply_found C P (choose u s) e m o h = absurd h
  reply_found C P (answer l) e m o h = elim (h t m) [ inl k ↦ inl (once_found C a t r l o.0 k e, once_reply t r l o.1 e) | inr n ↦ inr n ]

  own_here : (x : Scope) (later : List Scope) (own : Kind) (s : Plan) → x.kind ≡ own → s ≡ choose t r → MayGoOn own g (x ∷ later) i a s → IsMove g i a t × MayGoOn own g later (suc i) (a ++ t) r
  own_here x later Exists s q c h =
      chosen_best x.condition (Optimal g later (suc i)) s c
      (subst (λ j. Turn j s (ChoosesBest x.condition g i a (Optimal g later (suc i))) (Covers g i a (Optimal g later (suc i)))) q h)
  own_here x later Forall s q c h = elim h [
    | inl w ↦ (let m = chosen (CounterWins g later (suc i)) (CanPassBlock g later (suc i)) s c
        (subst (λ j. Turn (opposite j) s (Chooses g i a (CounterWins g later (suc i))) (RepliesTo g i a (CanPassBlock g later (suc i)) (CounterWins g later (suc i)))) q w.wins) in
        (m.0, inl (record { wins = m.1; once = subst AnswersOnce c w.once })))
    | inr n ↦ absurd (n (subst (λ j. PassScope j g i a (CanPassBlock g later (suc i))) (sym q) tt))
  ]

  other_here : (x : Scope) (later : List Scope) (own : Kind) (s : Plan) → x.kind ≡ opposite own → reply_to t (answers_of s) ≡ Some r → IsMove g i a t → MayGoOn own g (x ∷ later) i a s → MayGoOn own g later (suc i) (a ++ t) r
  other_here x later Exists s q e m h =
      answer_found x.condition (Optimal g later (suc i)) s e
      (subst (λ j. Turn j s (ChoosesBest x.condition g i a (Optimal g later (suc i))) (Covers g i a (Optimal g later (suc i)))) q h)
  other_here x later Forall s q e m h = elim h [
    | inl w ↦ elim (reply_found (CounterWins g later (suc i)) (CanPassBlock g later (suc i)) s e m w.once
        (subst (λ j. Turn (opposite j) s (Chooses g i a (CounterWins g later (suc i))) (RepliesTo g i a (CanPassBlock g later (suc i)) (CounterWins g later (suc i)))) q w.wins)) [
          | inl k ↦ inl (record { wins = k.0; once = k.1 })
          | inr n ↦ inr n
        ]
    | inr n ↦ inr (λ p. n (subst (λ j. PassScope j g i a (CanPassBlock g later (suc i))) (sym q) (t, m, p)))
  ]

  -- the tree's own choice is a move, and it may go on after it
  pub own_may : (own k : Kind) (s : Plan) → kind_at g i ≡ Some k → is_same own k ≡ true → s ≡ choose t r → MayGoOn own g (drop i g.scopes) i a s →
      IsMove g i a t × MayGoOn own g (drop (suc i) g.scopes) (suc i) (a ++ t) r
  own_may own k s e q c h =
      let w = kind_there (slice_get g.scopes i) k e in
      own_here w.0 (drop (suc i) g.scopes) own s (w.2 ∙ same_kind own k q) c (subst (λ ss. MayGoOn own g ss i a s) (drop_here g.scopes i w.0 w.1) h)

  -- and after the reply to a move
  pub other_may : (own k : Kind) (s : Plan) → kind_at g i ≡ Some k → is_same own k ≡ false → reply_to t (answers_of s) ≡ Some r → IsMove g i a t → MayGoOn own g (drop i g.scopes) i a s →
      MayGoOn own g (drop (suc i) g.scopes) (suc i) (a ++ t) r
  other_may own k s e q c m h =
      let w = kind_there (slice_get g.scopes i) k e in
      other_here w.0 (drop (suc i) g.scopes) own s (w.2 ∙ other_kind own k q) c m (subst (λ ss. MayGoOn own g ss i a s) (drop_here g.scopes i w.0 w.1) h)
