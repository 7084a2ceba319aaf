-- Who wins, and which strategies and counterstrategies there are.
use Rattle.std.proofs.Common.{◌≡◌, ◌⊎◌, inl, inr, ℕ, suc, Bool, true, false, List, [], ◌∷◌, ◌++◌, refl, sym, ap, ◌∙◌, subst, ℤ, ◌<ℤ◌, Option, Some, None, arith}
use Rattle.std.specs.Prelude.{IsTrue, ◌↔◌}
use Rattle.std.proofs.lemmas.Int.{ints}
use Rattle.qc_model.specs.declared.problem.Kind.{Kind}
use Rattle.qc_model.specs.declared.problem.Kind.TheVariants.{Exists, Forall}
use Rattle.qc_model.specs.declared.problem.Sense.{Sense}
use Rattle.qc_model.specs.declared.problem.Sense.TheVariants.{Min, Max}
use Rattle.qc_model.specs.declared.problem.Scope.{Scope}
use Rattle.qc_model.specs.declared.problem.Condition.{Condition}
use Rattle.qc_model.specs.Content.{Game}
use Rattle.qc_model.specs.Lists.{Among}
use Rattle.qc_model.specs.Game.{allows, IsMove, moves, AfterMove, Wins}
use Rattle.qc_model.specs.Plan.{Plan, finish, choose, answer, Entries, no_entries, entry, entry_tuples, EachEntry, IsFinish, Turn, Covers, Chooses}
use Rattle.qc_model.specs.Value.{value}
use Rattle.qc_model.specs.Optimal.{ChoosesBest, Optimal}
use Rattle.qc_model.specs.Counter.{HasEntry, opposite, CanPassBlock, RepliesTo, CounterWins}
use Rattle.qc_model.specs.Demands.{vector, IsBestVector}
use Rattle.model_laws.specs.Positions.{Chosen}
use Rattle.model_laws.proofs.Better.{IsBetter, IsBetterVector, not_better, better_false, vector_false, unbeaten}
use Rattle.qc_model.proofs.Moves.{moves_from, moves_to}
use Rattle.qc_model.proofs.Plans.{optimal_wins, counter_loses}
use Rattle.model_laws.proofs.Folds.{not_better_self}
use Rattle.model_laws.proofs.Universal.{vector_not_self}
use Rattle.model_laws.proofs.Listed.{Listed, all_or_some, better_or_not, chosen_listed, optimal_listed}

pub better_chain : (s : Sense) (x y z : ℤ) → IsBetter s x y → IsBetter s y z → IsBetter s x z
better_chain Min x y z h k = grind (arith, ints)
better_chain Max x y z h k = grind (arith, ints)

neither : (x y : ℤ) → ¬ (x <ℤ y) → ¬ (y <ℤ x) → x ≡ y
neither x y h k = grind (arith, ints)

pub neither_better : (s : Sense) (x y : ℤ) → ¬ IsBetter s x y → ¬ IsBetter s y x → x ≡ y
neither_better Min x y h k = neither x y h k
neither_better Max x y h k = neither x y k h

-- better vectors: in a chain, and decided
pub vector_chain : (d : List Condition) (u v w : List ℤ) → IsBetterVector d u v → IsBetterVector d v w → IsBetterVector d u w
vector_chain [] u v w h k = h
vector_chain (c ∷ d) [] v w h k = absurd h
vector_chain (c ∷ d) (x ∷ u) [] w h k = absurd h
vector_chain (c ∷ d) (x ∷ u) (y ∷ v) [] h k = k
vector_chain (c ∷ d) (x ∷ u) (y ∷ v) (z ∷ w) h k = elim h [
  | inl b ↦ elim k [ inl b' ↦ inl (better_chain c.sense x y z b b') | inr r ↦ inl (subst (IsBetter c.sense x) r.0 b) ]
  | inr q ↦ elim k [ inl b' ↦ inl (subst (λ n. IsBetter c.sense n z) (sym q.0) b') | inr r ↦ inr (q.0 ∙ r.0, vector_chain d u v w q.1 r.1) ]
]

pub vector_or_not : (d : List Condition) (u v : List ℤ) → IsBetterVector d u v ⊎ (¬ IsBetterVector d u v)
vector_or_not [] u v = inr (λ k. k)
vector_or_not (c ∷ d) [] v = inr (λ k. k)
vector_or_not (c ∷ d) (x ∷ u) [] = inr (λ k. k)
vector_or_not (c ∷ d) (x ∷ u) (y ∷ v) = elim (better_or_not c.sense x y) [
  | inl b ↦ inl (inl b)
  | inr n ↦ elim (better_or_not c.sense y x) [
    | inl b' ↦ inr (λ k. elim k [ inl b ↦ n b | inr r ↦ not_better_self c.sense x (subst (λ z. IsBetter c.sense z x) (sym r.0) b') ])
    | inr n' ↦ elim (vector_or_not d u v) [
      | inl r ↦ inl (inr (neither_better c.sense x y n n', r))
      | inr m ↦ inr (λ k. elim k [ inl b ↦ n b | inr r ↦ m r.1 ])
    ]
  ]
]

-- of some plans, one whose vector none of them beats
pick : (d : List Condition) (f : Plan → List ℤ) (x : Plan) (xs : List Plan) → (y : Plan) × Among y (x ∷ xs) × ((z : Plan) → Among z (x ∷ xs) → ¬ IsBetterVector d (f z) (f y))
pick d f x [] = (x, inl refl, λ z m k. elim m [ inl e ↦ vector_not_self d (f x) (subst (λ p. IsBetterVector d (f p) (f x)) e k) | inr n ↦ n ])
pick d f x (w ∷ ws) =
    let r = pick d f w ws in
    elim (vector_or_not d (f x) (f r.0)) [
      | inl b ↦ (x, inl refl, λ z m k. elim m [ inl e ↦ vector_not_self d (f x) (subst (λ p. IsBetterVector d (f p) (f x)) e k) | inr n ↦ r.2 z n (vector_chain d (f z) (f x) (f r.0) k b) ])
      | inr n ↦ (r.0, inr r.1, λ z m k. elim m [ inl e ↦ n (subst (λ p. IsBetterVector d (f p) (f r.0)) e k) | inr h ↦ r.2 z h k ])
    ]

pick_any : (d : List Condition) (f : Plan → List ℤ) (x : Plan) (xs : List Plan) → Among x xs → (y : Plan) × Among y xs × ((z : Plan) → Among z xs → ¬ IsBetterVector d (f z) (f y))
pick_any d f x [] m = absurd m
pick_any d f x (w ∷ ws) m = pick d f w ws

-- where there is a plan, one has the best vector, by any list
pub best_of : (g : Game) (d : List Condition) (a : List ℤ) (P : Plan → Type 0) → Listed P → (s : Plan) → P s → (v : List ℤ) × IsBestVector g d a P v
best_of g d a P l s h =
    let r = pick_any d (vector g d a) s l.items (l.exact.from s h) in
    (vector g d a r.0, record { some = (r.0, l.exact.to r.0 r.1, refl); none_better = λ z o. vector_false d (vector g d a z) (vector g d a r.0) (r.2 z (l.exact.from z o)) })

-- an optimal choice, where a choice leads to an optimal strategy
choice_exists : (x : Option Condition) (g : Game) (i : ℕ) (a : List ℤ) (R : List ℤ → Plan → Type 0) (A : Entries → Type 0) → ((u : List ℤ) → Listed (R u)) →
    (t : List ℤ) (s : Plan) → IsMove g i a t → R (a ++ t) s → (p : Plan) × Turn Exists p (ChoosesBest x g i a R) A
choice_exists None g i a R A l t s m o = (choose t s, record { is_move = m; after = o; best = tt })
choice_exists (Some c) g i a R A l t s m o =
    let b = best_of g (c ∷ []) a (Chosen g i a R) (chosen_listed g i a R l) (choose t s) (record { is_move = m; after = o }) in
    (b.1.some.0, made b.1.some.0 b.1.some.1 (λ z h. subst (λ v. ¬ IsBetterVector (c ∷ []) (vector g (c ∷ []) a z) v) (sym b.1.some.2) (unbeaten g (c ∷ []) a (Chosen g i a R) b.0 b.1 z h)))
  where
    made : (p : Plan) → Chosen g i a R p → ((z : Plan) → Chosen g i a R z → ¬ IsBetterVector (c ∷ []) (vector g (c ∷ []) a z) (vector g (c ∷ []) a p)) → Turn Exists p (ChoosesBest (Some c) g i a R) A
    made finish h f = absurd h
    made (choose u r) h f = record { is_move = h.is_move; after = h.after; best = λ v q n w. better_false c.sense (value g q c.target (a ++ v)) (value g r c.target (a ++ u)) (λ k. f (choose v q) (record { is_move = n; after = w }) (inl k)) }
    made (answer k) h f = absurd h

-- an entry for each of the tuples
pub entries_exist : (R : List ℤ → Plan → Type 0) (ts : List (List ℤ)) → ((t : List ℤ) → Among t ts → (s : Plan) × R t s) → (l : Entries) × (entry_tuples l ≡ ts) × EachEntry R l
entries_exist R [] f = (no_entries, refl, tt)
entries_exist R (t ∷ ts) f =
    let s = f t (inl refl) in
    let r = entries_exist R ts (λ u m. f u (inr m)) in
    (entry t s.0 r.0, ap (λ us. t ∷ us) r.1, (s.1, r.2))

turn_exists : (k : Kind) (x : Option Condition) (g : Game) (i : ℕ) (a : List ℤ) (R : List ℤ → Plan → Type 0) (W : List ℤ → Type 0) → ((u : List ℤ) → Listed (R u)) → ((u : List ℤ) → W u → (s : Plan) × R u s) →
    AfterMove k g i a W → (p : Plan) × Turn k p (ChoosesBest x g i a R) (Covers g i a R)
turn_exists Exists x g i a R W l f h = let s = f (a ++ h.0) h.2 in choice_exists x g i a R (Covers g i a R) l h.0 s.0 h.1 s.1
turn_exists Forall x g i a R W l f h =
    let r = entries_exist (λ t s. R (a ++ t) s) (moves g i a) (λ t m. f (a ++ t) (h t (moves_to g i a t m))) in
    (answer r.0, record { tuples = r.1; each = r.2 })

-- where the position is won, a strategy is optimal
pub optimal_exists : (g : Game) (later : List Scope) (i : ℕ) (a : List ℤ) → Wins g later i a → (s : Plan) × Optimal g later i a s
optimal_exists g [] i a h = (finish, (tt, h))
optimal_exists g (scope ∷ later) i a h =
    turn_exists scope.kind scope.condition g i a (Optimal g later (suc i)) (Wins g later (suc i)) (λ u. optimal_listed g later (suc i) u) (λ u w. optimal_exists g later (suc i) u w) h

-- and one has the best vector
pub best_exists : (g : Game) (later : List Scope) (i : ℕ) (a : List ℤ) (d : List Condition) → Wins g later i a → (v : List ℤ) × IsBestVector g d a (Optimal g later i a) v
best_exists g later i a d h = let s = optimal_exists g later i a h in best_of g d a (Optimal g later i a) (optimal_listed g later i a) s.0 s.1

-- an entry found again
pub entry_found : (R : List ℤ → Plan → Type 0) (a t : List ℤ) (l : Entries) → EachEntry (λ u s. R (a ++ u) s) l → Among t (entry_tuples l) → HasEntry R a t l
entry_found R a t no_entries e m = absurd m
entry_found R a t (entry u s rest) e m = elim m [ inl q ↦ inl (sym q, subst (λ v. R (a ++ v) s) (sym q) e.0) | inr n ↦ inr (entry_found R a t rest e.1 n) ]

decide_turn : (k : Kind) (g : Game) (i : ℕ) (a : List ℤ) (W P : List ℤ → Type 0) (C : List ℤ → Plan → Type 0) → ((u : List ℤ) → W u ⊎ ((s : Plan) × C u s)) →
    AfterMove k g i a W ⊎ ((p : Plan) × Turn (opposite k) p (Chooses g i a C) (RepliesTo g i a P C))
decide_turn Forall g i a W P C f = elim (all_or_some (λ t. W (a ++ t)) (λ t. (s : Plan) × C (a ++ t) s) (λ t. f (a ++ t)) (moves g i a)) [
  | inl h ↦ inl (λ t m. h t (moves_from g i a t m))
  | inr r ↦ inr (choose r.0 r.2.0, record { is_move = moves_to g i a r.0 r.1; after = r.2.1 })
]
decide_turn Exists g i a W P C f = elim (all_or_some (λ t. (s : Plan) × C (a ++ t) s) (λ t. W (a ++ t)) (λ t. other (f (a ++ t))) (moves g i a)) [
  | inr r ↦ inl (r.0, moves_to g i a r.0 r.1, r.2)
  | inl h ↦ inr (replies h)
]
  where
    other : {A B : Type 0} → A ⊎ B → B ⊎ A
    other h = elim h [ inl x ↦ inr x | inr y ↦ inl y ]

    replies : ((t : List ℤ) → Among t (moves g i a) → (s : Plan) × C (a ++ t) s) → (p : Plan) × Turn Forall p (Chooses g i a C) (RepliesTo g i a P C)
    replies h =
        let r = entries_exist (λ t s. C (a ++ t) s) (moves g i a) h in
        (answer r.0, λ t m. inl (entry_found C a t r.0 r.2 (subst (Among t) (sym r.1) (moves_from g i a t m))))

-- a position is won, or a counterstrategy wins
pub decided : (g : Game) (later : List Scope) (i : ℕ) (a : List ℤ) → Wins g later i a ⊎ ((k : Plan) × CounterWins g later i a k)
decided g [] i a = goal (allows g i a)
  where
    goal : (b : Bool) → IsTrue b ⊎ ((k : Plan) × (IsFinish k × (¬ IsTrue b)))
    goal true = inl refl
    goal false = inr (finish, (tt, λ h. (let e : false ≡ true = h in cc)))
decided g (scope ∷ later) i a =
    decide_turn scope.kind g i a (Wins g later (suc i)) (CanPassBlock g later (suc i)) (CounterWins g later (suc i)) (λ u. decided g later (suc i) u)

-- the optimum is well defined
pub optimum_same : (g : Game) (later : List Scope) (c : Condition) (i : ℕ) (a : List ℤ) (p q : Plan) → Optimal g (record { kind = Exists; condition = Some c } ∷ later) i a p →
    Optimal g (record { kind = Exists; condition = Some c } ∷ later) i a q → value g p c.target a ≡ value g q c.target a
optimum_same g later c i a finish q h k = absurd h
optimum_same g later c i a (answer l) q h k = absurd h
optimum_same g later c i a (choose t s) finish h k = absurd k
optimum_same g later c i a (choose t s) (answer l) h k = absurd k
optimum_same g later c i a (choose t s) (choose u r) h k =
    neither_better c.sense (value g s c.target (a ++ t)) (value g r c.target (a ++ u)) (not_better c.sense _ _ (k.best t s h.is_move h.after)) (not_better c.sense _ _ (h.best u r k.is_move k.after))

-- a position is won exactly where some strategy is optimal, and not won exactly where some counterstrategy wins
pub won_by_strategy : (g : Game) (later : List Scope) (i : ℕ) (a : List ℤ) → Wins g later i a ↔ ((s : Plan) × Optimal g later i a s)
won_by_strategy g later i a = (λ h. optimal_exists g later i a h, λ r. optimal_wins g later i a r.0 r.1)

pub lost_by_counter : (g : Game) (later : List Scope) (i : ℕ) (a : List ℤ) → (¬ Wins g later i a) ↔ ((k : Plan) × CounterWins g later i a k)
lost_by_counter g later i a = (λ n. elim (decided g later i a) [ inl w ↦ absurd (n w) | inr r ↦ r ], λ r. counter_loses g later i a r.0 r.1)

-- of two vectors of which neither is better, both are the same
pub vectors_same : (g : Game) (d : List Condition) (a : List ℤ) (p q : Plan) → ¬ IsBetterVector d (vector g d a p) (vector g d a q) → ¬ IsBetterVector d (vector g d a q) (vector g d a p) →
    vector g d a p ≡ vector g d a q
vectors_same g [] a p q h k = refl
vectors_same g (c ∷ d) a p q h k =
    let e : value g p c.target a ≡ value g q c.target a = neither_better c.sense _ _ (λ b. h (inl b)) (λ b. k (inl b)) in
    ap (λ z. z ∷ vector g d a p) e ∙ ap (λ zs. value g q c.target a ∷ zs) (vectors_same g d a p q (λ b. h (inr (e, b))) (λ b. k (inr (sym e, b))))

pub best_is_one : (g : Game) (d : List Condition) (a : List ℤ) (P : Plan → Type 0) (v w : List ℤ) → IsBestVector g d a P v → IsBestVector g d a P w → v ≡ w
best_is_one g d a P v w b c =
    sym b.some.2
    ∙ vectors_same g d a b.some.0 c.some.0
    (subst (λ z. ¬ IsBetterVector d (vector g d a b.some.0) z) (sym c.some.2) (unbeaten g d a P w c b.some.0 b.some.1))
    (subst (λ z. ¬ IsBetterVector d (vector g d a c.some.0) z) (sym b.some.2) (unbeaten g d a P v b c.some.0 c.some.1))
    ∙ c.some.2

-- a won position of an optimising scope has an optimum
pub optimum_exists : (g : Game) (later : List Scope) (c : Condition) (i : ℕ) (a : List ℤ) → Wins g (record { kind = Exists; condition = Some c } ∷ later) i a →
    (v : ℤ) × ((p : Plan) → Optimal g (record { kind = Exists; condition = Some c } ∷ later) i a p → value g p c.target a ≡ v)
optimum_exists g later c i a w =
    let s = optimal_exists g (record { kind = Exists; condition = Some c } ∷ later) i a w in
    (value g s.0 c.target a, λ p o. optimum_same g later c i a p s.0 o s.1)
