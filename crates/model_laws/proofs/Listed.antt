-- The optimal strategies of a position are the ones that the computed list has.
use Rattle.std.proofs.Common.{◌≡◌, ◌⊎◌, inl, inr, ℕ, suc, Bool, true, false, not, List, [], ◌∷◌, ◌++◌, map, refl, sym, ap, ◌∙◌, subst, ℤ, ◌<ℤ◌, Option, Some, None, arith}
use Rattle.std.specs.Prelude.{IsTrue, ◌≤ℤ◌, ◌&&◌, filter, cond}
use Rattle.std.specs.List.{flat_map, list_all}
use Rattle.std.proofs.lemmas.Int.{ints, by_lt_z}
use Rattle.std.proofs.lemmas.Bool.{and_from}
use Rattle.qc_model.specs.declared.problem.Kind.{Kind}
use Rattle.qc_model.specs.declared.problem.Kind.TheVariants.{Exists, Forall}
use Rattle.qc_model.specs.declared.problem.Sense.{Sense}
use Rattle.qc_model.specs.declared.problem.Sense.TheVariants.{Min, Max}
use Rattle.qc_model.specs.declared.problem.Scope.{Scope}
use Rattle.qc_model.specs.declared.problem.Condition.{Condition}
use Rattle.qc_model.specs.Content.{Game}
use Rattle.qc_model.specs.Lists.{Among}
use Rattle.qc_model.specs.Game.{allows, moves}
use Rattle.qc_model.specs.Plan.{Plan, finish, choose, answer, Entries, no_entries, entry, entry_tuples, EachEntry, IsFinish, Turn, Covers}
use Rattle.qc_model.specs.Value.{value}
use Rattle.qc_model.specs.Optimal.{is_better, ChoosesBest, Optimal}
use Rattle.model_laws.specs.Positions.{Chosen}
use Rattle.model_laws.specs.Strategies.{choices, is_best, best_choices, all_entries, turn_strategies, optimal_strategies}
use Rattle.model_laws.proofs.Better.{IsBetter, and_first, and_second}
use Rattle.qc_model.proofs.Moves.{among_map, of_map, among_flat_map, of_flat_map, among_filter, of_filter, moves_from, moves_to}

-- xs has exactly what has P
pub record Lists {X : Type 0} (P : X → Type 0) (xs : List X) : Type 0 where
  pub from : (x : X) → P x → Among x xs
  pub to : (x : X) → Among x xs → P x

-- a list of exactly what has P
pub record Listed {X : Type 0} (P : X → Type 0) : Type 0 where
  pub items : List X
  pub exact : Lists P items

-- each of the items has A, or some item has B
pub all_or_some : {X : Type 0} (A B : X → Type 0) → ((x : X) → A x ⊎ B x) → (xs : List X) → ((x : X) → Among x xs → A x) ⊎ ((x : X) × Among x xs × B x)
all_or_some A B dec [] = inl (λ x m. absurd m)
all_or_some A B dec (x ∷ xs) = elim (dec x) [
  | inr b ↦ inr (x, inl refl, b)
  | inl h ↦ elim (all_or_some A B dec xs) [
    | inr r ↦ inr (r.0, inr r.1, r.2)
    | inl f ↦ inl (λ y m. elim m [ inl e ↦ subst A (sym e) h | inr n ↦ f y n ])
  ]
]

below_or_not : (x y : ℤ) → (x <ℤ y) ⊎ (¬ (x <ℤ y))
below_or_not x y = by_lt_z {P = (x <ℤ y) ⊎ (¬ (x <ℤ y))} x y inl (λ h. inr (λ k. against h k))
  where
    against : y ≤ℤ x → x <ℤ y → ⊥
    against h k = grind (arith, ints)

pub better_or_not : (s : Sense) (x y : ℤ) → IsBetter s x y ⊎ (¬ IsBetter s x y)
better_or_not Min x y = below_or_not x y
better_or_not Max x y = below_or_not y x

pub all_to : {X : Type 0} (p : X → Bool) (xs : List X) → list_all p xs ≡ true → (x : X) → Among x xs → p x ≡ true
all_to p [] e x m = absurd m
all_to p (y ∷ xs) e x m = elim m [ inl q ↦ ap p q ∙ and_first (p y) (list_all p xs) e | inr n ↦ all_to p xs (and_second (p y) (list_all p xs) e) x n ]

all_from : {X : Type 0} (p : X → Bool) (xs : List X) → ((x : X) → Among x xs → p x ≡ true) → list_all p xs ≡ true
all_from p [] f = refl
all_from p (x ∷ xs) f = and_from (p x) (list_all p xs) (f x (inl refl)) (all_from p xs (λ y m. f y (inr m)))

goal_exact : (b : Bool) → Lists (λ s. IsFinish s × IsTrue b) (cond b (finish ∷ []) [])
goal_exact true = record { from = there; to = back }
  where
    there : (s : Plan) → IsFinish s × IsTrue true → Among s (finish ∷ [])
    there finish h = inl refl
    there (choose t s) h = absurd h.0
    there (answer l) h = absurd h.0

    back : (s : Plan) → Among s (finish ∷ []) → IsFinish s × IsTrue true
    back s m = elim m [ inl e ↦ subst (λ p. IsFinish p × IsTrue true) (sym e) (tt, refl) | inr n ↦ absurd n ]
goal_exact false = record { from = λ s h. (let e : false ≡ true = h.1 in cc); to = λ s m. absurd m }

choices_exact : (g : Game) (i : ℕ) (a : List ℤ) (R : List ℤ → Plan → Type 0) (plans : List ℤ → List Plan) → ((u : List ℤ) → Lists (R u) (plans u)) → Lists (Chosen g i a R) (choices plans a (moves g i a))
choices_exact g i a R plans l = record { from = there; to = back }
  where
    after : List ℤ → List Plan
    after t = map (λ s. choose t s) (plans (a ++ t))

    there : (s : Plan) → Chosen g i a R s → Among s (flat_map after (moves g i a))
    there finish h = absurd h
    there (choose t s) h = among_flat_map after t (choose t s) (moves g i a) (moves_from g i a t h.is_move) (among_map (λ r. choose t r) s (plans (a ++ t)) ((l (a ++ t)).from s h.after))
    there (answer k) h = absurd h

    back : (s : Plan) → Among s (flat_map after (moves g i a)) → Chosen g i a R s
    back s m =
        let r = of_flat_map after s (moves g i a) m in
        let q = of_map (λ p. choose r.0 p) s (plans (a ++ r.0)) r.2 in
        subst (Chosen g i a R) (sym q.2) (record { is_move = moves_to g i a r.0 r.1; after = (l (a ++ r.0)).to q.0 q.1 })

pub chosen_listed : (g : Game) (i : ℕ) (a : List ℤ) (R : List ℤ → Plan → Type 0) → ((u : List ℤ) → Listed (R u)) → Listed (Chosen g i a R)
chosen_listed g i a R l = record { items = choices (λ u. (l u).items) a (moves g i a); exact = choices_exact g i a R (λ u. (l u).items) (λ u. (l u).exact) }

pub not_true : (b : Bool) → not b ≡ true → b ≡ false
not_true true e = cc
not_true false e = refl

best_exact : (x : Option Condition) (g : Game) (i : ℕ) (a : List ℤ) (R : List ℤ → Plan → Type 0) (A : Entries → Type 0) (plans : List Plan) → Lists (Chosen g i a R) plans → Lists (λ p. Turn Exists p (ChoosesBest x g i a R) A) (best_choices g x a plans)
best_exact None g i a R A plans l = record { from = there; to = λ p m. back p (l.to p m) }
  where
    there : (p : Plan) → Turn Exists p (ChoosesBest None g i a R) A → Among p plans
    there finish h = absurd h
    there (choose t s) h = l.from (choose t s) (record { is_move = h.is_move; after = h.after })
    there (answer k) h = absurd h

    back : (p : Plan) → Chosen g i a R p → Turn Exists p (ChoosesBest None g i a R) A
    back finish h = h
    back (choose t s) h = record { is_move = h.is_move; after = h.after; best = tt }
    back (answer k) h = h
best_exact (Some c) g i a R A plans l = record { from = there; to = λ p m. (let r = of_filter (is_best g c a plans) p plans m in back p (l.to p r.0) r.1) }
  where
    -- the test of one plan against another
    unbeaten_by : Plan → Plan → Bool
    unbeaten_by p q = not (is_better c.sense (value g q c.target a) (value g p c.target a))

    against : (t : List ℤ) (s : Plan) → ChoosesBest (Some c) g i a R t s → (q : Plan) → Chosen g i a R q → unbeaten_by (choose t s) q ≡ true
    against t s h finish o = absurd o
    against t s h (choose u r) o = ap not (h.best u r o.is_move o.after)
    against t s h (answer k) o = absurd o

    there : (p : Plan) → Turn Exists p (ChoosesBest (Some c) g i a R) A → Among p (filter (is_best g c a plans) plans)
    there finish h = absurd h
    there (choose t s) h =
        among_filter (is_best g c a plans) (choose t s) plans (l.from (choose t s) (record { is_move = h.is_move; after = h.after }))
        (all_from (unbeaten_by (choose t s)) plans (λ q m. against t s h q (l.to q m)))
    there (answer k) h = absurd h

    back : (p : Plan) → Chosen g i a R p → is_best g c a plans p ≡ true → Turn Exists p (ChoosesBest (Some c) g i a R) A
    back finish h e = h
    back (choose t s) h e = record {
      is_move = h.is_move;
      after = h.after;
      best = λ u r m o. not_true (is_better c.sense (value g r c.target (a ++ u)) (value g s c.target (a ++ t)))
          (all_to (unbeaten_by (choose t s)) plans e (choose u r) (l.from (choose u r) (record { is_move = m; after = o })));
    }
    back (answer k) h e = h

-- an answer to each of the tuples, in order
abbrev AnswersEach : List ℤ → (List ℤ → Plan → Type 0) → List (List ℤ) → Entries → Type 0
AnswersEach a R ts l = (entry_tuples l ≡ ts) × EachEntry (λ t s. R (a ++ t) s) l

more_entries : (a : List ℤ) (R : List ℤ → Plan → Type 0) (plans : List ℤ → List Plan) → ((u : List ℤ) → Lists (R u) (plans u)) → (t : List ℤ) (ts : List (List ℤ)) →
    Lists (AnswersEach a R ts) (all_entries plans a ts) → Lists (AnswersEach a R (t ∷ ts)) (all_entries plans a (t ∷ ts))
more_entries a R plans l t ts rest_exact = record { from = there; to = back }
  where
    after : Plan → List Entries
    after s = map (λ r. entry t s r) (all_entries plans a ts)

    there : (k : Entries) → AnswersEach a R (t ∷ ts) k → Among k (flat_map after (plans (a ++ t)))
    there no_entries h = let e : [] ≡ t ∷ ts = h.0 in cc
    there (entry u s rest) h =
        let e : u ∷ entry_tuples rest ≡ t ∷ ts = h.0 in
        let same : u ≡ t = cc in
        let tail : entry_tuples rest ≡ ts = cc in
        subst (λ v. Among (entry v s rest) (flat_map after (plans (a ++ t)))) (sym same)
        (among_flat_map after s (entry t s rest) (plans (a ++ t)) ((l (a ++ t)).from s (subst (λ v. R (a ++ v) s) same h.1.0))
        (among_map (λ r. entry t s r) rest (all_entries plans a ts) (rest_exact.from rest (tail, h.1.1))))

    back : (k : Entries) → Among k (flat_map after (plans (a ++ t))) → AnswersEach a R (t ∷ ts) k
    back k m =
        let r = of_flat_map after k (plans (a ++ t)) m in
        let q = of_map (λ z. entry t r.0 z) k (all_entries plans a ts) r.2 in
        let h = rest_exact.to q.0 q.1 in
        subst (AnswersEach a R (t ∷ ts)) (sym q.2) (ap (λ us. t ∷ us) h.0, ((l (a ++ t)).to r.0 r.1, h.1))

entries_exact : (a : List ℤ) (R : List ℤ → Plan → Type 0) (plans : List ℤ → List Plan) → ((u : List ℤ) → Lists (R u) (plans u)) → (ts : List (List ℤ)) → Lists (AnswersEach a R ts) (all_entries plans a ts)
entries_exact a R plans l [] = record { from = there; to = back }
  where
    there : (k : Entries) → AnswersEach a R [] k → Among k (no_entries ∷ [])
    there no_entries h = inl refl
    there (entry t s rest) h = let e : t ∷ entry_tuples rest ≡ [] = h.0 in cc

    back : (k : Entries) → Among k (no_entries ∷ []) → AnswersEach a R [] k
    back k m = elim m [ inl e ↦ subst (AnswersEach a R []) (sym e) (refl, tt) | inr n ↦ absurd n ]
entries_exact a R plans l (t ∷ ts) = more_entries a R plans l t ts (entries_exact a R plans l ts)

answers_exact : (g : Game) (i : ℕ) (a : List ℤ) (R C : List ℤ → Plan → Type 0) (plans : List ℤ → List Plan) → ((u : List ℤ) → Lists (R u) (plans u)) → Lists (λ p. Turn Forall p C (Covers g i a R)) (map (λ k. answer k) (all_entries plans a (moves g i a)))
answers_exact g i a R C plans l = record { from = there; to = back }
  where
    exact : Lists (AnswersEach a R (moves g i a)) (all_entries plans a (moves g i a))
    exact = entries_exact a R plans l (moves g i a)

    there : (p : Plan) → Turn Forall p C (Covers g i a R) → Among p (map (λ k. answer k) (all_entries plans a (moves g i a)))
    there finish h = absurd h
    there (choose t s) h = absurd h
    there (answer k) h = among_map (λ k. answer k) k (all_entries plans a (moves g i a)) (exact.from k (h.tuples, h.each))

    back : (p : Plan) → Among p (map (λ k. answer k) (all_entries plans a (moves g i a))) → Turn Forall p C (Covers g i a R)
    back p m =
        let r = of_map (λ k. answer k) p (all_entries plans a (moves g i a)) m in
        let h = exact.to r.0 r.1 in
        subst (λ p. Turn Forall p C (Covers g i a R)) (sym r.2) (record { tuples = h.0; each = h.1 })

turn_exact : (k : Kind) (x : Option Condition) (g : Game) (i : ℕ) (a : List ℤ) (R : List ℤ → Plan → Type 0) (plans : List ℤ → List Plan) → ((u : List ℤ) → Lists (R u) (plans u)) →
    Lists (λ p. Turn k p (ChoosesBest x g i a R) (Covers g i a R)) (turn_strategies k x g a plans (moves g i a))
turn_exact Exists x g i a R plans l = best_exact x g i a R (Covers g i a R) (choices plans a (moves g i a)) (choices_exact g i a R plans l)
turn_exact Forall x g i a R plans l = answers_exact g i a R (ChoosesBest x g i a R) plans l

-- the optimal strategies of a position are those of the computed list
pub optimal_exact : (g : Game) (later : List Scope) (i : ℕ) (a : List ℤ) → Lists (Optimal g later i a) (optimal_strategies g later i a)
optimal_exact g [] i a = goal_exact (allows g i a)
optimal_exact g (scope ∷ later) i a = turn_exact scope.kind scope.condition g i a (Optimal g later (suc i)) (optimal_strategies g later (suc i)) (λ u. optimal_exact g later (suc i) u)

pub optimal_listed : (g : Game) (later : List Scope) (i : ℕ) (a : List ℤ) → Listed (Optimal g later i a)
optimal_listed g later i a = record { items = optimal_strategies g later i a; exact = optimal_exact g later i a }
