-- Families of strategies of two games that correspond: what holds after a choice, and at a scope.
use Rattle.std.proofs.Common.{◌≡◌, refl, sym, ap, ◌∙◌, subst, ℕ, suc, ◌+◌, List, [], ◌∷◌, ◌++◌, length, append-nil, arith}
use Rattle.std.specs.Prelude.{Option, Some, None, slice_get, IsFalse, ℤ}
use Rattle.qc_model.specs.declared.problem.Kind.{Kind}
use Rattle.qc_model.specs.declared.problem.Kind.TheVariants.{Exists, Forall}
use Rattle.qc_model.specs.declared.problem.Sense.{Sense}
use Rattle.qc_model.specs.declared.problem.Sense.TheVariants.{Min, Max}
use Rattle.qc_model.specs.declared.problem.Target.{Target}
use Rattle.qc_model.specs.declared.problem.Target.TheVariants.{Var, Aggregate as Agg}
use Rattle.qc_model.specs.declared.problem.Condition.{Condition}
use Rattle.qc_model.specs.declared.problem.Scope.{Scope}
use Rattle.qc_model.specs.Content.{Game}
use Rattle.qc_model.specs.Plan.{Plan, finish, choose, answer, Entries, no_entries, entry, entry_tuples, EachEntry, Turn, Covers}
use Rattle.qc_model.specs.Value.{value, branch_values, aggregate_fold, inner_target}
use Rattle.qc_model.specs.Optimal.{is_better, NoBetterChoice, ChoosesBest, Optimal}
use Rattle.qc_pessimist.specs.Worst.{IsWorst, Meets}
use Rattle.qc_pessimist.specs.Opposed.{other_sense, opposed, added, put_empty, map_entries, map_turn}
use Rattle.qc_pessimist.proofs.Agree.{SameScope, IsPass, SameAggregates, move_to, move_from, same_moves, pass_is_move, pass_is_empty}

-- the plans with P in h are those with O in g, changed by f, and each target is worth the same
pub record Corresponds (g h : Game) (O P : List ℤ → Plan → Type 0) (f : Plan → Plan) : Type 0 where
  pub to : (b : List ℤ) (s : Plan) → O b s → P b (f s)
  pub from : (b : List ℤ) (s : Plan) → P b (f s) → O b s
  pub form : (b : List ℤ) (p : Plan) → P b p → (s : Plan) × (p ≡ f s)
  pub worth : (b : List ℤ) (s : Plan) (x : Target) → value h (f s) x b ≡ value g s x b

other_better : (c : Sense) (x y : ℤ) → is_better (other_sense c) x y ≡ is_better c y x
other_better Min x y = refl
other_better Max x y = refl

-- the plans at an added scope
abbrev pub AtAdded : Condition → Game → ℕ → (List ℤ → Plan → Type 0) → List ℤ → Plan → Type 0
AtAdded c h j P b p = Turn Exists p (ChoosesBest (Some (opposed c)) h j b P) (Covers h j b P)

-- at an added scope the best are the worst for the owner before
module _ (g h : Game) (c : Condition) (j : ℕ) (O P : List ℤ → Plan → Type 0) (f : Plan → Plan) (s-p : Corresponds g h O P f) (pass : IsPass h j) where
  worst_to : (b : List ℤ) (s : Plan) → IsWorst c g b (O b) s → AtAdded c h j P b (choose [] (f s))
  worst_to b s w = record {
    is_move = pass_is_move h j pass b;
    after = subst (λ z. P z (f s)) (sym (append-nil b)) (s-p.to b s w.follows);
    best = λ u r m p. beaten u (pass_is_empty h j pass b u m) r p;
  }
    where
      beaten : (u : List ℤ) → u ≡ [] → (r : Plan) → P (b ++ u) r → IsFalse (is_better (other_sense c.sense) (value h r c.target (b ++ u)) (value h (f s) c.target (b ++ [])))
      beaten u e r p =
          let at : b ++ u ≡ b = ap (λ v. b ++ v) e ∙ append-nil b in
          let o : P b r = subst (λ z. P z r) at p in
          let k = s-p.form b r o in
          let same : value h r c.target (b ++ u) ≡ value g k.0 c.target b = ap (value h r c.target) at ∙ ap (λ z. value h z c.target b) k.1 ∙ s-p.worth b k.0 c.target in
          let mine : value h (f s) c.target (b ++ []) ≡ value g s c.target b = ap (value h (f s) c.target) (append-nil b) ∙ s-p.worth b s c.target in
          other_better c.sense (value h r c.target (b ++ u)) (value h (f s) c.target (b ++ []))
          ∙ ap (λ z. is_better c.sense z (value h r c.target (b ++ u))) mine
          ∙ ap (is_better c.sense (value g s c.target b)) same
          ∙ w.none_worse k.0 (s-p.from b k.0 (subst (P b) k.1 o))

  worst_from : (b : List ℤ) (s : Plan) → AtAdded c h j P b (choose [] (f s)) → IsWorst c g b (O b) s
  worst_from b s w = record {
    follows = s-p.from b s (subst (λ z. P z (f s)) (append-nil b) w.after);
    none_worse = λ r o.
        ap (λ z. is_better c.sense z (value g r c.target b)) (sym (s-p.worth b s c.target) ∙ ap (value h (f s) c.target) (sym (append-nil b)))
        ∙ ap (is_better c.sense (value h (f s) c.target (b ++ []))) (sym (s-p.worth b r c.target) ∙ ap (value h (f r) c.target) (sym (append-nil b)))
        ∙ sym (other_better c.sense (value h (f r) c.target (b ++ [])) (value h (f s) c.target (b ++ [])))
        ∙ w.best [] (f r) (pass_is_move h j pass b) (subst (λ z. P z (f r)) (sym (append-nil b)) (s-p.to b r o));
  }

  worst_form : (b : List ℤ) (p : Plan) → AtAdded c h j P b p → (s : Plan) × (p ≡ choose [] (f s))
  worst_form b finish w = absurd w
  worst_form b (choose u r) w =
      let e = pass_is_empty h j pass b u w.is_move in
      let k = s-p.form (b ++ u) r w.after in
      (k.0, ap (λ t. choose t r) e ∙ ap (choose []) k.1)
  worst_form b (answer l) w = absurd w

  pub worst_corresponds : Corresponds g h (λ b. IsWorst c g b (O b)) (AtAdded c h j P) (λ s. choose [] (f s))
  worst_corresponds = record {
    to = worst_to;
    from = worst_from;
    form = worst_form;
    worth = λ b s x. ap (value h (f s) x) (append-nil b) ∙ s-p.worth b s x;
  }

-- what an owner meets is what stands after the scopes added for its wish; n is the place of the next scope
pub meets_corresponds : (g h : Game) (w : Option Condition) (later : List Scope) (j n : ℕ) (O : List ℤ → Plan → Type 0) (f : Plan → Plan) →
    n ≡ suc (j + length (added w)) → (n ≡ suc (suc j) → IsPass h (suc j)) → Corresponds g h O (Optimal h later n) f →
    Corresponds g h (Meets w g O) (Optimal h (added w ++ later) (suc j)) (λ r. put_empty w (f r))
meets_corresponds g h None later j n O f e pass k = subst (λ m. Corresponds g h O (Optimal h later m) f) (e ∙ plain j) k
  where
    plain : (j : ℕ) → suc (j + 0) ≡ suc j
    plain j = omega arith
meets_corresponds g h (Some c) later j n O f e pass k =
    let next : n ≡ suc (suc j) = e ∙ one_more j in
    worst_corresponds g h c (suc j) O (Optimal h later (suc (suc j))) f (subst (λ m. Corresponds g h O (Optimal h later m) f) next k) (pass next)
  where
    one_more : (j : ℕ) → suc (j + 1) ≡ suc (suc j)
    one_more j = omega arith

-- each target under the same plan
module _ (g h : Game) (same : SameAggregates g h) where
  mutual
    pub plan_worth : (s : Plan) (x : Target) (a : List ℤ) → value h s x a ≡ value g s x a
    plan_worth finish (Var x) a = refl
    plan_worth finish (Agg q) a = refl
    plan_worth (choose t s) x a = plan_worth s x (a ++ t)
    plan_worth (answer l) (Var x) a = refl
    plan_worth (answer l) (Agg q) a =
        same.folds q.0 (branch_values h l (inner_target (slice_get h.aggregates q.0)) a)
        ∙ ap (λ x. aggregate_fold (slice_get g.aggregates q.0) (branch_values h l x a)) (same.targets q.0)
        ∙ ap (aggregate_fold (slice_get g.aggregates q.0)) (entries_worth l (inner_target (slice_get g.aggregates q.0)) a)

    entries_worth : (l : Entries) (x : Target) (a : List ℤ) → branch_values h l x a ≡ branch_values g l x a
    entries_worth no_entries x a = refl
    entries_worth (entry t s rest) x a =
        ap (λ v. v ∷ branch_values h rest x a) (plan_worth s x (a ++ t)) ∙ ap (λ vs. value g s x (a ++ t) ∷ vs) (entries_worth rest x a)

-- each target under what a turn becomes
module _ (g h : Game) (same : SameAggregates g h) (e f : Plan → Plan) where
  branches_worth : ((b : List ℤ) (s : Plan) (x : Target) → value h (f s) x b ≡ value g s x b) → (x : Target) (a : List ℤ) (l : Entries) →
      branch_values h (map_entries f l) x a ≡ branch_values g l x a
  branches_worth w x a no_entries = refl
  branches_worth w x a (entry t s rest) =
      ap (λ v. v ∷ branch_values h (map_entries f rest) x a) (w (a ++ t) s x) ∙ ap (λ vs. value g s x (a ++ t) ∷ vs) (branches_worth w x a rest)

  pub turn_worth : ((b : List ℤ) (s : Plan) (x : Target) → value h (e s) x b ≡ value g s x b) → ((b : List ℤ) (s : Plan) (x : Target) → value h (f s) x b ≡ value g s x b) →
      (a : List ℤ) (s : Plan) (x : Target) → value h (map_turn e f s) x a ≡ value g s x a
  turn_worth v w a finish (Var x) = refl
  turn_worth v w a finish (Agg q) = refl
  turn_worth v w a (choose t s) (Var x) = v (a ++ t) s (Var x)
  turn_worth v w a (choose t s) (Agg q) = v (a ++ t) s (Agg q)
  turn_worth v w a (answer l) (Var x) = refl
  turn_worth v w a (answer l) (Agg q) =
      same.folds q.0 (branch_values h (map_entries f l) (inner_target (slice_get h.aggregates q.0)) a)
      ∙ ap (λ x. aggregate_fold (slice_get g.aggregates q.0) (branch_values h (map_entries f l) x a)) (same.targets q.0)
      ∙ ap (aggregate_fold (slice_get g.aggregates q.0)) (branches_worth w (inner_target (slice_get g.aggregates q.0)) a l)

-- a choice, of the best by the condition x
module _ (g h : Game) (i j : ℕ) (same : SameScope g h i j) (O P : List ℤ → Plan → Type 0) (f : Plan → Plan) (s-p : Corresponds g h O P f) where
  better_same : (c : Condition) (a t u : List ℤ) (s r : Plan) →
      is_better c.sense (value h (f r) c.target (a ++ u)) (value h (f s) c.target (a ++ t)) ≡ is_better c.sense (value g r c.target (a ++ u)) (value g s c.target (a ++ t))
  better_same c a t u s r =
      ap (λ z. is_better c.sense z (value h (f s) c.target (a ++ t))) (s-p.worth (a ++ u) r c.target)
      ∙ ap (is_better c.sense (value g r c.target (a ++ u))) (s-p.worth (a ++ t) s c.target)

  best_to : (x : Option Condition) (a t : List ℤ) (s : Plan) → NoBetterChoice x g i a O t s → NoBetterChoice x h j a P t (f s)
  best_to None a t s h1 = tt
  best_to (Some c) a t s h1 = λ u r m p.
      let k = s-p.form (a ++ u) r p in
      ap (λ z. is_better c.sense (value h z c.target (a ++ u)) (value h (f s) c.target (a ++ t))) k.1
      ∙ better_same c a t u s k.0
      ∙ h1 u k.0 (move_from g h i j same a u m) (s-p.from (a ++ u) k.0 (subst (P (a ++ u)) k.1 p))

  best_from : (x : Option Condition) (a t : List ℤ) (s : Plan) → NoBetterChoice x h j a P t (f s) → NoBetterChoice x g i a O t s
  best_from None a t s h1 = tt
  best_from (Some c) a t s h1 = λ u r m o. sym (better_same c a t u s r) ∙ h1 u (f r) (move_to g h i j same a u m) (s-p.to (a ++ u) r o)

  pub choice_to : (x : Option Condition) (a t : List ℤ) (s : Plan) → ChoosesBest x g i a O t s → ChoosesBest x h j a P t (f s)
  choice_to x a t s c = record { is_move = move_to g h i j same a t c.is_move; after = s-p.to (a ++ t) s c.after; best = best_to x a t s c.best }

  pub choice_from : (x : Option Condition) (a t : List ℤ) (s : Plan) → ChoosesBest x h j a P t (f s) → ChoosesBest x g i a O t s
  choice_from x a t s c = record { is_move = move_from g h i j same a t c.is_move; after = s-p.from (a ++ t) s c.after; best = best_from x a t s c.best }

  same_tuples : (l : Entries) → entry_tuples (map_entries f l) ≡ entry_tuples l
  same_tuples no_entries = refl
  same_tuples (entry t s rest) = ap (λ ts. t ∷ ts) (same_tuples rest)

  each_to : (a : List ℤ) (l : Entries) → EachEntry (λ t s. O (a ++ t) s) l → EachEntry (λ t s. P (a ++ t) s) (map_entries f l)
  each_to a no_entries k = tt
  each_to a (entry t s rest) k = (s-p.to (a ++ t) s k.0, each_to a rest k.1)

  each_from : (a : List ℤ) (l : Entries) → EachEntry (λ t s. P (a ++ t) s) (map_entries f l) → EachEntry (λ t s. O (a ++ t) s) l
  each_from a no_entries k = tt
  each_from a (entry t s rest) k = (s-p.from (a ++ t) s k.0, each_from a rest k.1)

  pub covers_to : (a : List ℤ) (l : Entries) → Covers g i a O l → Covers h j a P (map_entries f l)
  covers_to a l k = record { tuples = same_tuples l ∙ k.tuples ∙ sym (same_moves g h i j same a); each = each_to a l k.each }

  pub covers_from : (a : List ℤ) (l : Entries) → Covers h j a P (map_entries f l) → Covers g i a O l
  covers_from a l k = record { tuples = sym (same_tuples l) ∙ k.tuples ∙ same_moves g h i j same a; each = each_from a l k.each }

  pub entries_form : (a : List ℤ) (l : Entries) → EachEntry (λ t s. P (a ++ t) s) l → (k : Entries) × (l ≡ map_entries f k)
  entries_form a no_entries k = (no_entries, refl)
  entries_form a (entry t s rest) k =
      let one = s-p.form (a ++ t) s k.0 in
      let more = entries_form a rest k.1 in
      (entry t one.0 more.0, ap (λ z. entry t z rest) one.1 ∙ ap (entry t (f one.0)) more.1)

-- the plans at a scope, by its kind
abbrev pub AtScope : Kind → Option Condition → Game → ℕ → (List ℤ → Plan → Type 0) → (List ℤ → Plan → Type 0) → List ℤ → Plan → Type 0
AtScope k x g i M O a s = Turn k s (ChoosesBest x g i a M) (Covers g i a O)

module _ (g h : Game) (i j : ℕ) (same : SameScope g h i j) (aggregates : SameAggregates g h) where
  pub choices_correspond : (x : Option Condition) (M R O P : List ℤ → Plan → Type 0) (e f : Plan → Plan) → Corresponds g h M R e →
      ((b : List ℤ) (s : Plan) (y : Target) → value h (f s) y b ≡ value g s y b) →
      Corresponds g h (AtScope Exists x g i M O) (AtScope Exists x h j R P) (map_turn e f)
  choices_correspond x M R O P e f k w = record {
    to = to;
    from = from;
    form = form;
    worth = turn_worth g h aggregates e f k.worth w;
  }
    where
      to : (a : List ℤ) (s : Plan) → AtScope Exists x g i M O a s → AtScope Exists x h j R P a (map_turn e f s)
      to a finish c = absurd c
      to a (choose t s) c = choice_to g h i j same M R e k x a t s c
      to a (answer l) c = absurd c

      from : (a : List ℤ) (s : Plan) → AtScope Exists x h j R P a (map_turn e f s) → AtScope Exists x g i M O a s
      from a finish c = absurd c
      from a (choose t s) c = choice_from g h i j same M R e k x a t s c
      from a (answer l) c = absurd c

      form : (a : List ℤ) (p : Plan) → AtScope Exists x h j R P a p → (s : Plan) × (p ≡ map_turn e f s)
      form a finish c = absurd c
      form a (choose t p) c = let n = k.form (a ++ t) p c.after in (choose t n.0, ap (choose t) n.1)
      form a (answer l) c = absurd c

  pub answers_correspond : (x : Option Condition) (M R O P : List ℤ → Plan → Type 0) (e f : Plan → Plan) → Corresponds g h O P f →
      ((b : List ℤ) (s : Plan) (y : Target) → value h (e s) y b ≡ value g s y b) →
      Corresponds g h (AtScope Forall x g i M O) (AtScope Forall x h j R P) (map_turn e f)
  answers_correspond x M R O P e f k w = record {
    to = to;
    from = from;
    form = form;
    worth = turn_worth g h aggregates e f w k.worth;
  }
    where
      to : (a : List ℤ) (s : Plan) → AtScope Forall x g i M O a s → AtScope Forall x h j R P a (map_turn e f s)
      to a finish c = absurd c
      to a (choose t s) c = absurd c
      to a (answer l) c = covers_to g h i j same O P f k a l c

      from : (a : List ℤ) (s : Plan) → AtScope Forall x h j R P a (map_turn e f s) → AtScope Forall x g i M O a s
      from a finish c = absurd c
      from a (choose t s) c = absurd c
      from a (answer l) c = covers_from g h i j same O P f k a l c

      form : (a : List ℤ) (p : Plan) → AtScope Forall x h j R P a p → (s : Plan) × (p ≡ map_turn e f s)
      form a finish c = absurd c
      form a (choose t s) c = absurd c
      form a (answer l) c = let n = entries_form g h i j same O P f k a l c.each in (answer n.0, ap answer n.1)
