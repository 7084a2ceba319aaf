-- Where the player answers for what is at stake.
use Rattle.std.proofs.Common.{◌≡◌, ◌⊎◌, inl, inr, refl, sym, ap, ◌∙◌, ℕ, suc, ◌≤◌, Bool, true, false, List, [], ◌∷◌, map, cond, arith, ℤ, pos}
use Rattle.std.specs.Prelude.{Option, Some, None, slice_get, slice_index_or}
use Rattle.qc_model.specs.declared.problem.Kind.{Kind}
use Rattle.qc_model.specs.declared.problem.Kind.TheVariants.{Exists, Forall}
use Rattle.qc_model.specs.declared.problem.Sense.{Sense}
use Rattle.qc_model.specs.declared.problem.Target.{Target}
use Rattle.qc_model.specs.declared.problem.Target.TheVariants.{Var, Aggregate as Agg}
use Rattle.qc_model.specs.declared.problem.VarId.{VarId}
use Rattle.qc_model.specs.declared.problem.Scope.{Scope}
use Rattle.qc_model.specs.declared.problem.Aggregate.{Aggregate}
use Rattle.qc_model.specs.Content.{Game}
use Rattle.qc_model.specs.Plan.{Plan, finish, choose, answer, Entries, Turn, Covers}
use Rattle.qc_model.specs.Value.{value, inner_target}
use Rattle.qc_model.specs.Optimal.{ChoosesBest, Optimal}
use Rattle.zero_sum.specs.declared.stake.Stake.{Stake}
use Rattle.zero_sum.specs.Stake.{is_by_worst, stake_at, stake_past, stake_from}
use Rattle.zero_sum.specs.Bounded.{plain}

-- what is found is the sense, the variable and the place that were given
pub record Found (c : Sense) (x : VarId) (p : Option ℕ) (z : Stake) : Type 0 where
  pub sense : z.sense ≡ c
  pub variable : z.variable ≡ x
  pub place : p ≡ Some z.place.0

pub found : (c : Sense) (x : VarId) (p : Option ℕ) (z : Stake) → stake_at c x p ≡ Some z → Found c x p z
found c x None z e = absurd cc
found c x (Some n) z e =
    let same : record { sense = c; variable = x; place = record { 0 = n } } ≡ z = cc in
    record { sense = sym (ap (λ (s : Stake). s.sense) same); variable = sym (ap (λ (s : Stake). s.variable) same); place = ap (λ (s : Stake). Some s.place.0) same }

-- an aggregate is passed only where it is by the worst branch
pub record Passed (c : Sense) (q : Option Aggregate) (r : Option Stake) (z : Stake) : Type 0 where
  pub worst : is_by_worst c q ≡ true
  pub rest : r ≡ Some z

pub passed : (c : Sense) (q : Option Aggregate) (r : Option Stake) (z : Stake) → cond (is_by_worst c q) r None ≡ Some z → Passed c q r z
passed c q r z e = by (is_by_worst c q) refl
  where
    by : (b : Bool) → is_by_worst c q ≡ b → Passed c q r z
    by true k = record { worst = k; rest = sym (ap (λ b. cond b r None) k) ∙ e }
    by false k = absurd (never (sym (ap (λ b. cond b r None) k) ∙ e))
      where
        never : None ≡ Some z → ⊥
        never e = cc

-- the place isn't before the scope, unless it was found before
pub place_later : (g : Game) (c : Sense) (z : Stake) (later : List Scope) (i : ℕ) (p : Option ℕ) (t : Target) → stake_from g c later i p t ≡ Some z → (p ≡ Some z.place.0) ⊎ (i ≤ z.place.0)
place_later g c z [] i p (Var x) e =
    let here : Some i ≡ Some z.place.0 = (found c x (Some i) z e).place in
    let same : i ≡ z.place.0 = cc in
    inr (omega arith)
place_later g c z [] i p (Agg q) e = absurd cc
place_later g c z (s ∷ later) i p t e = by (place_later g c z later (suc i)) s.kind t e
  where
    later_than : (m n : ℕ) → suc m ≤ n → m ≤ n
    later_than m n h = omega arith

    same_place : (m n : ℕ) → Some m ≡ Some n → m ≤ n
    same_place m n h = let e : m ≡ n = cc in omega arith

    by : ((p : Option ℕ) (t : Target) → stake_from g c later (suc i) p t ≡ Some z → (p ≡ Some z.place.0) ⊎ (suc i ≤ z.place.0)) →
        (k : Kind) (t : Target) → stake_past k g c i (stake_from g c later (suc i)) p t ≡ Some z → (p ≡ Some z.place.0) ⊎ (i ≤ z.place.0)
    by f Exists t e = elim (f (Some i) t e) [ inl h ↦ inr (same_place i z.place.0 h) | inr h ↦ inr (later_than i z.place.0 h) ]
    by f Forall (Var x) e = inl (found c x p z e).place
    by f Forall (Agg q) e =
        elim (f None (inner_target (slice_get g.aggregates q.0)) (passed c (slice_get g.aggregates q.0) _ z e).rest) [
          | inl h ↦ absurd cc
          | inr h ↦ inr (later_than i z.place.0 h)
        ]

-- so past an aggregate it comes later
pub place_after : (g : Game) (c : Sense) (z : Stake) (later : List Scope) (i : ℕ) (t : Target) → stake_from g c later i None t ≡ Some z → i ≤ z.place.0
place_after g c z later i t e = elim (place_later g c z later i None t e) [ inl h ↦ absurd cc | inr h ↦ h ]

-- a strategy that is optimal at a scope without a wish
abbrev pub AtPlain : Kind → Game → List Scope → ℕ → List ℤ → Plan → Type 0
AtPlain k g ks i a s = Turn k s (ChoosesBest None g i a (Optimal g ks (suc i))) (Covers g i a (Optimal g ks (suc i)))

-- an answer is worth the value that the variable has
pub answer_worth : (g : Game) (x : VarId) (a : List ℤ) (C : List ℤ → Plan → Type 0) (A : Entries → Type 0) (s : Plan) → Turn Forall s C A → value g s (Var x) a ≡ slice_index_or a x.0 (pos 0)
answer_worth g x a C A finish h = absurd h
answer_worth g x a C A (choose t s) h = absurd h
answer_worth g x a C A (answer l) h = refl

-- right after the place, a strategy is worth what the variable has there
pub worth_at_place : (g : Game) (c : Sense) (z : Stake) (later : List Scope) (i : ℕ) (t : Target) (b : List ℤ) (s : Plan) → stake_from g c later (suc i) (Some i) t ≡ Some z → z.place.0 ≡ i →
    Optimal g (map plain later) (suc i) b s → value g s t b ≡ slice_index_or b z.variable.0 (pos 0)
worth_at_place g c z [] i (Var x) b s e at o = absurd (beyond i z.place.0 (found c x (Some (suc i)) z e).place at)
  where
    beyond : (i n : ℕ) → Some (suc i) ≡ Some n → n ≡ i → ⊥
    beyond i n h k = let e : suc i ≡ n = cc in omega arith
worth_at_place g c z [] i (Agg q) b s e at o = absurd cc
worth_at_place g c z (k ∷ later) i t b s e at o = by k.kind t e o
  where
    not_yet : (m : ℕ) → suc (suc i) ≤ m → m ≡ i → ⊥
    not_yet m h k = omega arith

    not_next : (m : ℕ) → Some (suc i) ≡ Some m → m ≡ i → ⊥
    not_next m h k = let e : suc i ≡ m = cc in omega arith

    by : (k : Kind) (t : Target) → stake_past k g c (suc i) (stake_from g c later (suc (suc i))) (Some i) t ≡ Some z →
        AtPlain k g (map plain later) (suc i) b s → value g s t b ≡ slice_index_or b z.variable.0 (pos 0)
    by Exists t e o =
        absurd (elim (place_later g c z later (suc (suc i)) (Some (suc i)) t e) [ inl h ↦ not_next z.place.0 h at | inr h ↦ not_yet z.place.0 h at ])
    by Forall (Var x) e o = answer_worth g x b (ChoosesBest None g (suc i) b (Optimal g (map plain later) (suc (suc i)))) (Covers g (suc i) b (Optimal g (map plain later) (suc (suc i)))) s o ∙ ap (λ (y : VarId). slice_index_or b y.0 (pos 0)) (sym (found c x (Some i) z e).variable)
    by Forall (Agg q) e o = absurd (not_yet z.place.0 (place_after g c z later (suc (suc i)) (inner_target (slice_get g.aggregates q.0)) (passed c (slice_get g.aggregates q.0) _ z e).rest) at)

-- and it is of the wish's sense
pub stake_sense : (g : Game) (c : Sense) (z : Stake) (later : List Scope) (i : ℕ) (p : Option ℕ) (t : Target) → stake_from g c later i p t ≡ Some z → z.sense ≡ c
stake_sense g c z [] i p (Var x) e = (found c x (Some i) z e).sense
stake_sense g c z [] i p (Agg q) e = absurd cc
stake_sense g c z (s ∷ later) i p t e = by (stake_sense g c z later (suc i)) s.kind t e
  where
    by : ((p : Option ℕ) (t : Target) → stake_from g c later (suc i) p t ≡ Some z → z.sense ≡ c) →
        (k : Kind) (t : Target) → stake_past k g c i (stake_from g c later (suc i)) p t ≡ Some z → z.sense ≡ c
    by f Exists t e = f (Some i) t e
    by f Forall (Var x) e = (found c x p z e).sense
    by f Forall (Agg q) e = f None (inner_target (slice_get g.aggregates q.0)) (passed c (slice_get g.aggregates q.0) _ z e).rest
