-- The lists of scopes name what is visible there.
use Rattle.std.proofs.Common.{◌≡◌, ℕ, zero, suc, ◌+◌, ◌≤◌, length, Bool, true, false, List, [], ◌∷◌, ◌++◌, map, filter, take, drop, sym, ap, subst, cond, Option, Some, None, arith}
use Rattle.std.specs.Prelude.{◌==◌, slice_get}
use Rattle.qc_model.specs.declared.problem.Kind.{Kind}
use Rattle.qc_model.specs.declared.problem.Kind.TheVariants.{Exists, Forall}
use Rattle.qc_model.specs.declared.problem.Target.{Target}
use Rattle.qc_model.specs.declared.problem.Target.TheVariants.{Var, Aggregate as Agg}
use Rattle.qc_model.specs.declared.problem.Scope.{Scope}
use Rattle.qc_model.specs.declared.problem.Aggregate.{Aggregate}
use Rattle.qc_model.specs.declared.problem.Condition.{Condition}
use Rattle.qc_model.specs.Content.{Game}
use Rattle.qc_model.specs.Block.{of_kind}
use Rattle.qc_model.specs.Value.{inner_target}
use Rattle.qc_model.specs.Demands.{names, demand_within, demands_after, demands_from, demands}
use Rattle.qc_model.specs.Bottlenecks.{bottleneck_last, bottlenecks_last}
use Rattle.model_laws.specs.Branches.{AllOwn}
use Rattle.qc_model.specs.Sees.{stands_in, IsVisible, IsVisibleHere, AllVisible, AggregatesSee, aggregates_in, ScopeSees, SeesRight}
use Rattle.model_laws.proofs.Better.{and_first, and_second}
use Rattle.model_laws.proofs.Namings.{keep, fresh, namings_fresh}

pub visible_own : (g : Game) (later : List Scope) (x : Option Condition) (i : ℕ) (d : List Condition) → AllVisible g (record { kind = Forall; condition = x } ∷ later) i d → AllOwn g i d
visible_own g later x i [] h = tt
visible_own g later x i (c ∷ d) h = (h.0, visible_own g later x i d h.1)

-- past an existential scope what is visible stays so
past_exists : (g : Game) (later : List Scope) (x : Option Condition) (i : ℕ) (d : List Condition) → AllVisible g (record { kind = Exists; condition = x } ∷ later) i d → AllVisible g later (suc i) d
past_exists g later x i [] h = tt
past_exists g later x i (c ∷ d) h = (h.0, past_exists g later x i d h.1)

-- an aggregate of the scope is among those that see their targets
sees_its_target : (g : Game) (later : List Scope) (i n : ℕ) (qs : List Aggregate) (k : ℕ) → AggregatesSee g later n (filter (λ q. q.scope.0 == i) qs) → stands_in i (slice_get qs k) ≡ true →
    IsVisible g later n (inner_target (slice_get qs k))
sees_its_target g later i n [] zero h e = cc
sees_its_target g later i n [] (suc k) h e = cc
sees_its_target g later i n (q ∷ qs) zero h e = (subst (λ b. AggregatesSee g later n (cond b (q ∷ filter (λ x. x.scope.0 == i) qs) (filter (λ x. x.scope.0 == i) qs))) e h).0
sees_its_target g later i n (q ∷ qs) (suc k) h e = sees_its_target g later i n qs k (past (q.scope.0 == i) h) e
  where
    past : (b : Bool) → AggregatesSee g later n (cond b (q ∷ filter (λ x. x.scope.0 == i) qs) (filter (λ x. x.scope.0 == i) qs)) → AggregatesSee g later n (filter (λ x. x.scope.0 == i) qs)
    past true h = h.1
    past false h = h

-- what the first namings ask of the branches is visible after the scope
first_visible : (g : Game) (later : List Scope) (i n : ℕ) (p d : List Condition) → AggregatesSee g later n (aggregates_in g i) → AllOwn g i d → AllVisible g later n (map (demand_within g) (fresh p d))
first_visible g later i n p [] s h = tt
first_visible g later i n p (c ∷ d) s h = by c.target h.0 (first_visible g later i n p d s h.1) (first_visible g later i n (p ++ c ∷ []) d s h.1)
  where
    by : (t : Target) → IsVisibleHere g i t → AllVisible g later n (map (demand_within g) (fresh p d)) → AllVisible g later n (map (demand_within g) (fresh (p ++ c ∷ []) d)) →
        AllVisible g later n (map (demand_within g) (keep p (record { sense = c.sense; target = t }) t (fresh p d) (fresh (p ++ c ∷ []) d)))
    by (Var x) v h k = h
    by (Agg q) v h k = split (names q.0 p)
      where
        split : (b : Bool) → AllVisible g later n (map (demand_within g) (cond b (fresh p d) (record { sense = c.sense; target = Agg q } ∷ fresh (p ++ c ∷ []) d)))
        split true = h
        split false = (sees_its_target g later i n g.aggregates q.0 s v, k)

pub after_visible : (g : Game) (later : List Scope) (k : Kind) (x : Option Condition) (i : ℕ) (d : List Condition) → AllVisible g (record { kind = k; condition = x } ∷ later) i d →
    ScopeSees k g later (suc i) x (aggregates_in g i) → AllVisible g later (suc i) (demands_after g k x d)
after_visible g later Exists None i d h s = past_exists g later None i d h
after_visible g later Exists (Some c) i d h s = (s, past_exists g later (Some c) i d h)
after_visible g later Forall x i d h s =
    subst (λ e. AllVisible g later (suc i) (map (demand_within g) e)) (sym (namings_fresh [] d)) (first_visible g later i (suc i) [] d s (visible_own g later x i d h))

pub lists_visible : (g : Game) (scopes : List Scope) (n i : ℕ) (d : List Condition) → n ≤ length scopes → SeesRight g scopes i → AllVisible g scopes i d →
    AllVisible g (drop n scopes) (n + i) (demands_from g (take n scopes) d)
lists_visible g scopes zero i d le s h = subst (λ m. AllVisible g scopes m d) (let e : i ≡ 0 + i = omega arith in e) h
lists_visible g [] (suc n) i d le s h = absurd (omega arith)
lists_visible g (scope ∷ scopes) (suc n) i d le s h =
    subst (λ m. AllVisible g (drop n scopes) m (demands_from g (take n scopes) (demands_after g scope.kind scope.condition d))) (let e : n + suc i ≡ suc n + i = omega arith in e)
    (lists_visible g scopes n (suc i) (demands_after g scope.kind scope.condition d) (omega arith) s.1 (after_visible g scopes scope.kind scope.condition i d h s.0))

pub demands_visible : (g : Game) (i : ℕ) → i ≤ length g.scopes → SeesRight g g.scopes 0 → AllVisible g (drop i g.scopes) i (demands g i)
demands_visible g i le s = subst (λ m. AllVisible g (drop i g.scopes) m (demands g i)) (let e : i + 0 ≡ i = omega arith in e) (lists_visible g g.scopes i 0 [] le s (nothing g.scopes))
  where
    nothing : (scopes : List Scope) → AllVisible g scopes 0 []
    nothing [] = tt
    nothing (x ∷ xs) = tt

-- and where each universal scope may have its list, the one that is reached may
pub bottlenecks_reached : (g : Game) (scopes : List Scope) (n : ℕ) (d : List Condition) (x : Option Condition) (later : List Scope) → bottlenecks_last g scopes d ≡ true →
    drop n scopes ≡ record { kind = Forall; condition = x } ∷ later → bottleneck_last g (demands_from g (take n scopes) d) ≡ true
bottlenecks_reached g [] zero d x later b e = cc
bottlenecks_reached g [] (suc n) d x later b e = cc
bottlenecks_reached g (scope ∷ scopes) zero d x later b e =
    let k : scope.kind ≡ Forall = ap (λ (z : List Scope). kind_of z) e in
    subst (λ z. of_kind z true (bottleneck_last g d) ≡ true) k (and_first (of_kind scope.kind true (bottleneck_last g d)) (bottlenecks_last g scopes (demands_after g scope.kind scope.condition d)) b)
  where
    kind_of : List Scope → Kind
    kind_of [] = Exists
    kind_of (s ∷ ss) = s.kind
bottlenecks_reached g (scope ∷ scopes) (suc n) d x later b e =
    bottlenecks_reached g scopes n (demands_after g scope.kind scope.condition d) x later
    (and_second (of_kind scope.kind true (bottleneck_last g d)) (bottlenecks_last g scopes (demands_after g scope.kind scope.condition d)) b) e
