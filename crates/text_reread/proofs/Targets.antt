-- What conditions and folds of a valid problem name: what is there, and seen.
use Rattle.std.proofs.Common.{◌≡◌, subst, refl, ◌≤◌, ◌<◌, ◌==◌, ℕ, zero, suc, Bool, true, false, cond, List, [], ◌∷◌, map, slice_get, Option, Some, None, is_some, arith, ltb-true, lt-ltb, le-ltb, ltb-false}
use Rattle.std.specs.Prelude.{nat_lt}
use Rattle.std.specs.List.{sum_by}
use Rattle.std.proofs.lemmas.List.Sums.{sum_by-cons}
use Rattle.std.proofs.lemmas.Bool.{cond-true, cond-false}
use Rattle.std.proofs.lemmas.Option.{same_Some}
use Rattle.qc_model.specs.declared.problem.Kind.{Kind}
use Rattle.qc_model.specs.declared.problem.Kind.TheVariants.{Exists, Forall}
use Rattle.qc_model.specs.declared.problem.Scope.{Scope}
use Rattle.qc_model.specs.declared.problem.Variable.{Variable}
use Rattle.qc_model.specs.declared.problem.Aggregate.{Aggregate as ModelAggregate}
use Rattle.qc_model.specs.declared.problem.Domain.{Domain}
use Rattle.qc_model.specs.declared.problem.Domain.TheVariants.{Bits, Range, Listed}
use Rattle.qc_model.specs.declared.problem.Target.{Target}
use Rattle.qc_model.specs.declared.problem.Target.TheVariants.{Var, Aggregate as Agg}
use Rattle.qc_model.specs.Content.{Game}
use Rattle.qc_model.specs.Sees.{stands_in, IsVisibleHere, IsVisible, AtUniversal}
use Rattle.qc_model.specs.Valid.{is_variable_with, is_integer_domain, is_target}
use Rattle.text_resolve.specs.declared.names.Named.{Named}
use Rattle.text_resolve.specs.declared.names.Named.TheVariants.{Integer, Boolean, Aggregate}
use Rattle.text_resolve.specs.declared.names.Meant.{Meant}
use Rattle.text_resolve.specs.Hidden.{universal_from, next_universal, is_seen}
use Rattle.text_reread.proofs.Scoped.{AreOrdered}

-- the kinds of the scopes
abbrev pub kinds : Game → List Kind
kinds g = map (λ s. s.kind) g.scopes

-- what a variable's name stands for, by its domain and its number
abbrev pub domain_named : Domain → ℕ → Named
domain_named Bits k = Boolean k
domain_named (Range low high) k = Integer k
domain_named (Listed ns) k = Integer k

abbrev pub variable_scope : Option Variable → ℕ
variable_scope None = 0
variable_scope (Some x) = x.scope.0

abbrev pub aggregate_scope : Option ModelAggregate → ℕ
aggregate_scope None = 0
aggregate_scope (Some q) = q.scope.0

-- what the name of a target stands for
abbrev pub target_meant : Game → Target → Meant
target_meant g (Var x) = record { named = Integer x.0; scope = variable_scope (slice_get g.variables x.0) }
target_meant g (Agg q) = record { named = Aggregate q.0; scope = aggregate_scope (slice_get g.aggregates q.0) }

abbrev pub IsThere : Game → Target → Type 0
IsThere g (Var x) = is_variable_with is_integer_domain (slice_get g.variables x.0) ≡ true
IsThere g (Agg q) = is_some (slice_get g.aggregates q.0) ≡ true

-- a target that is there, and seen by what stands in scope i
pub record IsGoodTarget (g : Game) (i : ℕ) (t : Target) : Type 0 where
  pub there : IsThere g t
  pub seen : is_seen (next_universal (kinds g) i) (target_meant g t) ≡ true

-- an aggregate that the search for the aggregate of scope j finds
module _ (j : ℕ) where
  abbrev one_before : Variable → ℕ
  one_before y = cond (nat_lt y.scope.0 j) 1 0

  -- none of a list stands before scope j, where all stand later
  none_before : (high low : ℕ) (xs : List Variable) → AreOrdered (λ (y : Variable). y.scope.0) high low xs → j ≤ low → sum_by one_before xs ≡ 0
  none_before high low [] o l = refl
  none_before high low (y ∷ ys) o l =
      let first = o.0 in
      let a = sum_by-cons one_before y ys in
      let b : one_before y ≡ 0 = cond-false (nat_lt y.scope.0 j) 1 0 (le-ltb (y.scope.0) j (omega (arith, first))) in
      let c = none_before high (y.scope.0) ys o.2 (omega (arith, first)) in
      omega (arith, a, b, c)

  -- a place among so many is that of a variable of a scope before j
  scope_before : (high low : ℕ) (xs : List Variable) (k : ℕ) (x : Variable) → AreOrdered (λ (y : Variable). y.scope.0) high low xs → k < sum_by one_before xs → slice_get xs k ≡ Some x → x.scope.0 < j
  scope_before high low [] k x o lt h = absurd cc
  scope_before high low (y ∷ ys) k x o lt h = go k (nat_lt y.scope.0 j) refl lt h (λ m. scope_before high (y.scope.0) ys m x o.2)
    where
      go : (k : ℕ) (c : Bool) → nat_lt y.scope.0 j ≡ c → k < sum_by one_before (y ∷ ys) → slice_get (y ∷ ys) k ≡ Some x → ((m : ℕ) → m < sum_by one_before ys → slice_get ys m ≡ Some x → x.scope.0 < j) → x.scope.0 < j
      go zero true e lt h later = subst (λ z. z.scope.0 < j) (same_Some y x h) (ltb-true (y.scope.0) j e)
      go (suc m) true e lt h later =
          let a = sum_by-cons one_before y ys in
          let b : one_before y ≡ 1 = cond-true (nat_lt y.scope.0 j) 1 0 e in
          later m (omega (arith, a, b, lt)) h
      go k false e lt h later =
          let below = ltb-false (y.scope.0) j e in
          let n = none_before high (y.scope.0) (y ∷ ys) (omega arith, o.1, o.2) below in
          absurd (omega (arith, n, lt))

module _ (g : Game) (high : ℕ) (o : AreOrdered (λ (y : Variable). y.scope.0) high 0 g.variables) where
  -- what is visible at universal scope j is there, and seen
  here : (j : ℕ) (t : Target) → IsVisibleHere g j t → is_target g.variables t ≡ true → IsThere g t × (is_seen (Some j) (target_meant g t) ≡ true)
  here j (Var x) v h = (h, go (slice_get g.variables x.0) refl h)
    where
      go : (s : Option Variable) → slice_get g.variables x.0 ≡ s → is_variable_with is_integer_domain s ≡ true → nat_lt (variable_scope s) j ≡ true
      go None e h = absurd cc
      go (Some y) e h = lt-ltb (y.scope.0) j (scope_before j high 0 g.variables x.0 y o v e)
  here j (Agg q) v h = go (slice_get g.aggregates q.0) v
    where
      go : (o : Option ModelAggregate) → stands_in j o ≡ true → (is_some o ≡ true) × ((aggregate_scope o == j) ≡ true)
      go None e = cc
      go (Some a) e = (refl, e)

  -- what is visible is there, and seen
  pub visible_good : (later : List Scope) (j : ℕ) (t : Target) → IsVisible g later j t → is_target g.variables t ≡ true → IsThere g t × (is_seen (universal_from j (map (λ s. s.kind) later)) (target_meant g t) ≡ true)
  visible_good [] j (Var x) v h = (h, refl)
  visible_good [] j (Agg q) v h = absurd v
  visible_good (s ∷ later) j t v h = go s.kind v (λ w. visible_good later (suc j) t w h)
    where
      go : (k : Kind) → AtUniversal k (IsVisibleHere g j t) (IsVisible g later (suc j) t) →
          (IsVisible g later (suc j) t → IsThere g t × (is_seen (universal_from (suc j) (map (λ (z : Scope). z.kind) later)) (target_meant g t) ≡ true)) →
          IsThere g t × (is_seen (universal_from j (k ∷ map (λ (z : Scope). z.kind) later)) (target_meant g t) ≡ true)
      go Exists v more = more v
      go Forall v more = here j t v h
