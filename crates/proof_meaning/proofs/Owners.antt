-- A variable that may be bounded stands before the first scope that isn't free.
use Rattle.std.proofs.Common.{◌≡◌, ◌∙◌, sym, ap, refl, subst, inl, inr, ◌⊎◌, ℕ, zero, suc, ◌<◌, ◌≤◌, ◌+◌, Bool, true, false, List, [], ◌∷◌, length, map, cond, arith, Some, None}
use Rattle.std.specs.Prelude.{nat_lt, slice_get}
use Rattle.std.proofs.lemmas.Bool.Decides.{nat_tests}
use Rattle.qc_model.specs.declared.problem.Kind.{Kind}
use Rattle.qc_model.specs.declared.problem.Kind.TheVariants.{Exists, Forall}
use Rattle.qc_model.specs.declared.problem.Sense.{Sense}
use Rattle.qc_model.specs.declared.problem.VarId.{VarId}
use Rattle.qc_model.specs.declared.problem.Target.{Target}
use Rattle.qc_model.specs.declared.problem.Target.TheVariants.{Var, Aggregate as Agg}
use Rattle.qc_model.specs.declared.problem.Condition.{Condition}
use Rattle.qc_model.specs.declared.problem.Variable.{Variable}
use Rattle.qc_model.specs.declared.problem.Scope.{Scope}
use Rattle.qc_model.specs.Content.{Game}
use Rattle.qc_model.specs.Game.{before}
use Rattle.qc_model.specs.Valid.{IsValid, is_in_order}
use Rattle.qc_model.specs.Sees.{IsVisibleHere, AtUniversal, IsVisible, AllVisible}
use Rattle.qc_model.specs.Block.{of_kind, no_condition_to}
use Rattle.qc_model.proofs.InOrder.{below, none_below, tail_order, next_up, counted}
use Rattle.proof_tree.specs.Place.{Tracked, owner_of, tracked_target, tracked_first, tracked_variable}
use Rattle.proof_tree.specs.Fair.{free_stop}
use Rattle.proof_meaning.proofs.FreeScopes.{run_stop, bounded_is_free}

abbrev owner : Variable → ℕ
owner x = x.scope.0

test_or : (k j : ℕ) → ((nat_lt k j ≡ true) × (k < j)) ⊎ ((nat_lt k j ≡ false) × (j ≤ k))
test_or k j = by (nat_lt k j) refl
  where
    by : (b : Bool) → nat_lt k j ≡ b → ((nat_lt k j ≡ true) × (k < j)) ⊎ ((nat_lt k j ≡ false) × (j ≤ k))
    by true e = inl (e, grind (arith, nat_tests))
    by false e = inr (e, grind (arith, nat_tests))

-- the variables before a scope are those of earlier scopes
low : (n j : ℕ) (xs : List Variable) (x : ℕ) → is_in_order n (map owner xs) ≡ true → x < below owner j xs → (v : Variable) × (slice_get xs x ≡ Some v) × (v.scope.0 < j)
low n j [] x h l = absurd (omega arith)
low n j (v ∷ xs) x h l = elim (test_or (owner v) j) [
  | inl p ↦ at x (subst (λ m. x < m) (counted owner j v xs ∙ ap (λ b. cond b 1 0 + below owner j xs) p.0) l) p.1 (λ y k. low n j xs y (tail_order owner n (owner v) xs h) k)
  | inr p ↦ (let none = none_below owner n (owner v) j xs h p.1 in
      let c : below owner j (v ∷ xs) ≡ 0 + below owner j xs = counted owner j v xs ∙ ap (λ b. cond b 1 0 + below owner j xs) p.0 in
      absurd (omega arith))
]
  where
    at : (x : ℕ) → x < 1 + below owner j xs → v.scope.0 < j → ((y : ℕ) → y < below owner j xs → (u : Variable) × (slice_get xs y ≡ Some u) × (u.scope.0 < j)) →
        (u : Variable) × (slice_get (v ∷ xs) x ≡ Some u) × (u.scope.0 < j)
    at zero l p f = (v, refl, p)
    at (suc x) l p f = f x (omega arith)

-- none after the first has an earlier scope
least : (n k : ℕ) (ys : List Variable) (y : ℕ) (v : Variable) → is_in_order n (k ∷ map owner ys) ≡ true → slice_get ys y ≡ Some v → k ≤ v.scope.0
least n k [] y v h e = cc
least n k (u ∷ ys) zero v h e = let q : u ≡ v = cc in subst (λ (z : Variable). k ≤ z.scope.0) q (next_up owner n k u ys h)
least n k (u ∷ ys) (suc y) v h e =
    let up = next_up owner n k u ys h in
    let r : owner u ≤ v.scope.0 = least n (owner u) ys y v (tail_order owner n k (u ∷ ys) h) e in
    omega arith

high : (n j : ℕ) (xs : List Variable) (x : ℕ) (v : Variable) → is_in_order n (map owner xs) ≡ true → slice_get xs x ≡ Some v → v.scope.0 < j → x < below owner j xs
high n j [] x v h e l = cc
high n j (u ∷ xs) zero v h e l =
    let q : u ≡ v = cc in
    first (subst (λ (z : Variable). z.scope.0 < j) (sym q) l)
  where
    first : u.scope.0 < j → 0 < below owner j (u ∷ xs)
    first l = elim (test_or (owner u) j) [
      | inl p ↦ (let c : below owner j (u ∷ xs) ≡ 1 + below owner j xs = counted owner j u xs ∙ ap (λ b. cond b 1 0 + below owner j xs) p.0 in omega arith)
      | inr p ↦ absurd (omega arith)
    ]
high n j (u ∷ xs) (suc x) v h e l =
    let r = high n j xs x v (tail_order owner n (owner u) xs h) e l in
    let up : owner u ≤ v.scope.0 = least n (owner u) xs x v h e in
    elim (test_or (owner u) j) [
      | inl p ↦ (let c : below owner j (u ∷ xs) ≡ 1 + below owner j xs = counted owner j u xs ∙ ap (λ b. cond b 1 0 + below owner j xs) p.0 in omega arith)
      | inr p ↦ absurd (omega arith)
    ]

-- a variable that is visible from scope i on stands before the block's end
visible_before : (g : Game) (later : List Scope) (i : ℕ) (x : VarId) → IsVisible g later i (Var x) → x.0 < before g (run_stop later i)
visible_before g [] i x h = h
visible_before g (s ∷ later) i x h = by s.kind h (visible_before g later (suc i) x)
  where
    by : (k : Kind) → AtUniversal k (IsVisibleHere g i (Var x)) (IsVisible g later (suc i) (Var x)) → (IsVisible g later (suc i) (Var x) → x.0 < before g (run_stop later (suc i))) → x.0 < before g (of_kind k (run_stop later (suc i)) i)
    by Exists h f = f h
    by Forall h f = h

bound_target : (g : Game) → IsValid g → (later : List Scope) (i : ℕ) (s : Sense) (x : Target) (t : Tracked) → IsVisible g later i x → tracked_target g later i s x ≡ Some t → t.variable < before g (free_stop later i)
bound_target g valid later i s (Agg q) t h e = cc
bound_target g valid later i s (Var x) t h e = by (no_condition_to (owner_of (slice_get g.variables x.0)) later i) refl e
  where
    by : (b : Bool) → no_condition_to (owner_of (slice_get g.variables x.0)) later i ≡ b → cond b (Some (record { sense = s; variable = x.0 })) None ≡ Some t → t.variable < before g (free_stop later i)
    by false q e = cc
    by true q e =
        let r = low (length g.scopes) (run_stop later i) g.variables x.0 valid.variable_order (visible_before g later i x h) in
        let o : owner_of (slice_get g.variables x.0) ≡ owner r.0 = ap owner_of r.1 in
        let f : owner r.0 < free_stop later i =
        bounded_is_free (owner r.0) later i (subst (λ k. no_condition_to k later i ≡ true) o q) r.2 in
        let u : record { sense = s; variable = x.0 } ≡ t = cc in
        subst (λ (z : Tracked). z.variable < before g (free_stop later i)) u (high (length g.scopes) (free_stop later i) g.variables x.0 r.0 valid.variable_order r.1 f)

-- a variable that may be bounded, of an existential scope, stands before the first scope that isn't free
pub bound_free : (g : Game) → IsValid g → (s : Scope) (later : List Scope) (i : ℕ) (e : List Condition) (t : Tracked) → AllVisible g later (suc i) e → tracked_variable g (s ∷ later) i e ≡ Some t →
    (s.kind ≡ Exists) × (t.variable < before g (free_stop later (suc i)))
bound_free g valid s later i e t h q = by s.kind e h q
  where
    by : (k : Kind) (e : List Condition) → AllVisible g later (suc i) e → of_kind k (tracked_first g later (suc i) e) None ≡ Some t → (k ≡ Exists) × (t.variable < before g (free_stop later (suc i)))
    by Exists [] h q = cc
    by Exists (c ∷ e) h q = (refl, bound_target g valid later (suc i) c.sense c.target t h.0 q)
    by Forall e h q = cc
