-- Which scope a variable is of, by its number.
use Rattle.std.proofs.Common.{◌≡◌, ◌∙◌, sym, ap, refl, subst, inl, inr, ◌⊎◌, ℕ, zero, suc, ◌<◌, ◌≤◌, ◌+◌, Bool, true, false, List, [], ◌∷◌, length, map, cond, arith, Some}
use Rattle.std.specs.Prelude.{nat_lt, slice_get}
use Rattle.std.proofs.lemmas.Bool.Decides.{nat_tests}
use Rattle.qc_model.specs.declared.problem.Variable.{Variable}
use Rattle.qc_model.specs.Content.{Game}
use Rattle.qc_model.specs.Game.{before}
use Rattle.qc_model.specs.Valid.{IsValid, is_in_order}
use Rattle.qc_model.proofs.InOrder.{below, none_below, tail_order, next_up, counted}
use Rattle.proof_tree.specs.Place.{owner_of}

abbrev owner : Variable → ℕ
owner x = x.scope.0

test_or : (k j : ℕ) → ((nat_lt k j ≡ true) × (k < j)) ⊎ ((nat_lt k j ≡ false) × (j ≤ k))
test_or k j = by (nat_lt k j) refl
  where
    by : (b : Bool) → nat_lt k j ≡ b → ((nat_lt k j ≡ true) × (k < j)) ⊎ ((nat_lt k j ≡ false) × (j ≤ k))
    by true e = inl (e, grind (arith, nat_tests))
    by false e = inr (e, grind (arith, nat_tests))

-- the variables before a scope are those of earlier scopes
low : (n j : ℕ) (xs : List Variable) (x : ℕ) → is_in_order n (map owner xs) ≡ true → x < below owner j xs → (v : Variable) × (slice_get xs x ≡ Some v) × (v.scope.0 < j)
low n j [] x h l = absurd (omega arith)
low n j (v ∷ xs) x h l = elim (test_or (owner v) j) [
  | inl p ↦ at x (subst (λ m. x < m) (counted owner j v xs ∙ ap (λ b. cond b 1 0 + below owner j xs) p.0) l) p.1 (λ y k. low n j xs y (tail_order owner n (owner v) xs h) k)
  | inr p ↦ (let none = none_below owner n (owner v) j xs h p.1 in
      let c : below owner j (v ∷ xs) ≡ 0 + below owner j xs = counted owner j v xs ∙ ap (λ b. cond b 1 0 + below owner j xs) p.0 in
      absurd (omega arith))
]
  where
    at : (x : ℕ) → x < 1 + below owner j xs → v.scope.0 < j → ((y : ℕ) → y < below owner j xs → (u : Variable) × (slice_get xs y ≡ Some u) × (u.scope.0 < j)) →
        (u : Variable) × (slice_get (v ∷ xs) x ≡ Some u) × (u.scope.0 < j)
    at zero l p f = (v, refl, p)
    at (suc x) l p f = f x (omega arith)

-- none after the first has an earlier scope
least : (n k : ℕ) (ys : List Variable) (y : ℕ) (v : Variable) → is_in_order n (k ∷ map owner ys) ≡ true → slice_get ys y ≡ Some v → k ≤ v.scope.0
least n k [] y v h e = cc
least n k (u ∷ ys) zero v h e = let q : u ≡ v = cc in subst (λ (z : Variable). k ≤ z.scope.0) q (next_up owner n k u ys h)
least n k (u ∷ ys) (suc y) v h e =
    let up = next_up owner n k u ys h in
    let r : owner u ≤ v.scope.0 = least n (owner u) ys y v (tail_order owner n k (u ∷ ys) h) e in
    omega arith

high : (n j : ℕ) (xs : List Variable) (x : ℕ) (v : Variable) → is_in_order n (map owner xs) ≡ true → slice_get xs x ≡ Some v → v.scope.0 < j → x < below owner j xs
high n j [] x v h e l = cc
high n j (u ∷ xs) zero v h e l =
    let q : u ≡ v = cc in
    first (subst (λ (z : Variable). z.scope.0 < j) (sym q) l)
  where
    first : u.scope.0 < j → 0 < below owner j (u ∷ xs)
    first l = elim (test_or (owner u) j) [
      | inl p ↦ (let c : below owner j (u ∷ xs) ≡ 1 + below owner j xs = counted owner j u xs ∙ ap (λ b. cond b 1 0 + below owner j xs) p.0 in omega arith)
      | inr p ↦ absurd (omega arith)
    ]
high n j (u ∷ xs) (suc x) v h e l =
    let r = high n j xs x v (tail_order owner n (owner u) xs h) e l in
    let up : owner u ≤ v.scope.0 = least n (owner u) xs x v h e in
    elim (test_or (owner u) j) [
      | inl p ↦ (let c : below owner j (u ∷ xs) ≡ 1 + below owner j xs = counted owner j u xs ∙ ap (λ b. cond b 1 0 + below owner j xs) p.0 in omega arith)
      | inr p ↦ absurd (omega arith)
    ]

-- a variable of scope i has the scope i for its owner
pub owner_is : (g : Game) → IsValid g → (i x : ℕ) → before g i ≤ x → x < before g (suc i) → owner_of (slice_get g.variables x) ≡ i
owner_is g valid i x l h =
    let r = low (length g.scopes) (suc i) g.variables x valid.variable_order h in
    let o : owner_of (slice_get g.variables x) ≡ owner r.0 = ap owner_of r.1 in
    elim (test_or (owner r.0) i) [
      | inl p ↦ (let k = high (length g.scopes) i g.variables x r.0 valid.variable_order r.1 p.1 in absurd (omega arith))
      | inr p ↦ (let k = r.2 in omega arith)
    ]

-- and one of an earlier scope an earlier one
pub owner_below : (g : Game) → IsValid g → (i x : ℕ) → x < before g i → owner_of (slice_get g.variables x) < i
owner_below g valid i x h =
    let r = low (length g.scopes) i g.variables x valid.variable_order h in
    let o : owner_of (slice_get g.variables x) ≡ owner r.0 = ap owner_of r.1 in
    let k = r.2 in omega arith

-- where a variable stands that isn't past all scopes before n
pub owner_place : (g : Game) → IsValid g → (n x : ℕ) → x < before g n → (before g (owner_of (slice_get g.variables x)) ≤ x) × (x < before g (suc (owner_of (slice_get g.variables x))))
owner_place g valid n x h =
    let r = low (length g.scopes) n g.variables x valid.variable_order h in
    let o : owner_of (slice_get g.variables x) ≡ owner r.0 = ap owner_of r.1 in
    let up : x < before g (suc (owner r.0)) = high (length g.scopes) (suc (owner r.0)) g.variables x r.0 valid.variable_order r.1 (omega arith) in (
      elim (or_less x (before g (owner_of (slice_get g.variables x)))) [
        | inl l ↦ (let k = owner_below g valid (owner_of (slice_get g.variables x)) x l in absurd (omega arith))
        | inr l ↦ l
      ],
      subst (λ k. x < before g (suc k)) (sym o) up,
    )
  where
    or_less : (x n : ℕ) → (x < n) ⊎ (n ≤ x)
    or_less x n = grind arith
