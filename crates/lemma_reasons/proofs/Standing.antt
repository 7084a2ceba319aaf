-- Where the variables of a valid game stand.
use Rattle.std.proofs.Common.{◌≡◌, ℕ, zero, suc, ◌<◌, true, refl, List, [], ◌∷◌, map, subst, arith, Some, slice_get}
use Rattle.std.specs.Prelude.{nat_lt, nat_le}
use Rattle.std.proofs.lemmas.Bool.Decides.{nat_tests}
use Rattle.std.proofs.lemmas.Bool.{and_parts}
use Rattle.qc_model.specs.declared.problem.Variable.{Variable}
use Rattle.qc_model.specs.Content.{Rule}
use Rattle.qc_model.specs.Valid.{is_in_order}

lt_of : (x y : ℕ) → nat_lt x y ≡ true → x < y
lt_of x y e = grind (arith, nat_tests)

le_of : (x y : ℕ) → nat_le x y ≡ true → x < suc y
le_of x y e = grind (arith, nat_tests)

-- the first of numbers in order is below the end
first_below : (n i : ℕ) (is : List ℕ) → is_in_order n (i ∷ is) ≡ true → i < n
first_below n i [] e = lt_of i n e
first_below n i (j ∷ is) e =
    let p = and_parts (nat_le i j) (is_in_order n (j ∷ is)) e in
    let l = le_of i j p.0 in
    let r = first_below n j is p.1 in
    omega arith

rest_in_order : (n i : ℕ) (is : List ℕ) → is_in_order n (i ∷ is) ≡ true → is_in_order n is ≡ true
rest_in_order n i [] e = refl
rest_in_order n i (j ∷ is) e = (and_parts (nat_le i j) (is_in_order n (j ∷ is)) e).1

pub below_at : {X : Type 0} (f : X → ℕ) (n : ℕ) (xs : List X) (k : ℕ) (x : X) → is_in_order n (map f xs) ≡ true → slice_get xs k ≡ Some x → f x < n
below_at f n [] k x e h = cc
below_at f n (y ∷ xs) zero x e h =
    let same : y ≡ x = cc in
    subst (λ z. f z < n) same (first_below n (f y) (map f xs) e)
below_at f n (y ∷ xs) (suc k) x e h = below_at f n xs k x (rest_in_order n (f y) (map f xs) e) h

pub scope_below : (n : ℕ) (xs : List Variable) (k : ℕ) (x : Variable) → is_in_order n (map (λ y. y.scope.0) xs) ≡ true → slice_get xs k ≡ Some x → x.scope.0 < n
scope_below n xs k x e h = below_at (λ (y : Variable). y.scope.0) n xs k x e h

pub owner_below : (n : ℕ) (cs : List Rule) (k : ℕ) (c : Rule) → is_in_order n (map (λ d. d.owner.0) cs) ≡ true → slice_get cs k ≡ Some c → c.owner.0 < n
owner_below n cs k c e h = below_at (λ (d : Rule). d.owner.0) n cs k c e h
