-- How large a box is: the variables with two values or more, and the product of the numbers of values.
use Rattle.std.proofs.Common.{◌≡◌, ℕ, zero, suc, ◌+◌, ◌*◌, ◌≤◌, Bool, true, false, ◌||◌, not, cond, List, [], ◌∷◌, length, filter, set, get_or, map, refl, ap, ◌∙◌, arith}
use Rattle.std.specs.Prelude.{ℤ, nat_lt}
use Rattle.std.proofs.Math.Nat.{mul-le-mul, mul-le-mul_left, mul-le-mul_right}
use Rattle.std.proofs.lemmas.Bool.Decides.{nat_tests}
use Rattle.qc_model.specs.declared.problem.Variable.{Variable}
use Rattle.qc_model.specs.Domains.{Box, domain_values, is_none_left, has_empty, values_left, is_within}
use Rattle.qc_model.specs.Turns.{value_product}
use Rattle.proof_tree.specs.declared.tree.Step.{Step}
use Rattle.proof_tree.specs.declared.tree.Step.TheVariants.{Prune, Bound}
use Rattle.proof_tree.specs.Steps.{after_step, after_steps}

-- 1 where there are two values or more
abbrev pub unfixed : ℕ → ℕ
unfixed n = cond (nat_lt 1 n) 1 0

abbrev pub unfixed_count : Box → ℕ
unfixed_count [] = 0
unfixed_count (d ∷ ds) = unfixed (length d) + unfixed_count ds

abbrev pub box_product : Box → ℕ
box_product [] = 1
box_product (d ∷ ds) = length d * box_product ds

abbrev pub box_size : Box → ℕ
box_size box = unfixed_count box * box_product box

unfixed_less : (m n : ℕ) → m ≤ n → unfixed m ≤ unfixed n
unfixed_less m n h = by (nat_lt 1 m) (nat_lt 1 n) refl refl
  where
    by : (a b : Bool) → nat_lt 1 m ≡ a → nat_lt 1 n ≡ b → cond a 1 0 ≤ cond b 1 0
    by true true p q = omega arith
    by true false p q = absurd (grind (arith, nat_tests))
    by false b p q = omega arith

-- a domain with fewer values
pub count_less : (ds : Box) (x : ℕ) (d : List ℤ) → length d ≤ length (get_or ds x []) → unfixed_count (set ds x d) ≤ unfixed_count ds
count_less [] x d h = omega arith
count_less (e ∷ ds) zero d h = let k = unfixed_less (length d) (length e) h in omega (arith, k)
count_less (e ∷ ds) (suc x) d h = let k = count_less ds x d h in omega (arith, k)

pub product_less : (ds : Box) (x : ℕ) (d : List ℤ) → length d ≤ length (get_or ds x []) → box_product (set ds x d) ≤ box_product ds
product_less [] x d h = omega arith
product_less (e ∷ ds) zero d h = mul-le-mul_right (box_product ds) h
product_less (e ∷ ds) (suc x) d h = mul-le-mul_left (length e) (product_less ds x d h)

filter_less : (p : ℤ → Bool) (vs : List ℤ) → length (filter p vs) ≤ length vs
filter_less p [] = omega arith
filter_less p (v ∷ vs) = by (p v) (filter_less p vs)
  where
    by : (b : Bool) → length (filter p vs) ≤ length vs → length (cond b (v ∷ filter p vs) (filter p vs)) ≤ suc (length vs)
    by true h = omega (arith, h)
    by false h = omega (arith, h)

pub record IsSmaller (small box : Box) : Type 0 where
  pub count : unfixed_count small ≤ unfixed_count box
  pub product : box_product small ≤ box_product box

pub smaller_size : (small box : Box) → IsSmaller small box → box_size small ≤ box_size box
smaller_size small box h = mul-le-mul h.count h.product

without_smaller : (box : Box) (x : ℕ) (low high : ℤ) → IsSmaller (set box x (filter (λ v. not (is_within low high v)) (values_left box x))) box
without_smaller box x low high =
    let h = filter_less (λ v. not (is_within low high v)) (values_left box x) in
    record { count = count_less box x _ h; product = product_less box x _ h }

then : (a b c : Box) → IsSmaller a b → IsSmaller b c → IsSmaller a c
then a b c h k = record { count = omega (arith, h.count, k.count); product = omega (arith, h.product, k.product) }

pub steps_smaller : (steps : List Step) (box : Box) → IsSmaller (after_steps steps box) box
steps_smaller [] box = record { count = omega arith; product = omega arith }
steps_smaller (Prune x low high c ∷ steps) box =
    then (after_steps steps (after_step (Prune x low high c) box)) (after_step (Prune x low high c) box) box (steps_smaller steps (after_step (Prune x low high c) box)) (without_smaller box x.0 low high)
steps_smaller (Bound x low high ∷ steps) box =
    then (after_steps steps (after_step (Bound x low high) box)) (after_step (Bound x low high) box) box (steps_smaller steps (after_step (Bound x low high) box)) (without_smaller box x.0 low high)

-- a variable with two values or more takes one of them
pub one_count : (ds : Box) (x : ℕ) (v : ℤ) → 2 ≤ length (get_or ds x []) → 1 + unfixed_count (set ds x (v ∷ [])) ≡ unfixed_count ds
one_count [] x v h = absurd (omega arith)
one_count (e ∷ ds) zero v h = by (nat_lt 1 (length e)) refl
  where
    by : (b : Bool) → nat_lt 1 (length e) ≡ b → 1 + (0 + unfixed_count ds) ≡ cond b 1 0 + unfixed_count ds
    by true q = omega arith
    by false q = absurd (grind (arith, nat_tests))
one_count (e ∷ ds) (suc x) v h = let k = one_count ds x v h in omega (arith, k)

swap : (m n p q : ℕ) → n * p ≡ q → n * (m * p) ≡ m * q
swap m n p q e = let k = ap (λ z. m * z) e in omega (arith, k)

pub one_product : (ds : Box) (x : ℕ) (v : ℤ) → 2 ≤ length (get_or ds x []) → length (get_or ds x []) * box_product (set ds x (v ∷ [])) ≡ box_product ds
one_product [] x v h = absurd (omega arith)
one_product (e ∷ ds) zero v h = ap (λ n. length e * n) (let k : 1 * box_product ds ≡ box_product ds = omega arith in k)
one_product (e ∷ ds) (suc x) v h = swap (length e) (length (get_or ds x [])) (box_product (set ds x (v ∷ []))) (box_product ds) (one_product ds x v h)

-- where no domain is empty
some_product : (ds : Box) → has_empty ds ≡ false → 1 ≤ box_product ds
some_product [] h = omega arith
some_product (d ∷ ds) h = by d (box_product ds) h (some_product ds)
  where
    by : (d : List ℤ) (p : ℕ) → (is_none_left d || has_empty ds) ≡ false → (has_empty ds ≡ false → 1 ≤ p) → 1 ≤ length d * p
    by [] p h f = cc
    by (v ∷ d) p h f = let k = mul-le-mul_right p (let l : 1 ≤ suc (length d) = omega arith in l) in omega (arith, k, f h)

-- the cases of a branch on x, each with at most so many below it
branch_size : (m u p c q : ℕ) → m * p ≡ q → 1 ≤ q → 1 + u ≡ c → m * (1 + u * p) ≤ c * q
branch_size m u zero c q e s k = absurd (omega (arith, e))
branch_size m u (suc p) c q e s k =
    let more : 1 + u * suc p ≤ (1 + u) * suc p = omega arith in
    let l = mul-le-mul_left m more in
    let f = ap (λ z. (1 + u) * z) e in
    let h = ap (λ z. z * q) k in
    omega (arith, l, f, h)

pub cases_size : (box : Box) (x : ℕ) (v : ℤ) → has_empty box ≡ false → 2 ≤ length (values_left box x) → length (values_left box x) * (1 + box_size (set box x (v ∷ []))) ≤ box_size box
cases_size box x v full h =
    branch_size (length (values_left box x)) (unfixed_count (set box x (v ∷ []))) (box_product (set box x (v ∷ []))) (unfixed_count box) (box_product box)
    (one_product box x v h) (some_product box full) (one_count box x v h)

-- which value it is makes no difference
pub same_size : (box : Box) (x : ℕ) (v w : ℤ) → box_size (set box x (v ∷ [])) ≡ box_size (set box x (w ∷ []))
same_size box x v w = ap (λ n. n * box_product (set box x (v ∷ []))) (count box x) ∙ ap (λ n. unfixed_count (set box x (w ∷ [])) * n) (product box x)
  where
    count : (ds : Box) (x : ℕ) → unfixed_count (set ds x (v ∷ [])) ≡ unfixed_count (set ds x (w ∷ []))
    count [] x = refl
    count (d ∷ ds) zero = refl
    count (d ∷ ds) (suc x) = ap (λ n. unfixed (length d) + n) (count ds x)

    product : (ds : Box) (x : ℕ) → box_product (set ds x (v ∷ [])) ≡ box_product (set ds x (w ∷ []))
    product [] x = refl
    product (d ∷ ds) zero = refl
    product (d ∷ ds) (suc x) = ap (λ n. length d * n) (product ds x)

-- the declared box
pub declared_count : (xs : List Variable) → unfixed_count (map (λ x. domain_values x.domain) xs) ≤ length xs
declared_count [] = omega arith
declared_count (x ∷ xs) = let k = declared_count xs in by (nat_lt 1 (length (domain_values x.domain))) k
  where
    by : (b : Bool) → unfixed_count (map (λ y. domain_values y.domain) xs) ≤ length xs → cond b 1 0 + unfixed_count (map (λ y. domain_values y.domain) xs) ≤ suc (length xs)
    by true h = omega (arith, h)
    by false h = omega (arith, h)

pub declared_product : (xs : List Variable) → box_product (map (λ x. domain_values x.domain) xs) ≡ value_product xs
declared_product [] = refl
declared_product (x ∷ xs) = ap (λ n. length (domain_values x.domain) * n) (declared_product xs)
