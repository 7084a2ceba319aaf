-- Factors added up over terms, and which constraints the terms name.
use Rattle.std.proofs.Common.{◌≡◌, ◌∙◌, sym, ap, refl, ◌<◌, ◌≤◌, ◌+◌, ◌*◌, ℕ, zero, suc, Bool, true, false, ◌||◌, cond, List, [], ◌∷◌, ◌++◌, length, take, get_or, arith, ℤ}
use Rattle.std.specs.Prelude.{pos, ◌==◌, nat_lt, ◌+ℤ◌, ◌*ℤ◌, unsigned_abs}
use Rattle.std.specs.List.{list_all}
use borrow.Author.Differences.{up, down}
use Rattle.std.proofs.Math.IntN.{+ℤ_assoc, +ℤ_idl, +ℤ_idr}
use Rattle.std.proofs.lemmas.Bool.{and_parts, leb-true, ltb-true}
use Rattle.std.proofs.lemmas.Int.{ints}
use Rattle.std.proofs.lemmas.List.{take_more}
use Rattle.std.proofs.lemmas.List.Folds.{list_any-append}
use Rattle.qc_model.specs.Valid.{is_number}
use Rattle.check_assignment.specs.declared.term.Term.{Term}
use Rattle.check_assignment.specs.Terms.{is_term, factor_sum, names}

pub factor_sum_join : (k : ℕ) (xs ys : List Term) → factor_sum k (xs ++ ys) ≡ (factor_sum k xs +ℤ factor_sum k ys)
factor_sum_join k [] ys = sym (+ℤ_idl (factor_sum k ys))
factor_sum_join k (t ∷ xs) ys =
    ap (λ z. cond (t.rule == k) t.factor (pos 0) +ℤ z) (factor_sum_join k xs ys)
    ∙ sym (+ℤ_assoc (cond (t.rule == k) t.factor (pos 0)) (factor_sum k xs) (factor_sum k ys))

pub names_join : (k : ℕ) (xs ys : List Term) → names k (xs ++ ys) ≡ (names k xs || names k ys)
names_join k xs ys = list_any-append (λ (t : Term). t.rule == k) xs ys

-- one term more
pub factor_sum_more : (k : ℕ) (ts : List Term) (j : ℕ) (t : Term) → j < length ts →
    factor_sum k (take (j + 1) ts) ≡ (factor_sum k (take j ts) +ℤ cond ((get_or ts j t).rule == k) (get_or ts j t).factor (pos 0))
factor_sum_more k ts j t h =
    let u = get_or ts j t in
    ap (factor_sum k) (take_more ts j t h)
    ∙ (factor_sum_join k (take j ts) (u ∷ []) ∙ ap (λ z. factor_sum k (take j ts) +ℤ z) (+ℤ_idr (cond (u.rule == k) u.factor (pos 0))))

pub names_more : (k : ℕ) (ts : List Term) (j : ℕ) (t : Term) → j < length ts → names k (take (j + 1) ts) ≡ (names k (take j ts) || (get_or ts j t).rule == k)
names_more k ts j t h =
    let u = get_or ts j t in
    ap (names k) (take_more ts j t h)
    ∙ (names_join k (take j ts) (u ∷ []) ∙ ap (λ b. names k (take j ts) || b) (last (u.rule == k)))
  where
    last : (b : Bool) → (b || false) ≡ b
    last true = refl
    last false = refl

pub plus_times : (a b c : ℤ) → (a +ℤ b) *ℤ c ≡ (a *ℤ c) +ℤ (b *ℤ c)
plus_times a b c =
    let sum : up (a +ℤ b) + down a + down b ≡ down (a +ℤ b) + up a + up b = omega (arith, ints) in
    let above = ap (λ x. x * up c) sum in
    let below = ap (λ x. x * down c) sum in
    omega (arith, ints)

-- a term that is within the limits
pub term_at : (n : ℕ) (ts : List Term) (j : ℕ) (d : Term) → list_all (is_term n) ts ≡ true → j < length ts → ((get_or ts j d).rule < n) × (is_number (get_or ts j d).factor ≡ true)
term_at n [] j d h l = absurd (omega arith)
term_at n (t ∷ ts) zero d h l =
    let here = and_parts (nat_lt t.rule n) (is_number t.factor) (and_parts (is_term n t) (list_all (is_term n) ts) h).0 in
    (ltb-true t.rule n here.0, here.1)
term_at n (t ∷ ts) (suc j) d h l = term_at n ts j d (and_parts (is_term n t) (list_all (is_term n) ts) h).1 (omega arith)

-- so many factors, each within the number limit
pub factors_small : (n k : ℕ) (ts : List Term) (j : ℕ) → list_all (is_term n) ts ≡ true → unsigned_abs (factor_sum k (take j ts)) ≤ j * 1000000000
factors_small n k ts zero h = omega arith
factors_small n k [] (suc j) h = omega arith
factors_small n k (t ∷ ts) (suc j) h =
    let both = and_parts (is_term n t) (list_all (is_term n) ts) h in
    let few = leb-true (unsigned_abs t.factor) 1000000000 (and_parts (nat_lt t.rule n) (is_number t.factor) both.0).1 in
    let rest = factors_small n k ts j both.1 in
    let sum = abs_sum (cond (t.rule == k) t.factor (pos 0)) (factor_sum k (take j ts)) in
    let here = chosen (t.rule == k) t.factor few in
    omega (arith, sum, here, rest)
  where
    abs_sum : (a b : ℤ) → unsigned_abs (a +ℤ b) ≤ unsigned_abs a + unsigned_abs b
    abs_sum a b = grind (arith, ints)

    chosen : (b : Bool) (f : ℤ) → unsigned_abs f ≤ 1000000000 → unsigned_abs (cond b f (pos 0)) ≤ 1000000000
    chosen true f h = h
    chosen false f h = omega arith
