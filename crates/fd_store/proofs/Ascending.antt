-- Ascending lists.
use Rattle.std.proofs.Common.{◌≡◌, ◌⊎◌, inl, inr, ℕ, zero, suc, Bool, true, false, ◌&&◌, ◌||◌, cond, [], ◌∷◌, ◌++◌, refl, sym, ap, subst, ◌∙◌, arith, ℤ, append-nil}
use Rattle.std.specs.Prelude.{pos, ◌+ℤ◌, ◌<ℤ◌, int_lt}
use Rattle.std.specs.Ordering.{int_eq}
use Rattle.std.proofs.lemmas.Int.{ints}
use Rattle.std.proofs.lemmas.Bool.{and_parts, or_cases}
use Rattle.qc_model.specs.Domains.{Values, is_ascending, has_value, greatest_value, greatest_from}
use Rattle.fd_store.specs.Places.{values_below}

pub lt_is : (v w : ℤ) → int_lt v w ≡ true → v <ℤ w
lt_is v w e = grind (arith, ints)

pub eq_is : (v w : ℤ) → int_eq v w ≡ true → v ≡ w
eq_is v w e = grind (arith, ints)

pub eq_self : (v : ℤ) → int_eq v v ≡ true
eq_self v = grind (arith, ints)

-- the values behind the first are above it
pub above : (x : ℤ) (xs : Values) (v : ℤ) → is_ascending (x ∷ xs) ≡ true → has_value xs v ≡ true → x <ℤ v
above x [] v a e = cc
above x (w ∷ ws) v a e =
    let p = and_parts (int_lt x w) (is_ascending (w ∷ ws)) a in
    pick p (or_cases (int_eq v w) (has_value ws v) e) (above w ws v p.1)
  where
    pick : (int_lt x w ≡ true) × (is_ascending (w ∷ ws) ≡ true) → (int_eq v w ≡ true) ⊎ (has_value ws v ≡ true) → (has_value ws v ≡ true → w <ℤ v) → x <ℤ v
    pick p (inl q) f = subst (λ u. x <ℤ u) (sym (eq_is v w q)) (lt_is x w p.0)
    pick p (inr q) f = let g = f q in let h = lt_is x w p.0 in omega (arith, ints)

tail_ascends : (x : ℤ) (xs : Values) → is_ascending (x ∷ xs) ≡ true → is_ascending xs ≡ true
tail_ascends x [] a = refl
tail_ascends x (w ∷ ws) a = (and_parts (int_lt x w) (is_ascending (w ∷ ws)) a).1

first_there : (x : ℤ) (xs : Values) → has_value (x ∷ xs) x ≡ true
first_there x xs = ap (λ b. b || has_value xs x) (eq_self x)

-- ascending lists with the same values are the same
pub same_values : (xs ys : Values) → is_ascending xs ≡ true → is_ascending ys ≡ true → ((v : ℤ) → has_value xs v ≡ has_value ys v) → xs ≡ ys
same_values [] [] a b f = refl
same_values [] (y ∷ ys) a b f = let e = f y in let g = first_there y ys in cc
same_values (x ∷ xs) [] a b f = let e = f x in let g = first_there x xs in cc
same_values (x ∷ xs) (y ∷ ys) a b f =
    let first : x ≡ y = meet (or_cases (int_eq x y) (has_value ys x) (sym (f x) ∙ first_there x xs)) (or_cases (int_eq y x) (has_value xs y) (f y ∙ first_there y ys)) in
    ap (λ u. u ∷ xs) first ∙ ap (λ us. y ∷ us) (same_values xs ys (tail_ascends x xs a) (tail_ascends y ys b) (λ v. rest first v (has_value xs v) (has_value ys v) refl refl))
  where
    meet : (int_eq x y ≡ true) ⊎ (has_value ys x ≡ true) → (int_eq y x ≡ true) ⊎ (has_value xs y ≡ true) → x ≡ y
    meet (inl p) q = eq_is x y p
    meet (inr p) (inl q) = sym (eq_is y x q)
    meet (inr p) (inr q) = let g = above y ys x b p in let h = above x xs y a q in omega (arith, ints)

    rest : x ≡ y → (v : ℤ) (p q : Bool) → has_value xs v ≡ p → has_value ys v ≡ q → p ≡ q
    rest first v true true e g = refl
    rest first v false false e g = refl
    rest first v true false e g =
        let l = above x xs v a e in
        let there : has_value (x ∷ xs) v ≡ true = ap (λ b. int_eq v x || b) e ∙ any_true (int_eq v x) in
        let or = or_cases (int_eq v y) (has_value ys v) (sym (f v) ∙ there) in
        elim or [ inl m ↦ absurd (let h = eq_is v y m in omega (arith, ints)) | inr m ↦ cc ]
      where
        any_true : (b : Bool) → (b || true) ≡ true
        any_true true = refl
        any_true false = refl
    rest first v false true e g =
        let l = above y ys v b g in
        let there : has_value (y ∷ ys) v ≡ true = ap (λ b. int_eq v y || b) g ∙ any_true (int_eq v y) in
        let or = or_cases (int_eq v x) (has_value xs v) (f v ∙ there) in
        elim or [ inl m ↦ absurd (let h = eq_is v x m in omega (arith, ints)) | inr m ↦ cc ]
      where
        any_true : (b : Bool) → (b || true) ≡ true
        any_true true = refl
        any_true false = refl

-- a greater value goes behind
ascends_push : (x : ℤ) (xs : Values) (w : ℤ) → is_ascending (x ∷ xs) ≡ true → greatest_from x xs <ℤ w → is_ascending (x ∷ (xs ++ w ∷ [])) ≡ true
ascends_push x [] w a h = ap (λ b. b && true) up
  where
    up : int_lt x w ≡ true
    up = grind (arith, ints)
ascends_push x (u ∷ us) w a h =
    let p = and_parts (int_lt x u) (is_ascending (u ∷ us)) a in
    let g : greatest_from u us <ℤ w = subst (λ b. greatest_from (cond b u x) us <ℤ w) p.0 h in
    ap (λ b. b && is_ascending (u ∷ (us ++ w ∷ []))) p.0 ∙ ascends_push u us w p.1 g

pub values_ascend : (f : ℕ → Bool) (v : ℤ) (n : ℕ) → ((k : ℕ) → (values_below f v k ≡ []) ⊎ (greatest_value (values_below f v k) <ℤ (v +ℤ pos k))) → is_ascending (values_below f v n) ≡ true
values_ascend f v zero g = refl
values_ascend f v (suc n) g = step (f n) (values_below f v n) (values_ascend f v n g) (g n)
  where
    step : (b : Bool) (us : Values) → is_ascending us ≡ true → (us ≡ []) ⊎ (greatest_value us <ℤ (v +ℤ pos n)) → is_ascending (us ++ cond b ((v +ℤ pos n) ∷ []) []) ≡ true
    step false us a h = ap is_ascending (append-nil us) ∙ a
    step true [] a h = refl
    step true (u ∷ us) a (inl e) = cc
    step true (u ∷ us) a (inr l) = ascends_push u us (v +ℤ pos n) a l
