-- The values that pass, one after another.
use Rattle.std.proofs.Common.{◌≡◌, ◌⊎◌, inl, inr, ℕ, zero, suc, ◌+◌, ◌<◌, Bool, true, false, not, ◌&&◌, ◌||◌, cond, [], ◌∷◌, ◌++◌, length, refl, sym, ap, subst, ◌∙◌, arith, append-nil, ℤ, length-append}
use Rattle.std.specs.Prelude.{pos, ◌+ℤ◌, ◌<ℤ◌, ◌≤ℤ◌, int_lt}
use Rattle.std.specs.List.{list_any}
use Rattle.std.specs.Ordering.{int_eq}
use Rattle.std.proofs.lemmas.Int.{ints}
use Rattle.std.proofs.lemmas.List.Elements.{filter-append}
use Rattle.std.proofs.lemmas.List.Folds.{list_any-append}
use Rattle.qc_model.specs.Domains.{Values, least_from, greatest_from, least_value, greatest_value, has_value, is_within, values_outside}
use Rattle.fd_store.specs.Places.{values_below, count_below}

-- the same tests, the same values
pub values_agree : (f g : ℕ → Bool) (v : ℤ) (n : ℕ) → ((k : ℕ) → k < n → g k ≡ f k) → values_below g v n ≡ values_below f v n
values_agree f g v zero h = refl
values_agree f g v (suc n) h =
    ap (λ b. values_below g v n ++ cond b ((v +ℤ pos n) ∷ []) []) (h n (omega arith))
    ∙ ap (λ us. us ++ cond (f n) ((v +ℤ pos n) ∷ []) []) (values_agree f g v n (λ k l. h k (omega arith)))

pub length-values : (f : ℕ → Bool) (v : ℤ) (n : ℕ) → length (values_below f v n) ≡ count_below f n
length-values f v zero = refl
length-values f v (suc n) =
    length-append (values_below f v n) (cond (f n) ((v +ℤ pos n) ∷ []) [])
    ∙ (ap (λ m. m + length (cond (f n) ((v +ℤ pos n) ∷ []) [])) (length-values f v n) ∙ ap (λ m. count_below f n + m) (one (f n)))
  where
    one : (b : Bool) → length (cond b ((v +ℤ pos n) ∷ []) []) ≡ cond b 1 0
    one true = refl
    one false = refl

pub values_none : (f : ℕ → Bool) (v : ℤ) (n : ℕ) → ((k : ℕ) → k < n → f k ≡ false) → values_below f v n ≡ []
values_none f v zero h = refl
values_none f v (suc n) h =
    ap (λ b. values_below f v n ++ cond b ((v +ℤ pos n) ∷ []) []) (h n (omega arith))
    ∙ (append-nil (values_below f v n) ∙ values_none f v n (λ k l. h k (omega arith)))

-- what a removal leaves
pub values_cut : (f g : ℕ → Bool) (lo hi : ℤ) (v : ℤ) (n : ℕ) → ((k : ℕ) → k < n → g k ≡ (f k && not (is_within lo hi (v +ℤ pos k)))) →
    values_below g v n ≡ values_outside lo hi (values_below f v n)
values_cut f g lo hi v zero h = refl
values_cut f g lo hi v (suc n) h =
    ap (λ b. values_below g v n ++ cond b ((v +ℤ pos n) ∷ []) []) (h n (omega arith))
    ∙ (ap (λ us. us ++ cond (f n && not (is_within lo hi (v +ℤ pos n))) ((v +ℤ pos n) ∷ []) []) (values_cut f g lo hi v n (λ k l. h k (omega arith)))
    ∙ (ap (λ us. values_outside lo hi (values_below f v n) ++ us) (step (f n))
    ∙ sym (filter-append (λ u. not (is_within lo hi u)) (values_below f v n) (cond (f n) ((v +ℤ pos n) ∷ []) []))))
  where
    step : (b : Bool) → cond (b && not (is_within lo hi (v +ℤ pos n))) ((v +ℤ pos n) ∷ []) [] ≡ values_outside lo hi (cond b ((v +ℤ pos n) ∷ []) [])
    step true = refl
    step false = refl

-- the same removal by other ends
pub outside_agree : (f : ℕ → Bool) (lo hi low high : ℤ) (v : ℤ) (n : ℕ) → ((k : ℕ) → k < n → f k ≡ true → is_within lo hi (v +ℤ pos k) ≡ is_within low high (v +ℤ pos k)) →
    values_outside lo hi (values_below f v n) ≡ values_outside low high (values_below f v n)
outside_agree f lo hi low high v n h =
    sym (values_cut f (λ k. f k && not (is_within lo hi (v +ℤ pos k))) lo hi v n (λ k l. refl))
    ∙ values_cut f (λ k. f k && not (is_within lo hi (v +ℤ pos k))) low high v n (λ k l. same k (f k) (h k l))
  where
    same : (k : ℕ) (b : Bool) → (b ≡ true → is_within lo hi (v +ℤ pos k) ≡ is_within low high (v +ℤ pos k)) → (b && not (is_within lo hi (v +ℤ pos k))) ≡ (b && not (is_within low high (v +ℤ pos k)))
    same k true q = ap not (q refl)
    same k false q = refl

-- the least value and the greatest, with one more behind
least_push : (m : ℤ) (us : Values) (w : ℤ) → least_from m us ≤ℤ w → least_from m (us ++ w ∷ []) ≡ least_from m us
least_push m [] w h = ap (λ b. cond b w m) keep
  where
    keep : int_lt w m ≡ false
    keep = grind (arith, ints)
least_push m (u ∷ us) w h = least_push (cond (int_lt u m) u m) us w h

greatest_push : (m : ℤ) (us : Values) (w : ℤ) → greatest_from m us <ℤ w → greatest_from m (us ++ w ∷ []) ≡ w
greatest_push m [] w h = ap (λ b. cond b w m) up
  where
    up : int_lt m w ≡ true
    up = grind (arith, ints)
greatest_push m (u ∷ us) w h = greatest_push (cond (int_lt m u) u m) us w h

-- there are values, and m is the least
pub record HasLeast (vs : Values) (m : ℤ) : Type 0 where
  pub some : 0 < length vs
  pub least : least_value vs ≡ m

least_more : (us : Values) (m w : ℤ) → HasLeast us m → m ≤ℤ w → HasLeast (us ++ w ∷ []) m
least_more [] m w h l = absurd (omega (arith, h.some))
least_more (u ∷ us) m w h l = record { some = omega arith; least = least_push u us w (omega (arith, ints, h.least)) ∙ h.least }

pub least_of : (f : ℕ → Bool) (v : ℤ) (k n : ℕ) → k < n → f k ≡ true → ((j : ℕ) → j < k → f j ≡ false) → HasLeast (values_below f v n) (v +ℤ pos k)
least_of f v k zero h e q = absurd (omega arith)
least_of f v k (suc n) h e q = elim (here_or_before k n h) [
  | inl l ↦ more (f n) (least_of f v k n l e q)
  | inr s ↦ start s
]
  where
    here_or_before : (k n : ℕ) → k < suc n → (k < n) ⊎ (k ≡ n)
    here_or_before k n h = grind arith

    more : (b : Bool) → HasLeast (values_below f v n) (v +ℤ pos k) → HasLeast (values_below f v n ++ cond b ((v +ℤ pos n) ∷ []) []) (v +ℤ pos k)
    more true i = least_more (values_below f v n) (v +ℤ pos k) (v +ℤ pos n) i (omega (arith, ints))
    more false i = rw append-nil i

    start : k ≡ n → HasLeast (values_below f v n ++ cond (f n) ((v +ℤ pos n) ∷ []) []) (v +ℤ pos k)
    start s =
        let none : values_below f v n ≡ [] = values_none f v n (λ j l. q j (omega arith)) in
        let here : f n ≡ true = ap f (sym s) ∙ e in
        rw (none, here) (record { some = omega arith; least = ap (λ m. v +ℤ pos m) (sym s) })

-- each value is below v + n
pub greatest_below : (f : ℕ → Bool) (v : ℤ) (n : ℕ) → (values_below f v n ≡ []) ⊎ (greatest_value (values_below f v n) <ℤ (v +ℤ pos n))
greatest_below f v zero = inl refl
greatest_below f v (suc n) = step (f n) (values_below f v n) (greatest_below f v n)
  where
    step : (b : Bool) (us : Values) → (us ≡ []) ⊎ (greatest_value us <ℤ (v +ℤ pos n)) →
        (us ++ cond b ((v +ℤ pos n) ∷ []) [] ≡ []) ⊎ (greatest_value (us ++ cond b ((v +ℤ pos n) ∷ []) []) <ℤ (v +ℤ pos (suc n)))
    step false [] h = inl refl
    step true [] h = inr (omega (arith, ints))
    step false (u ∷ us) (inl e) = cc
    step false (u ∷ us) (inr l) = inr (subst (λ z. greatest_value z <ℤ (v +ℤ pos (suc n))) (sym (append-nil (u ∷ us))) (omega (arith, ints)))
    step true (u ∷ us) (inl e) = cc
    step true (u ∷ us) (inr l) = inr (rw (greatest_push u us (v +ℤ pos n) l) (omega (arith, ints)))

pub greatest_of : (f : ℕ → Bool) (v : ℤ) (k n : ℕ) → k < n → f k ≡ true → ((j : ℕ) → k < j → j < n → f j ≡ false) → greatest_value (values_below f v n) ≡ v +ℤ pos k
greatest_of f v k zero h e q = absurd (omega arith)
greatest_of f v k (suc n) h e q = elim (here_or_before k n h) [
  | inl l ↦
      ap (λ b. greatest_value (values_below f v n ++ cond b ((v +ℤ pos n) ∷ []) [])) (q n l (omega arith))
      ∙ (ap greatest_value (append-nil (values_below f v n)) ∙ greatest_of f v k n l e (λ j a b. q j a (omega arith)))
  | inr s ↦
      ap (λ b. greatest_value (values_below f v n ++ cond b ((v +ℤ pos n) ∷ []) [])) (ap f (sym s) ∙ e)
      ∙ (last (values_below f v n) (greatest_below f v n) ∙ ap (λ m. v +ℤ pos m) (sym s))
]
  where
    here_or_before : (k n : ℕ) → k < suc n → (k < n) ⊎ (k ≡ n)
    here_or_before k n h = grind arith

    last : (us : Values) → (us ≡ []) ⊎ (greatest_value us <ℤ (v +ℤ pos n)) → greatest_value (us ++ (v +ℤ pos n) ∷ []) ≡ v +ℤ pos n
    last [] h = refl
    last (u ∷ us) (inl e) = cc
    last (u ∷ us) (inr l) = greatest_push u us (v +ℤ pos n) l

-- whether a value is there
pub has_none : (f : ℕ → Bool) (v : ℤ) (n : ℕ) (w : ℤ) → (w <ℤ v) ⊎ ((v +ℤ pos n) ≤ℤ w) → has_value (values_below f v n) w ≡ false
has_none f v zero w h = refl
has_none f v (suc n) w h =
    list_any-append (int_eq w) (values_below f v n) (cond (f n) ((v +ℤ pos n) ∷ []) [])
    ∙ (ap (λ b. b || list_any (int_eq w) (cond (f n) ((v +ℤ pos n) ∷ []) [])) (has_none f v n w far) ∙ step (f n))
  where
    far : (w <ℤ v) ⊎ ((v +ℤ pos n) ≤ℤ w)
    far = elim h [ inl l ↦ inl l | inr l ↦ inr (omega (arith, ints)) ]

    other : int_eq w (v +ℤ pos n) ≡ false
    other = grind (arith, ints, h)

    step : (b : Bool) → (false || list_any (int_eq w) (cond b ((v +ℤ pos n) ∷ []) [])) ≡ false
    step true = ap (λ b. b || false) other
    step false = refl

pub has_is : (f : ℕ → Bool) (v : ℤ) (n k : ℕ) → k < n → has_value (values_below f v n) (v +ℤ pos k) ≡ f k
has_is f v zero k h = absurd (omega arith)
has_is f v (suc n) k h =
    list_any-append (int_eq (v +ℤ pos k)) (values_below f v n) (cond (f n) ((v +ℤ pos n) ∷ []) [])
    ∙ elim (here_or_before k n h) [
      | inl l ↦
          ap (λ b. b || list_any (int_eq (v +ℤ pos k)) (cond (f n) ((v +ℤ pos n) ∷ []) [])) (has_is f v n k l) ∙ other (f k) (f n) (grind (arith, ints))
      | inr s ↦
          ap (λ b. b || list_any (int_eq (v +ℤ pos k)) (cond (f n) ((v +ℤ pos n) ∷ []) [])) (has_none f v n (v +ℤ pos k) (inr (omega (arith, ints))))
          ∙ (same (f n) (grind (arith, ints)) ∙ ap f (sym s))
    ]
  where
    here_or_before : (k n : ℕ) → k < suc n → (k < n) ⊎ (k ≡ n)
    here_or_before k n h = grind arith

    other : (a b : Bool) → int_eq (v +ℤ pos k) (v +ℤ pos n) ≡ false → (a || list_any (int_eq (v +ℤ pos k)) (cond b ((v +ℤ pos n) ∷ []) [])) ≡ a
    other true b e = refl
    other false true e = ap (λ c. c || false) e
    other false false e = refl

    same : (b : Bool) → int_eq (v +ℤ pos k) (v +ℤ pos n) ≡ true → (false || list_any (int_eq (v +ℤ pos k)) (cond b ((v +ℤ pos n) ∷ []) [])) ≡ b
    same true e = ap (λ c. c || false) e
    same false e = refl
