-- How many numbers pass a test.
use Rattle.std.proofs.Common.{◌≡◌, ℕ, zero, suc, ◌+◌, ◌-◌, ◌/◌, ◌%◌, ◌^◌, ◌<◌, ◌≤◌, Bool, true, false, not, ◌&&◌, cond, ap, sym, ◌∙◌, refl, subst, arith}
use Rattle.std.specs.Prelude.{◌==◌}
use Rattle.std.specs.Int.{bit_at}
use Rattle.std.proofs.lemmas.Bool.Decides.{nat_tests}
use Rattle.std.proofs.lemmas.Nat.Bits.{bit_at_lowest, bit_at-suc}
use Rattle.std.proofs.lemmas.Nat.{ones-le, shr_below}
use lib.Count.{ones, ones_step}
use Rattle.fd_store.specs.Places.{is_inside, count_below}

pub count_agree : (f g : ℕ → Bool) (n : ℕ) → ((k : ℕ) → k < n → g k ≡ f k) → count_below g n ≡ count_below f n
count_agree f g zero h = refl
count_agree f g (suc n) h = ap (λ b. count_below g n + cond b 1 0) (h n (omega arith)) ∙ ap (λ m. m + cond (f n) 1 0) (count_agree f g n (λ k l. h k (omega arith)))

pub count_most : (f : ℕ → Bool) (n : ℕ) → count_below f n ≤ n
count_most f zero = omega arith
count_most f (suc n) = step (f n) (count_most f n)
  where
    step : (b : Bool) → count_below f n ≤ n → count_below f n + cond b 1 0 ≤ suc n
    step true h = omega arith
    step false h = omega arith

pub count_none : (f : ℕ → Bool) (n : ℕ) → ((k : ℕ) → k < n → f k ≡ false) → count_below f n ≡ 0
count_none f zero h = refl
count_none f (suc n) h = ap (λ b. count_below f n + cond b 1 0) (h n (omega arith)) ∙ same (count_none f n (λ k l. h k (omega arith)))
  where
    same : count_below f n ≡ 0 → count_below f n + 0 ≡ 0
    same e = omega arith

-- one that passes counts
pub count_some : (f : ℕ → Bool) (n k : ℕ) → k < n → f k ≡ true → 0 < count_below f n
count_some f zero k h e = absurd (omega arith)
count_some f (suc n) k h e = step (f n) refl (λ l. count_some f n k l e)
  where
    at : n ≡ k → f n ≡ true
    at q = ap f q ∙ e

    earlier : f n ≡ false → k < n
    earlier q = grind (arith, at)

    step : (b : Bool) → f n ≡ b → (k < n → 0 < count_below f n) → 0 < count_below f n + cond b 1 0
    step true q ih = omega arith
    step false q ih = omega (arith, ih (earlier q))

-- those from the first number on, and the rest
pub count_front : (f : ℕ → Bool) (n : ℕ) → count_below f (suc n) ≡ cond (f 0) 1 0 + count_below (λ k. f (suc k)) n
count_front f zero = turned (cond (f 0) 1 0)
  where
    turned : (c : ℕ) → 0 + c ≡ c + 0
    turned c = omega arith
count_front f (suc n) = ap (λ m. m + cond (f (suc n)) 1 0) (count_front f n) ∙ regroup (cond (f 0) 1 0) (count_below (λ k. f (suc k)) n) (cond (f (suc n)) 1 0)
  where
    regroup : (a b c : ℕ) → (a + b) + c ≡ a + (b + c)
    regroup a b c = omega arith

pub count_joined : (f : ℕ → Bool) (m n : ℕ) → count_below f (m + n) ≡ count_below f m + count_below (λ k. f (m + k)) n
count_joined f m zero = ap (count_below f) none ∙ same (count_below f m)
  where
    none : m + 0 ≡ m
    none = omega arith

    same : (n : ℕ) → n ≡ n + 0
    same n = omega arith
count_joined f m (suc n) =
    ap (count_below f) next
    ∙ (ap (λ c. c + cond (f (m + n)) 1 0) (count_joined f m n) ∙ regroup (count_below f m) (count_below (λ k. f (m + k)) n) (cond (f (m + n)) 1 0))
  where
    next : m + suc n ≡ suc (m + n)
    next = omega arith

    regroup : (a b c : ℕ) → (a + b) + c ≡ a + (b + c)
    regroup a b c = omega arith

-- those that pass one more test, and those that don't
pub count_split : (f g : ℕ → Bool) (n : ℕ) → count_below (λ k. f k && g k) n + count_below (λ k. f k && not (g k)) n ≡ count_below f n
count_split f g zero = refl
count_split f g (suc n) = step (f n) (g n) (count_split f g n)
  where
    step : (b c : Bool) → count_below (λ k. f k && g k) n + count_below (λ k. f k && not (g k)) n ≡ count_below f n →
        (count_below (λ k. f k && g k) n + cond (b && c) 1 0) + (count_below (λ k. f k && not (g k)) n + cond (b && not c) 1 0) ≡ count_below f n + cond b 1 0
    step true true e = omega arith
    step true false e = omega arith
    step false c e = omega arith

-- those from a up to e
pub count_window : (f : ℕ → Bool) (n a e : ℕ) → a ≤ e → e ≤ n → count_below (λ k. f k && is_inside a e k) n ≡ count_below (λ k. f (a + k)) (e - a)
count_window f n a e h k =
    ap (count_below g) whole
    ∙ (count_joined g a ((e - a) + (n - e))
    ∙ (ap (λ c. c + count_below (λ k. g (a + k)) ((e - a) + (n - e))) (count_none g a (λ k l. below (f k) k l))
    ∙ (ap (λ m. 0 + m) (count_joined (λ k. g (a + k)) (e - a) (n - e))
    ∙ (ap (λ c. 0 + (c + count_below (λ k. g (a + ((e - a) + k))) (n - e))) (count_agree (λ k. f (a + k)) (λ k. g (a + k)) (e - a) (λ k l. within (f (a + k)) k l))
    ∙ (ap (λ c. 0 + (count_below (λ k. f (a + k)) (e - a) + c)) (count_none (λ k. g (a + ((e - a) + k))) (n - e) (λ k l. above (f (a + ((e - a) + k))) k))
    ∙ same (count_below (λ k. f (a + k)) (e - a)))))))
  where
    g : ℕ → Bool
    g = λ k. f k && is_inside a e k

    whole : n ≡ a + ((e - a) + (n - e))
    whole = omega arith

    same : (m : ℕ) → 0 + (m + 0) ≡ m
    same m = omega arith

    below : (b : Bool) (k : ℕ) → k < a → (b && is_inside a e k) ≡ false
    below b k l = grind (arith, nat_tests)

    within : (b : Bool) (k : ℕ) → k < e - a → (b && is_inside a e (a + k)) ≡ b
    within b k l = grind (arith, nat_tests)

    above : (b : Bool) (k : ℕ) → (b && is_inside a e (a + ((e - a) + k))) ≡ false
    above b k = grind (arith, nat_tests)

-- the ones of a number, by its bits
pub ones_are : (k n : ℕ) → n < 2 ^ k → ones n ≡ count_below (λ i. bit_at n i == 1) k
ones_are zero n h = omega (arith, ones-le 0 n h)
ones_are (suc k) n h =
    ones_step n
    ∙ (ap (λ m. n % 2 + m) (ones_are k (n / 2) (shr_below n k 1 (subst (λ x. n < 2 ^ x) next h)))
    ∙ (ap (λ m. n % 2 + m) (count_agree (λ i. bit_at n (suc i) == 1) (λ i. bit_at (n / 2) i == 1) k (λ i l. ap (λ b. b == 1) (sym (bit_at-suc n i))))
    ∙ (ap (λ m. m + count_below (λ i. bit_at n (suc i) == 1) k) (low (n % 2) (omega arith) ∙ ap (λ b. cond (b == 1) 1 0) (sym (bit_at_lowest n)))
    ∙ sym (count_front (λ i. bit_at n i == 1) k))))
  where
    next : suc k ≡ k + 1
    next = omega arith

    low : (b : ℕ) → b < 2 → b ≡ cond (b == 1) 1 0
    low b l = grind (arith, nat_tests)
