-- Tests of each number below one, from the first on.
use Rattle.std.proofs.Common.{◌≡◌, ◌∙◌, ◌<◌, ◌+◌, ℕ, zero, suc, Bool, true, false, ◌&&◌, ◌||◌, not, refl, sym, ap, subst, arith, add-one, ◌⊎◌, inl, inr, List, [], ◌∷◌, ◌++◌, length}
use Rattle.std.specs.Prelude.{get_or}
use Rattle.dense_tree.specs.Alike.{each_below}

pub below_more : (p : ℕ → Bool) (k : ℕ) → each_below k p ≡ true → p k ≡ true → each_below (k + 1) p ≡ true
below_more p k h e = ap (λ n. each_below n p) (add-one k) ∙ (ap (λ b. b && each_below k p) e ∙ h)

pub below_fails : (p : ℕ → Bool) (n k : ℕ) → k < n → p k ≡ false → each_below n p ≡ false
below_fails p zero k l e = absurd (omega arith)
below_fails p (suc n) k l e = by (either k n l) (λ m. below_fails p n k m e)
  where
    either : (k n : ℕ) → k < suc n → (k ≡ n) ⊎ (k < n)
    either k n l = grind arith

    no_right : (a b : Bool) → b ≡ false → (a && b) ≡ false
    no_right true b h = h
    no_right false b h = refl

    by : ((k ≡ n) ⊎ (k < n)) → (k < n → each_below n p ≡ false) → (p n && each_below n p) ≡ false
    by (inl q) f = ap (λ b. b && each_below n p) (subst (λ m. p m ≡ false) q e)
    by (inr m) f = no_right (p n) (each_below n p) (f m)

pub below_same : (p q : ℕ → Bool) (n : ℕ) → ((x : ℕ) → x < n → p x ≡ q x) → each_below n p ≡ each_below n q
below_same p q zero f = refl
below_same p q (suc n) f = ap (λ b. b && each_below n p) (f n (omega arith)) ∙ ap (λ b. q n && b) (below_same p q n (λ x l. f x (omega (arith, l))))

pub below_is : (p : ℕ → Bool) (n x : ℕ) → each_below n p ≡ true → x < n → p x ≡ true
below_is p n x h l = by (p x) refl
  where
    by : (b : Bool) → p x ≡ b → b ≡ true
    by true e = refl
    by false e = let f : true ≡ false = sym h ∙ below_fails p n x l e in cc

-- a test under a condition
pub test_fails : (a b : Bool) → a ≡ true → b ≡ false → (not a || b) ≡ false
test_fails true b e f = f
test_fails false b e f = cc

pub below_all : (p : ℕ → Bool) (n : ℕ) → ((x : ℕ) → x < n → p x ≡ true) → each_below n p ≡ true
below_all p zero f = refl
below_all p (suc n) f = ap (λ b. b && each_below n p) (f n (omega arith)) ∙ below_all p n (λ x l. f x (omega (arith, l)))

pub test_holds : (a b : Bool) → b ≡ true → (not a || b) ≡ true
test_holds true b e = e
test_holds false b e = refl

pub test_none : (a b : Bool) → a ≡ false → (not a || b) ≡ true
test_none true b e = cc
test_none false b e = refl

-- one answer more
pub answer_more : (p : ℕ → Type 0) (us : List Bool) (b : Bool) → ((j : ℕ) → get_or us j false ≡ true → p j) → (b ≡ true → p (length us)) → (j : ℕ) → get_or (us ++ b ∷ []) j false ≡ true → p j
answer_more p [] b f h zero e = h e
answer_more p [] b f h (suc j) e = cc
answer_more p (u ∷ us) b f h zero e = f zero e
answer_more p (u ∷ us) b f h (suc j) e = answer_more (λ n. p (suc n)) us b (λ n k. f (suc n) k) h j e
