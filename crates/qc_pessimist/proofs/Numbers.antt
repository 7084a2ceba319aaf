-- New places keep the order of the old ones, and leave room for the scopes added.
use Rattle.std.proofs.Common.{◌≡◌, refl, ap, ◌∙◌, subst, ℕ, zero, suc, ◌+◌, ◌<◌, ◌≤◌, Bool, true, false, List, [], ◌∷◌, drop, length, arith}
use Rattle.std.specs.Prelude.{nat_lt, ◌==◌}
use Rattle.std.proofs.lemmas.Bool.Decides.{nat_tests}
use Rattle.qc_model.specs.declared.problem.Scope.{Scope}
use Rattle.qc_pessimist.specs.Opposed.{added_after, moved}

pub moved_up : (q : ℕ → Bool) (i : ℕ) (scopes : List Scope) (a b : ℕ) → a < b → moved q i scopes a < moved q i scopes b
moved_up q i [] a b h = h
moved_up q i (s ∷ later) zero zero h = absurd (omega arith)
moved_up q i (s ∷ later) zero (suc b) h = omega arith
moved_up q i (s ∷ later) (suc a) zero h = absurd (omega arith)
moved_up q i (s ∷ later) (suc a) (suc b) h = let r = moved_up q (suc i) later a b (omega arith) in omega arith

-- a test by order that is kept both ways
pub kept_lt : (f : ℕ → ℕ) (m a b : ℕ) → (a < b → f a < m) → (b ≤ a → m ≤ f a) → nat_lt (f a) m ≡ nat_lt a b
kept_lt f m a b up down = grind (arith, nat_tests)

pub kept_eq : (m n a b : ℕ) → (a < b → m < n) → (b < a → n < m) → (a ≡ b → m ≡ n) → (m == n) ≡ (a == b)
kept_eq m n a b up down same = grind (arith, nat_tests)

module _ (q : ℕ → Bool) (i : ℕ) (scopes : List Scope) where
  pub moved_no_less : (a b : ℕ) → a ≤ b → moved q i scopes a ≤ moved q i scopes b
  moved_no_less a b h = at (nat_lt a b) refl
    where
      at : (t : Bool) → nat_lt a b ≡ t → moved q i scopes a ≤ moved q i scopes b
      at true e = let r = moved_up q i scopes a b (grind (arith, nat_tests)) in omega arith
      at false e = let r : a ≡ b = grind (arith, nat_tests) in subst (λ n. moved q i scopes a ≤ moved q i scopes n) r (omega arith)

  pub moved_lt : (a b : ℕ) → nat_lt (moved q i scopes a) (moved q i scopes b) ≡ nat_lt a b
  moved_lt a b = kept_lt (moved q i scopes) (moved q i scopes b) a b (moved_up q i scopes a b) (moved_no_less b a)

  -- up to the scope itself
  pub moved_up_to : (a b : ℕ) → nat_lt (moved q i scopes a) (suc (moved q i scopes b)) ≡ nat_lt a (suc b)
  moved_up_to a b =
      kept_lt (moved q i scopes) (suc (moved q i scopes b)) a (suc b)
      (λ h. let r = moved_no_less a b (omega arith) in omega arith) (λ h. let r = moved_up q i scopes b a (omega arith) in omega arith)

  pub moved_eq : (a b : ℕ) → (moved q i scopes a == moved q i scopes b) ≡ (a == b)
  moved_eq a b = kept_eq (moved q i scopes a) (moved q i scopes b) a b (moved_up q i scopes a b) (moved_up q i scopes b a) (ap (moved q i scopes))

  -- no scope comes to the place after one where the next comes later
  pub moved_beside : (b : ℕ) → moved q i scopes (suc b) ≡ suc (suc (moved q i scopes b)) → (a : ℕ) → (moved q i scopes a == suc (moved q i scopes b)) ≡ false
  moved_beside b e a = at (nat_lt b a) refl
    where
      at : (t : Bool) → nat_lt b a ≡ t → (moved q i scopes a == suc (moved q i scopes b)) ≡ false
      at true h = let r = moved_no_less (suc b) a (grind (arith, nat_tests)) in grind (arith, nat_tests)
      at false h = let r = moved_no_less a b (grind (arith, nat_tests)) in grind (arith, nat_tests)

pub moved_zero : (q : ℕ → Bool) (i : ℕ) (scopes : List Scope) → moved q i scopes 0 ≡ 0
moved_zero q i [] = refl
moved_zero q i (s ∷ later) = refl

-- the next place after a scope, whose number is n, is past those added after it
pub moved_next : (q : ℕ → Bool) (i j n : ℕ) (scopes : List Scope) (s : Scope) (later : List Scope) → n ≡ i + j → drop j scopes ≡ s ∷ later →
    moved q i scopes (suc j) ≡ suc (moved q i scopes j + length (added_after q n s))
moved_next q i zero n [] s later e h = absurd cc
moved_next q i (suc j) n [] s later e h = absurd cc
moved_next q i zero n (x ∷ xs) s later e h =
    let first : x ≡ s = cc in
    let here : i ≡ n = omega (arith, e) in
    ap (λ m. suc (length (added_after q i x) + m)) (moved_zero q (suc i) xs) ∙ tail (length (added_after q i x)) ∙ ap (λ y. suc (0 + length (added_after q i y))) first ∙ ap (λ m. suc (0 + length (added_after q m s))) here
  where
    tail : (m : ℕ) → suc (m + 0) ≡ suc (0 + m)
    tail m = omega arith
moved_next q i (suc j) n (x ∷ xs) s later e h =
    let r = moved_next q (suc i) j n xs s later (omega (arith, e)) h in
    ap (λ m. suc (length (added_after q i x) + m)) r ∙ shift (length (added_after q i x)) (moved q (suc i) xs j) (length (added_after q n s))
  where
    shift : (a b c : ℕ) → suc (a + suc (b + c)) ≡ suc (suc (a + b) + c)
    shift a b c = omega arith

pub drop_next : {X : Type 0} (j : ℕ) (xs : List X) (x : X) (later : List X) → drop j xs ≡ x ∷ later → drop (suc j) xs ≡ later
drop_next zero [] x later h = absurd cc
drop_next (suc j) [] x later h = absurd cc
drop_next zero (y ∷ ys) x later h = cc
drop_next (suc j) (y ∷ ys) x later h = drop_next j ys x later h

pub drop_none : {X : Type 0} (xs : List X) → drop 0 xs ≡ xs
drop_none [] = refl
drop_none (x ∷ xs) = refl
