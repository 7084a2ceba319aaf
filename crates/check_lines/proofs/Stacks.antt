-- Places as a list that begins with the last one filled.
use Rattle.std.proofs.Common.{◌≡◌, ℕ, zero, suc, ◌<◌, ◌≤◌, ◌+◌, ◌-◌, None, List, [], ◌∷◌, length, set, refl, sym, ap, ◌∙◌, subst, arith, add-one}
use Rattle.std.specs.Prelude.{slice_index_or}
use Rattle.check_lines.specs.declared.open.Open.{Open}
use Rattle.check_lines.specs.declared.open.Open.TheVariants.{Next}
use Rattle.check_lines.specs.Places.{last_first, rest}

set_at : (xs : List Open) (n : ℕ) (f : Open) → n < length xs → slice_index_or (set xs n f) n (Next None) ≡ f
set_at [] n f h = absurd (omega arith)
set_at (x ∷ xs) zero f h = refl
set_at (x ∷ xs) (suc n) f h = set_at xs n f (omega arith)

set_other : (xs : List Open) (n k : ℕ) (f : Open) → k < n → slice_index_or (set xs n f) k (Next None) ≡ slice_index_or xs k (Next None)
set_other [] n k f h = refl
set_other (x ∷ xs) zero k f h = absurd (omega arith)
set_other (x ∷ xs) (suc n) zero f h = refl
set_other (x ∷ xs) (suc n) (suc k) f h = set_other xs n k f (omega arith)

below_same : (xs : List Open) (n k : ℕ) (f : Open) → k ≤ n → last_first (set xs n f) k ≡ last_first xs k
below_same xs n zero f h = refl
below_same xs n (suc k) f h =
    ap (λ g. g ∷ last_first (set xs n f) k) (set_other xs n k f (omega arith)) ∙ ap (λ fs. slice_index_or xs k (Next None) ∷ fs) (below_same xs n k f (omega arith))

pub pushed : (xs : List Open) (n : ℕ) (f : Open) → n < length xs → last_first (set xs n f) (n + 1) ≡ f ∷ last_first xs n
pushed xs n f h =
    ap (last_first (set xs n f)) (add-one n) ∙ (ap (λ g. g ∷ last_first (set xs n f) n) (set_at xs n f h) ∙ ap (λ fs. f ∷ fs) (below_same xs n n f (omega arith)))

pub count : (xs : List Open) (n : ℕ) → length (last_first xs n) ≡ n
count xs zero = refl
count xs (suc n) = ap suc (count xs n)

pub popped : (xs : List Open) (n m : ℕ) → m ≡ n - 1 → last_first xs m ≡ rest (last_first xs n)
popped xs zero m e = let z : m ≡ 0 = omega (arith, e) in ap (last_first xs) z
popped xs (suc n) m e = let z : m ≡ n = omega (arith, e) in ap (last_first xs) z

either : (xs : List Open) (m : ℕ) (a b : Open) → m < length xs → slice_index_or xs m a ≡ slice_index_or xs m b
either [] m a b h = absurd (omega arith)
either (x ∷ xs) zero a b h = refl
either (x ∷ xs) (suc m) a b h = either xs m a b (omega arith)

-- the last place is the first of the list
pub top_is : (xs : List Open) (n : ℕ) (f : Open) → (n ≡ 0 → ⊥) → n ≤ length xs → f ≡ slice_index_or xs (n - 1) f → last_first xs n ≡ f ∷ rest (last_first xs n)
top_is xs zero f h k e = absurd (h refl)
top_is xs (suc m) f h k e =
    let back : m ≡ suc m - 1 = omega arith in
    let at : f ≡ slice_index_or xs m f = e ∙ ap (λ j. slice_index_or xs j f) (sym back) in
    ap (λ g. g ∷ last_first xs m) (either xs m (Next None) f (omega arith) ∙ sym at)

-- the last place is set anew
pub top_set : (xs : List Open) (n : ℕ) (f : Open) → 0 < length (last_first xs n) → n ≤ length xs → last_first (set xs (n - 1) f) n ≡ f ∷ rest (last_first xs n)
top_set xs zero f h k = absurd (omega arith)
top_set xs (suc m) f h k =
    let back : m ≡ suc m - 1 = omega arith in
    ap (λ j. last_first (set xs j f) (suc m)) (sym back) ∙ (ap (last_first (set xs m f)) (sym (add-one m)) ∙ pushed xs m f (omega arith))

-- the last two places are the first two of the list
pub top_two : (xs : List Open) (n : ℕ) (f e : Open) → 2 ≤ n → n ≤ length xs → f ≡ slice_index_or xs (n - 1) f → e ≡ slice_index_or xs (n - 2) e → last_first xs n ≡ f ∷ e ∷ rest (rest (last_first xs n))
top_two xs n f e two k p q =
    let less : n - 2 ≡ n - 1 - 1 = omega (arith, two) in
    let below : rest (last_first xs n) ≡ e ∷ rest (rest (last_first xs n)) =
    subst (λ fs. fs ≡ e ∷ rest fs) (popped xs n (n - 1) refl) (top_is xs (n - 1) e (λ z. absurd (omega (arith, two, z))) (omega (arith, two, k)) (q ∙ ap (λ j. slice_index_or xs j e) less)) in
    top_is xs n f (λ z. absurd (omega (arith, two, z))) k p ∙ ap (λ fs. f ∷ fs) below
