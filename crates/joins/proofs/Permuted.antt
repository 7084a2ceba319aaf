-- What is gathered of a list item by item is the same for each permutation of it, where two items next to one another may change
-- places.
use Rattle.std.proofs.Common.{◌≡◌, ◌∙◌, refl, sym, ap, arith, ℕ, zero, suc, ◌<◌, List, [], ◌∷◌, length, get_or, set}
use Rattle.std.specs.Prelude.{IsPermutation, ℤ, ◌+ℤ◌, Option, None, Some}
use Rattle.std.specs.List.{swap}
use Rattle.std.specs.Int.{int_min, int_max}
use Rattle.std.proofs.lemmas.Int.{ints, clamps}
use Rattle.std.proofs.lemmas.List.Sorted.{IsPermutation-keeps}
use Rattle.qc_model.specs.declared.problem.Fold.{Fold}
use Rattle.qc_model.specs.declared.problem.Fold.TheVariants.{Sum, Least, Greatest}
use Rattle.qc_model.specs.Value.{fold_of}

module _ {X M : Type 0} (with : X → M → M) (turned : (x y : X) (m : M) → with x (with y m) ≡ with y (with x m)) (all : List X → M) (step : (x : X) (xs : List X) → all (x ∷ xs) ≡ with x (all xs)) where
  -- an item before the list changes places with one of it
  exchanged : (xs : List X) (i : ℕ) (d y : X) → i < length xs → all (get_or xs i d ∷ set xs i y) ≡ all (y ∷ xs)
  exchanged [] i d y h = absurd (omega (arith, h))
  exchanged (x ∷ xs) zero d y h = two x y xs
    where
      two : (x y : X) (xs : List X) → all (x ∷ y ∷ xs) ≡ all (y ∷ x ∷ xs)
      two x y xs = step x (y ∷ xs) ∙ ap (with x) (step y xs) ∙ turned x y (all xs) ∙ ap (with y) (sym (step x xs)) ∙ sym (step y (x ∷ xs))
  exchanged (x ∷ xs) (suc i) d y h =
      let z = get_or xs i d in
      two z x (set xs i y) ∙ step x (z ∷ set xs i y) ∙ ap (with x) (exchanged xs i d y (omega (arith, h))) ∙ sym (step x (y ∷ xs)) ∙ two x y xs
    where
      two : (x y : X) (xs : List X) → all (x ∷ y ∷ xs) ≡ all (y ∷ x ∷ xs)
      two x y xs = step x (y ∷ xs) ∙ ap (with x) (step y xs) ∙ turned x y (all xs) ∙ ap (with y) (sym (step x xs)) ∙ sym (step y (x ∷ xs))

  swapped : (xs : List X) (i j : ℕ) (d : X) → i < length xs → j < length xs → all (set (set xs i (get_or xs j d)) j (get_or xs i d)) ≡ all xs
  swapped [] i j d h k = absurd (omega (arith, h))
  swapped (x ∷ xs) zero zero d h k = refl
  swapped (x ∷ xs) zero (suc j) d h k = exchanged xs j d x (omega (arith, k))
  swapped (x ∷ xs) (suc i) zero d h k = exchanged xs i d x (omega (arith, h))
  swapped (x ∷ xs) (suc i) (suc j) d h k =
      step x (set (set xs i (get_or xs j d)) j (get_or xs i d)) ∙ ap (with x) (swapped xs i j d (omega (arith, h)) (omega (arith, k))) ∙ sym (step x xs)

  one_swap : (xs : List X) (i j : ℕ) → i < length xs → j < length xs → all (swap xs i j) ≡ all xs
  one_swap [] i j h k = refl
  one_swap (x ∷ xs) i j h k = swapped (x ∷ xs) i j x h k

  pub permuted : (xs ys : List X) → IsPermutation xs ys → all ys ≡ all xs
  permuted xs ys p = IsPermutation-keeps xs (λ zs. all zs ≡ all xs) refl (λ zs i j h k e. one_swap zs i j h k ∙ e) ys p

-- ---- the fold of numbers, where there are some
abbrev both_numbers : Fold → ℤ → ℤ → ℤ
both_numbers Sum n m = n +ℤ m
both_numbers (Least e) n m = int_min n m
both_numbers (Greatest e) n m = int_max n m

abbrev summary : Fold → List ℤ → Option ℤ
summary f [] = None
summary f (n ∷ ns) = Some (fold_of f (n ∷ ns))

abbrev with_number : Fold → ℤ → Option ℤ → Option ℤ
with_number f n None = Some (fold_of f (n ∷ []))
with_number f n (Some m) = Some (both_numbers f n m)

abbrev with_some : Fold → Option ℤ → Option ℤ → Option ℤ
with_some f None o = o
with_some f (Some n) o = with_number f n o

-- a number before a list, where there is one
abbrev pub some_before : Option ℤ → List ℤ → List ℤ
some_before None ns = ns
some_before (Some n) ns = n ∷ ns

summary_more : (f : Fold) (n : ℤ) (ns : List ℤ) → summary f (n ∷ ns) ≡ with_number f n (summary f ns)
summary_more f n [] = refl
summary_more Sum n (m ∷ ns) = refl
summary_more (Least e) n (m ∷ ns) = refl
summary_more (Greatest e) n (m ∷ ns) = refl

summary_step : (f : Fold) (o : Option ℤ) (ns : List ℤ) → summary f (some_before o ns) ≡ with_some f o (summary f ns)
summary_step f None ns = refl
summary_step f (Some n) ns = summary_more f n ns

sums_turned : (a b c : ℤ) → a +ℤ (b +ℤ c) ≡ b +ℤ (a +ℤ c)
sums_turned a b c = omega (arith, ints)

least_turned : (a b c : ℤ) → int_min a (int_min b c) ≡ int_min b (int_min a c)
least_turned a b c = omega (arith, ints, clamps)

greatest_turned : (a b c : ℤ) → int_max a (int_max b c) ≡ int_max b (int_max a c)
greatest_turned a b c = omega (arith, ints, clamps)

least_both : (a b : ℤ) → int_min a b ≡ int_min b a
least_both a b = omega (arith, ints, clamps)

greatest_both : (a b : ℤ) → int_max a b ≡ int_max b a
greatest_both a b = omega (arith, ints, clamps)

numbers_turned : (f : Fold) (n m : ℤ) (o : Option ℤ) → with_number f n (with_number f m o) ≡ with_number f m (with_number f n o)
numbers_turned Sum n m None = ap Some (sums_turned n m _)
numbers_turned (Least e) n m None = ap Some (least_both n m)
numbers_turned (Greatest e) n m None = ap Some (greatest_both n m)
numbers_turned Sum n m (Some k) = ap Some (sums_turned n m k)
numbers_turned (Least e) n m (Some k) = ap Some (least_turned n m k)
numbers_turned (Greatest e) n m (Some k) = ap Some (greatest_turned n m k)

some_turned : (f : Fold) (a b o : Option ℤ) → with_some f a (with_some f b o) ≡ with_some f b (with_some f a o)
some_turned f None b o = refl
some_turned f (Some n) None o = refl
some_turned f (Some n) (Some m) o = numbers_turned f n m o

summary_decides : (f : Fold) (ns ms : List ℤ) → summary f ns ≡ summary f ms → fold_of f ns ≡ fold_of f ms
summary_decides f [] [] e = refl
summary_decides f [] (m ∷ ms) e = cc
summary_decides f (n ∷ ns) [] e = cc
summary_decides f (n ∷ ns) (m ∷ ms) e = cc

-- of each item one number, or none
pub folds_alike : {X : Type 0} (one : X → Option ℤ) (numbers : List X → List ℤ) → ((x : X) (xs : List X) → numbers (x ∷ xs) ≡ some_before (one x) (numbers xs)) → (f : Fold) (xs ys : List X) → IsPermutation xs ys → fold_of f (numbers ys) ≡ fold_of f (numbers xs)
folds_alike one numbers step f xs ys p =
    summary_decides f (numbers ys) (numbers xs)
    (permuted (λ x o. with_some f (one x) o) (λ x y o. some_turned f (one x) (one y) o) (λ zs. summary f (numbers zs)) (λ x zs. ap (summary f) (step x zs) ∙ summary_step f (one x) (numbers zs)) xs ys p)
