-- Folds never get better where a branch gets worse; the least and the greatest of some numbers.
use Rattle.std.proofs.Common.{◌≡◌, ◌⊎◌, inl, inr, false, List, [], ◌∷◌, refl, sym, subst, ℤ, ◌≤ℤ◌, Option, Some, None, arith}
use Rattle.std.specs.Int.{int_min, int_max}
use Rattle.std.proofs.lemmas.Int.{ints, clamps, by_lt_z}
use Rattle.qc_model.specs.declared.problem.Sense.{Sense}
use Rattle.qc_model.specs.declared.problem.Sense.TheVariants.{Min, Max}
use Rattle.qc_model.specs.declared.problem.Fold.{Fold}
use Rattle.qc_model.specs.declared.problem.Aggregate.{Aggregate}
use Rattle.qc_model.specs.Lists.{Among}
use Rattle.qc_model.specs.Ranges.{range_from}
use Rattle.qc_model.specs.Value.{fold_of, aggregate_fold, least_or, greatest_or}
use Rattle.qc_model.specs.Optimal.{is_better}
use Rattle.qc_model.proofs.Folds.{NoneBetter, fold_no_better}
use Rattle.model_laws.specs.Branches.{NeverBetter}
use Rattle.model_laws.proofs.Better.{IsBetter}

none_better : (s : Sense) (xs ys : List ℤ) → NeverBetter s xs ys → NoneBetter s xs ys
none_better s [] [] h = tt
none_better s [] (y ∷ ys) h = absurd h
none_better s (x ∷ xs) [] h = absurd h
none_better s (x ∷ xs) (y ∷ ys) h = (h.0, none_better s xs ys h.1)

-- a fold never gets better where no branch does
pub fold_not_better : (f : Fold) (s : Sense) (xs ys : List ℤ) → NeverBetter s xs ys → is_better s (fold_of f xs) (fold_of f ys) ≡ false
fold_not_better f s xs ys h = fold_no_better s f xs ys (none_better s xs ys h)

pub not_better_self : (s : Sense) (x : ℤ) → ¬ IsBetter s x x
not_better_self Min x k = grind (arith, ints)
not_better_self Max x k = grind (arith, ints)

pub aggregate_not_better : (q : Option Aggregate) (s : Sense) (xs ys : List ℤ) → NeverBetter s xs ys → is_better s (aggregate_fold q xs) (aggregate_fold q ys) ≡ false
aggregate_not_better None Min xs ys h = refl
aggregate_not_better None Max xs ys h = refl
aggregate_not_better (Some q) s xs ys h = fold_not_better q.fold s xs ys h

-- the least and the greatest are among the numbers, and bound each of them
least_picks : (x m : ℤ) → (int_min x m ≡ x) ⊎ (int_min x m ≡ m)
least_picks x m = by_lt_z {P = (int_min x m ≡ x) ⊎ (int_min x m ≡ m)} x m (λ h. inl (omega (arith, ints, clamps, h))) (λ h. inr (omega (arith, ints, clamps, h)))

greatest_picks : (x m : ℤ) → (int_max x m ≡ x) ⊎ (int_max x m ≡ m)
greatest_picks x m = by_lt_z {P = (int_max x m ≡ x) ⊎ (int_max x m ≡ m)} x m (λ h. inr (omega (arith, ints, clamps, h))) (λ h. inl (omega (arith, ints, clamps, h)))

least_among : (x : ℤ) (xs : List ℤ) → Among (range_from x xs).from (x ∷ xs)
least_among x [] = inl refl
least_among x (y ∷ ys) = elim (least_picks x (range_from y ys).from) [ inl e ↦ inl e | inr e ↦ inr (subst (λ z. Among z (y ∷ ys)) (sym e) (least_among y ys)) ]

greatest_among : (x : ℤ) (xs : List ℤ) → Among (range_from x xs).to (x ∷ xs)
greatest_among x [] = inl refl
greatest_among x (y ∷ ys) = elim (greatest_picks x (range_from y ys).to) [ inl e ↦ inl e | inr e ↦ inr (subst (λ z. Among z (y ∷ ys)) (sym e) (greatest_among y ys)) ]

pub least_is_one : (d x : ℤ) (xs : List ℤ) → Among (least_or d (x ∷ xs)) (x ∷ xs)
least_is_one d x xs = least_among x xs

pub greatest_is_one : (d x : ℤ) (xs : List ℤ) → Among (greatest_or d (x ∷ xs)) (x ∷ xs)
greatest_is_one d x xs = greatest_among x xs

same : (x y : ℤ) → x ≡ y → y ≤ℤ x
same x y e = omega (arith, ints)

min_left : (x y m : ℤ) → y ≡ x → int_min x m ≤ℤ y
min_left x y m e = omega (arith, ints, clamps)

min_right : (x y m : ℤ) → m ≤ℤ y → int_min x m ≤ℤ y
min_right x y m h = omega (arith, ints, clamps)

max_left : (x y m : ℤ) → y ≡ x → y ≤ℤ int_max x m
max_left x y m e = omega (arith, ints, clamps)

max_right : (x y m : ℤ) → y ≤ℤ m → y ≤ℤ int_max x m
max_right x y m h = omega (arith, ints, clamps)

least_below : (y x : ℤ) (xs : List ℤ) → Among y (x ∷ xs) → (range_from x xs).from ≤ℤ y
least_below y x [] h = elim h [ inl e ↦ same y x e | inr n ↦ absurd n ]
least_below y x (z ∷ zs) h = elim h [ inl e ↦ min_left x y (range_from z zs).from e | inr n ↦ min_right x y (range_from z zs).from (least_below y z zs n) ]

greatest_above : (y x : ℤ) (xs : List ℤ) → Among y (x ∷ xs) → y ≤ℤ (range_from x xs).to
greatest_above y x [] h = elim h [ inl e ↦ same x y (sym e) | inr n ↦ absurd n ]
greatest_above y x (z ∷ zs) h = elim h [ inl e ↦ max_left x y (range_from z zs).to e | inr n ↦ max_right x y (range_from z zs).to (greatest_above y z zs n) ]

pub greatest_bounds : (d x : ℤ) (xs : List ℤ) → Among x xs → x ≤ℤ greatest_or d xs
greatest_bounds d x [] h = absurd h
greatest_bounds d x (y ∷ ys) h = greatest_above x y ys h

pub least_bounds : (d x : ℤ) (xs : List ℤ) → Among x xs → least_or d xs ≤ℤ x
least_bounds d x [] h = absurd h
least_bounds d x (y ∷ ys) h = least_below x y ys h
