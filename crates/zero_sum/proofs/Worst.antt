-- The worst branch is as good as v where each is.
use Rattle.std.proofs.Common.{◌≡◌, refl, true, false, List, [], ◌∷◌, ℤ, ◌≤ℤ◌, Option, Some, None, arith}
use Rattle.std.specs.Prelude.{int_le}
use Rattle.std.proofs.lemmas.Int.{ints}
use Rattle.qc_model.specs.declared.problem.Sense.{Sense}
use Rattle.qc_model.specs.declared.problem.Sense.TheVariants.{Min, Max}
use Rattle.qc_model.specs.declared.problem.Fold.{Fold}
use Rattle.qc_model.specs.declared.problem.Fold.TheVariants.{Sum, Least, Greatest}
use Rattle.qc_model.specs.declared.problem.Aggregate.{Aggregate}
use Rattle.qc_model.specs.Lists.{Among}
use Rattle.qc_model.specs.Value.{fold_of, aggregate_fold, least_or, greatest_or}
use Rattle.qc_model.specs.Optimal.{is_better}
use Rattle.model_laws.proofs.Folds.{least_is_one, greatest_is_one, least_bounds, greatest_bounds}
use Rattle.zero_sum.specs.Stake.{is_as_good, is_worst, is_by_worst}
use Rattle.zero_sum.specs.Bounded.{next_better}

below : (x y v : ℤ) → x ≤ℤ y → int_le y v ≡ true → int_le x v ≡ true
below x y v h k = grind (arith, ints)

above : (x y v : ℤ) → y ≤ℤ x → int_le v y ≡ true → int_le v x ≡ true
above x y v h k = grind (arith, ints)

fold_each : (c : Sense) (f : Fold) (v : ℤ) (xs : List ℤ) → is_worst c f ≡ true → is_as_good c (fold_of f xs) v ≡ true → (x : ℤ) → Among x xs → is_as_good c x v ≡ true
fold_each Min Sum v xs w h x m = absurd cc
fold_each Min (Least d) v xs w h x m = absurd cc
fold_each Min (Greatest d) v xs w h x m = below x (greatest_or d xs) v (greatest_bounds d x xs m) h
fold_each Max Sum v xs w h x m = absurd cc
fold_each Max (Least d) v xs w h x m = above x (least_or d xs) v (least_bounds d x xs m) h
fold_each Max (Greatest d) v xs w h x m = absurd cc

fold_all : (c : Sense) (f : Fold) (v : ℤ) (xs : List ℤ) → is_worst c f ≡ true → (xs ≡ [] → is_as_good c (fold_of f []) v ≡ true) → ((x : ℤ) → Among x xs → is_as_good c x v ≡ true) → is_as_good c (fold_of f xs) v ≡ true
fold_all Min Sum v xs w e h = absurd cc
fold_all Min (Least d) v xs w e h = absurd cc
fold_all Min (Greatest d) v [] w e h = e refl
fold_all Min (Greatest d) v (x ∷ xs) w e h = h (greatest_or d (x ∷ xs)) (greatest_is_one d x xs)
fold_all Max Sum v xs w e h = absurd cc
fold_all Max (Least d) v [] w e h = e refl
fold_all Max (Least d) v (x ∷ xs) w e h = h (least_or d (x ∷ xs)) (least_is_one d x xs)
fold_all Max (Greatest d) v xs w e h = absurd cc

-- each branch is as good as the worst ..
pub worst_each : (c : Sense) (q : Option Aggregate) (v : ℤ) (xs : List ℤ) → is_by_worst c q ≡ true → is_as_good c (aggregate_fold q xs) v ≡ true → (x : ℤ) → Among x xs → is_as_good c x v ≡ true
worst_each c None v xs w h = absurd cc
worst_each c (Some q) v xs w h = fold_each c q.fold v xs w h

-- .. and where there are none, the default counts
pub worst_all : (c : Sense) (q : Option Aggregate) (v : ℤ) (xs : List ℤ) → is_by_worst c q ≡ true → (xs ≡ [] → is_as_good c (aggregate_fold q []) v ≡ true) → ((x : ℤ) → Among x xs → is_as_good c x v ≡ true) →
    is_as_good c (aggregate_fold q xs) v ≡ true
worst_all c None v xs w e h = absurd cc
worst_all c (Some q) v xs w e h = fold_all c q.fold v xs w e h

pub good_self : (c : Sense) (x v : ℤ) → x ≡ v → is_as_good c x v ≡ true
good_self Min x v e = grind (arith, ints)
good_self Max x v e = grind (arith, ints)

-- as good as v, no worse than a value that is, and not as good as the next better
pub just_good : (c : Sense) (x y v : ℤ) → is_as_good c y v ≡ true → is_better c y x ≡ false → (is_as_good c x (next_better c v) ≡ true → ⊥) → x ≡ v
just_good Min x y v h b n = tight x y v h b n
  where
    tight : (x y v : ℤ) → int_le y v ≡ true → is_better Min y x ≡ false → (is_as_good Min x (next_better Min v) ≡ true → ⊥) → x ≡ v
    tight x y v h b n = grind (arith, ints)
just_good Max x y v h b n = tight x y v h b n
  where
    tight : (x y v : ℤ) → int_le v y ≡ true → is_better Max y x ≡ false → (is_as_good Max x (next_better Max v) ≡ true → ⊥) → x ≡ v
    tight x y v h b n = grind (arith, ints)

-- what is as good as the next better value is better
pub next_is_better : (c : Sense) (x y v : ℤ) → y ≡ v → is_as_good c x (next_better c v) ≡ true → is_better c x y ≡ false → ⊥
next_is_better Min x y v e h b = grind (arith, ints)
next_is_better Max x y v e h b = grind (arith, ints)
