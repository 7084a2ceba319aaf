-- How long and how large what was seen is, and a scope's own value.
use Rattle.std.proofs.Common.{◌≡◌, ◌≤◌, ◌*◌, ℕ, List, [], ◌∷◌, arith, refl, sym, subst}
use Rattle.std.specs.Prelude.{cond, Option, Some, None, ℤ, unsigned_abs, Bool, true, false}
use Rattle.qc_model.specs.declared.problem.Kind.{Kind}
use Rattle.qc_model.specs.declared.problem.Kind.TheVariants.{Exists, Forall}
use Rattle.qc_model.specs.declared.problem.Condition.{Condition}
use Rattle.qc_model.specs.declared.problem.Scope.{Scope}
use Rattle.qc_model.specs.Content.{Game}
use Rattle.qc_model.specs.Demands.{demands_after, is_better_vector}
use Rattle.qc_model.specs.ExistsVerdict.{best_from, best_vector, exists_verdict}
use Rattle.qc_model.specs.Verdict.{Verdict, lost, exact, at_most, unknown, Seen, seen_barred, seen_skipped, seen_bound, seen_node, is_exact, exact_vectors, first_value}
use Rattle.joins.specs.Columns.{number_at}
use Rattle.joins.specs.Sizes.{IsSized, HasSizes, total_at}
use Rattle.joins.specs.Verdicts.{scope_own, kind_own}
use Rattle.search_parts.specs.Own.{IsOwnSized}

pub sizes_more : (m n : ℕ) (xs : List Seen) → m ≤ n → HasSizes m xs → HasSizes n xs
sizes_more m n xs l h k = let a = h k in omega (arith, a, l)

pub sizes_of : (n : ℕ) (v : Verdict) → IsSized n v → HasSizes n (seen_node v ∷ [])
sizes_of n lost h k = omega arith
sizes_of n (exact w) h k = let a = h k in omega (arith, a)
sizes_of n (at_most p) h k = omega (arith, h)
sizes_of n unknown h k = omega arith

pub sizes_none : (n : ℕ) → HasSizes n []
sizes_none n k = omega arith

pub sizes_barred : (n : ℕ) → HasSizes n (seen_barred ∷ [])
sizes_barred n k = omega arith

pub sizes_skipped : (n : ℕ) → HasSizes n (seen_skipped ∷ [])
sizes_skipped n k = omega arith

-- the value of a scope's own condition is that of a leaf
record FirstUnder (m : ℕ) (w : List ℤ) : Type 0 where
  pub under : unsigned_abs (first_value w) ≤ m

each_under : (m : ℕ) (d : List Condition) (v : List ℤ) (xs : List Seen) → FirstUnder m v → total_at 0 xs ≤ m → FirstUnder m (best_from d v (exact_vectors xs))
each_under m d v [] h l = h
each_under m d v (seen_barred ∷ xs) h l = each_under m d v xs h l
each_under m d v (seen_skipped ∷ xs) h l = each_under m d v xs h l
each_under m d v (seen_bound p ∷ xs) h l = each_under m d v xs h (omega (arith, l))
each_under m d v (seen_node lost ∷ xs) h l = each_under m d v xs h (omega (arith, l))
each_under m d v (seen_node (exact w) ∷ xs) h l = each_under m d (cond (is_better_vector d w v) w v) xs (by (is_better_vector d w v)) (omega (arith, l))
  where
    first : (w : List ℤ) → unsigned_abs (number_at 0 w) ≤ m → FirstUnder m w
    first [] q = record { under = omega arith }
    first (u ∷ w) q = record { under = q }

    by : (b : Bool) → FirstUnder m (cond b w v)
    by true = first w (omega (arith, l))
    by false = h
each_under m d v (seen_node (at_most p) ∷ xs) h l = each_under m d v xs h (omega (arith, l))
each_under m d v (seen_node unknown ∷ xs) h l = each_under m d v xs h (omega (arith, l))

best_under : (m : ℕ) (d : List Condition) (xs : List Seen) → total_at 0 xs ≤ m → FirstUnder m (best_vector d (exact_vectors xs))
best_under m d [] l = record { under = omega arith }
best_under m d (seen_barred ∷ xs) l = best_under m d xs l
best_under m d (seen_skipped ∷ xs) l = best_under m d xs l
best_under m d (seen_bound p ∷ xs) l = best_under m d xs (omega (arith, l))
best_under m d (seen_node lost ∷ xs) l = best_under m d xs (omega (arith, l))
best_under m d (seen_node (exact w) ∷ xs) l = each_under m d w xs (first w (omega (arith, l))) (omega (arith, l))
  where
    first : (w : List ℤ) → unsigned_abs (number_at 0 w) ≤ m → FirstUnder m w
    first [] q = record { under = omega arith }
    first (u ∷ w) q = record { under = q }
best_under m d (seen_node (at_most p) ∷ xs) l = best_under m d xs (omega (arith, l))
best_under m d (seen_node unknown ∷ xs) l = best_under m d xs (omega (arith, l))

-- so where others have the same exact leaves
pub own_sized_as : (g : Game) (later : List Scope) (d : List Condition) (n : ℕ) (xs ys : List Seen) → exact_vectors xs ≡ exact_vectors ys → HasSizes n ys → IsOwnSized n (scope_own later g d xs)
own_sized_as g [] d n xs ys e h = tt
own_sized_as g (s ∷ later) d n xs ys e h = by s.kind s.condition
  where
    of_best : (b : Bool) (w : List ℤ) → FirstUnder (n * 1000000000) w → IsOwnSized n (cond b (Some (first_value w)) None)
    of_best true w f = f.under
    of_best false w f = tt

    by : (k : Kind) (own : Option Condition) → IsOwnSized n (kind_own k own g d xs)
    by Exists None = tt
    by Exists (Some c) =
        let dd = demands_after g Exists (Some c) d in
        of_best (is_exact (exists_verdict (Some c) dd xs)) (best_vector dd (exact_vectors xs))
        (subst (λ vs. FirstUnder (n * 1000000000) (best_vector dd vs)) (sym e) (best_under (n * 1000000000) dd ys (h 0)))
    by Forall own = tt

pub own_sized : (g : Game) (later : List Scope) (d : List Condition) (n : ℕ) (xs : List Seen) → HasSizes n xs → IsOwnSized n (scope_own later g d xs)
own_sized g later d n xs h = own_sized_as g later d n xs xs refl h
