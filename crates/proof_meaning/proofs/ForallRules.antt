-- Which rule gave the verdict of a universal scope.
use Rattle.std.proofs.Common.{◌≡◌, Bool, true, false, List, [], ◌∷◌, refl, sym, ◌∙◌, cond, Option, Some, None}
use Rattle.std.specs.Prelude.{ℤ}
use Rattle.qc_model.specs.declared.problem.Sense.{Sense}
use Rattle.qc_model.specs.declared.problem.Sense.TheVariants.{Min, Max}
use Rattle.qc_model.specs.declared.problem.Fold.{Fold}
use Rattle.qc_model.specs.declared.problem.Fold.TheVariants.{Sum, Least, Greatest}
use Rattle.qc_model.specs.declared.problem.Target.{Target}
use Rattle.qc_model.specs.declared.problem.Target.TheVariants.{Var, Aggregate as Agg}
use Rattle.qc_model.specs.declared.problem.Aggregate.{Aggregate}
use Rattle.qc_model.specs.declared.problem.Condition.{Condition}
use Rattle.qc_model.specs.Content.{Game}
use Rattle.qc_model.specs.Value.{aggregate_fold}
use Rattle.qc_model.specs.Verdict.{Verdict, lost, exact, at_most, Seen, is_exact, is_lost, some_node, each_node, exact_vectors}
use Rattle.qc_model.specs.ForallVerdict.{forall_verdict, bounded_forall, first_entry_bound, one_sided, fold_bound, known_numbers, is_known, entry_values, numbers_for}
use Rattle.proof_meaning.proofs.Boxes.{differ}
use Rattle.std.specs.Prelude.{slice_get}

-- a verdict that is neither lost nor exact
abbrev pub IsBetween : Verdict → Type 0
IsBetween v = (is_lost v ≡ false) × (is_exact v ≡ false)

between_forall : (g : Game) (d : List Condition) (xs : List Seen) → IsBetween (bounded_forall g d xs)
between_forall g [] xs = (refl, refl)
between_forall g (c ∷ d) xs = by c.target
  where
    fold : (s : Sense) (f : Fold) (n : ℤ) (ns : List ℤ) → IsBetween (fold_bound s f n ns)
    fold Min Sum n ns = (refl, refl)
    fold Min (Least e) n ns = (refl, refl)
    fold Min (Greatest e) n ns = (refl, refl)
    fold Max Sum n ns = (refl, refl)
    fold Max (Least e) n ns = (refl, refl)
    fold Max (Greatest e) n ns = (refl, refl)

    sided : (s : Sense) (q : Option Aggregate) (ns : List ℤ) → IsBetween (one_sided s q ns)
    sided s None ns = (refl, refl)
    sided s (Some q) [] = (refl, refl)
    sided s (Some q) (n ∷ ns) = fold s q.fold n ns

    choice : (b : Bool) (p : ℤ) (v : Verdict) → IsBetween v → IsBetween (cond b (at_most p) v)
    choice true p v h = (refl, refl)
    choice false p v h = h

    by : (x : Target) → IsBetween (first_entry_bound g c.sense x xs)
    by (Var x) = (refl, refl)
    by (Agg q) = choice (each_node is_known xs) (aggregate_fold (slice_get g.aggregates q.0) (known_numbers xs)) (one_sided c.sense (slice_get g.aggregates q.0) (known_numbers xs)) (sided c.sense (slice_get g.aggregates q.0) (known_numbers xs))

pub any_forall_lost : (g : Game) (d : List Condition) (a : List ℤ) (xs : List Seen) → is_lost (forall_verdict g d a xs) ≡ true → some_node is_lost xs ≡ true
any_forall_lost g d a xs e = go (some_node is_lost xs) (each_node is_exact xs) (entry_values g d a (numbers_for d (exact_vectors xs))) (bounded_forall g d xs) (between_forall g d xs) e
  where
    go : (x y : Bool) (v : List ℤ) (b : Verdict) → IsBetween b → is_lost (cond x lost (cond y (exact v) b)) ≡ true → x ≡ true
    go true y v b n e = refl
    go false true v b n e = e
    go false false v b n e = absurd (differ (sym n.0 ∙ e))

pub any_forall_exact : (g : Game) (d : List Condition) (a : List ℤ) (xs : List Seen) → is_exact (forall_verdict g d a xs) ≡ true → each_node is_exact xs ≡ true
any_forall_exact g d a xs e = go (some_node is_lost xs) (each_node is_exact xs) (entry_values g d a (numbers_for d (exact_vectors xs))) (bounded_forall g d xs) (between_forall g d xs) e
  where
    go : (x y : Bool) (v : List ℤ) (b : Verdict) → IsBetween b → is_exact (cond x lost (cond y (exact v) b)) ≡ true → y ≡ true
    go true y v b n e = absurd (differ e)
    go false true v b n e = refl
    go false false v b n e = absurd (differ (sym n.1 ∙ e))
