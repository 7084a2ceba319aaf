-- Where it is sure what a scope comes to, marks among what was seen change nothing: they are beaten.
use Rattle.std.proofs.Common.{◌≡◌, ◌∙◌, Bool, true, false, ◌&&◌, cond, Option, List, [], ◌∷◌, ◌++◌, map, refl, sym, ap, ℤ}
use Rattle.std.specs.Prelude.{not, is_none}
use Rattle.std.specs.List.{list_all}
use Rattle.qc_model.specs.declared.problem.Kind.{Kind}
use Rattle.qc_model.specs.declared.problem.Kind.TheVariants.{Exists, Forall}
use Rattle.qc_model.specs.declared.problem.Condition.{Condition}
use Rattle.qc_model.specs.declared.problem.Scope.{Scope}
use Rattle.qc_model.specs.Content.{Game}
use Rattle.qc_model.specs.Demands.{demands_after}
use Rattle.qc_model.specs.Verdict.{Verdict, lost, exact, at_most, unknown, Seen, seen_barred, seen_skipped, seen_bound, seen_node, is_lost, is_exact, some_node, each_node, exact_vectors, bounds, is_none_of, first_value}
use Rattle.qc_model.specs.ExistsVerdict.{exists_verdict, some_open, best_vector, best_number, beats, without_own}
use Rattle.qc_model.specs.declared.problem.Target.{Target}
use Rattle.qc_model.specs.declared.problem.Target.TheVariants.{Var, Aggregate as Agg}
use Rattle.qc_model.specs.ForallVerdict.{entry_values, numbers_for, bounded_forall, first_entry_bound}
use Rattle.joins.specs.Verdicts.{scope_verdict, kind_verdict}
use Rattle.search_parts.specs.Beaten.{seen_bounds}
use Rattle.search_parts.specs.Settled.{is_vague_verdict, beats_none}

-- where all is lost, nothing is exact
none_exact : (xs : List Seen) → each_node is_lost xs ≡ true → is_none_of (exact_vectors xs) ≡ true
none_exact [] e = refl
none_exact (seen_barred ∷ xs) e = none_exact xs e
none_exact (seen_skipped ∷ xs) e = cc
none_exact (seen_bound m ∷ xs) e = none_exact xs e
none_exact (seen_node lost ∷ xs) e = none_exact xs e
none_exact (seen_node (exact v) ∷ xs) e = cc
none_exact (seen_node (at_most p) ∷ xs) e = cc
none_exact (seen_node unknown ∷ xs) e = cc

-- the tests of a bounded existential scope, with a mark and without: all lost, no bound, some open, no exact leaf, the mark is
-- beaten, the others are
tests : (all_lost no_bound open_any none_any first others : Bool) (v : List ℤ) (a b : Verdict) → (all_lost ≡ true → none_any ≡ true) → is_vague_verdict beats_none b ≡ true →
    is_vague_verdict beats_none (cond (all_lost && false) lost (cond open_any unknown (cond (not none_any && (first && others)) (exact v) b))) ≡ false →
    cond (all_lost && no_bound) lost (cond open_any unknown (cond (not none_any && others) (exact v) a)) ≡ cond (all_lost && false) lost (cond open_any unknown (cond (not none_any && (first && others)) (exact v) b))
tests true n true none_any f r v a b q vague e = cc
tests true n false true f r v a b q vague e = let k : true ≡ false = sym vague ∙ e in cc
tests true n false false f r v a b q vague e = let k = q refl in cc
tests false n true none_any f r v a b q vague e = cc
tests false n false true f r v a b q vague e = let k : true ≡ false = sym vague ∙ e in cc
tests false n false false true true v a b q vague e = refl
tests false n false false true false v a b q vague e = let k : true ≡ false = sym vague ∙ e in cc
tests false n false false false r v a b q vague e = let k : true ≡ false = sym vague ∙ e in cc

rest_vague : (b : Bool) (n : ℤ) → is_vague_verdict beats_none (cond b (at_most n) unknown) ≡ true
rest_vague true n = refl
rest_vague false n = refl

-- one mark
exists_without : (own : Option Condition) (d : List Condition) (m : ℤ) (xs : List Seen) → is_vague_verdict beats_none (exists_verdict own d (seen_bound m ∷ xs)) ≡ false → exists_verdict own d xs ≡ exists_verdict own d (seen_bound m ∷ xs)
exists_without own [] m xs e = refl
exists_without own (c ∷ d) m xs e =
    let vs = exact_vectors xs in
    let v = best_vector (c ∷ d) vs in
    let p = beats c.sense (is_none_of d) (first_value v) in
    tests (each_node is_lost xs) (is_none_of (bounds xs)) (some_open xs) (is_none_of vs) (p m) (list_all p (bounds xs)) (without_own own v)
    (cond (is_none own) (at_most (best_number c.sense (map first_value vs ++ bounds xs))) unknown) (cond (is_none own) (at_most (best_number c.sense (map first_value vs ++ m ∷ bounds xs))) unknown)
    (none_exact xs) (rest_vague (is_none own) (best_number c.sense (map first_value vs ++ m ∷ bounds xs))) e

-- a universal scope sees none
forall_without : (g : Game) (d : List Condition) (m : ℤ) (xs : List Seen) → bounded_forall g d xs ≡ bounded_forall g d (seen_bound m ∷ xs)
forall_without g [] m xs = refl
forall_without g (c ∷ d) m xs = by c.target
  where
    by : (x : Target) → first_entry_bound g c.sense x xs ≡ first_entry_bound g c.sense x (seen_bound m ∷ xs)
    by (Var x) = refl
    by (Agg q) = refl

kind_without : (k : Kind) (own : Option Condition) (g : Game) (d : List Condition) (a : List ℤ) (m : ℤ) (xs : List Seen) → is_vague_verdict beats_none (kind_verdict k own g d a (seen_bound m ∷ xs)) ≡ false → kind_verdict k own g d a xs ≡ kind_verdict k own g d a (seen_bound m ∷ xs)
kind_without Exists own g d a m xs e = exists_without own (demands_after g Exists own d) m xs e
kind_without Forall own g d a m xs e = ap (λ u. cond (some_node is_lost xs) lost (cond (each_node is_exact xs) (exact (entry_values g d a (numbers_for d (exact_vectors xs)))) u)) (forall_without g d m xs)

scope_without : (g : Game) (later : List Scope) (d : List Condition) (a : List ℤ) (m : ℤ) (xs : List Seen) → is_vague_verdict beats_none (scope_verdict later g d a (seen_bound m ∷ xs)) ≡ false → scope_verdict later g d a xs ≡ scope_verdict later g d a (seen_bound m ∷ xs)
scope_without g [] d a m xs e = refl
scope_without g (s ∷ later) d a m xs e = kind_without s.kind s.condition g d a m xs e

-- all marks
pub without_marks : (g : Game) (later : List Scope) (d : List Condition) (a : List ℤ) (ms : List ℤ) (xs : List Seen) → is_vague_verdict beats_none (scope_verdict later g d a (seen_bounds ms ++ xs)) ≡ false → scope_verdict later g d a xs ≡ scope_verdict later g d a (seen_bounds ms ++ xs)
without_marks g later d a [] xs e = refl
without_marks g later d a (m ∷ ms) xs e =
    let one = scope_without g later d a m (seen_bounds ms ++ xs) e in
    without_marks g later d a ms xs (ap (is_vague_verdict beats_none) one ∙ e) ∙ one

-- they are no exact leaves
pub vectors_marks : (ms : List ℤ) (xs : List Seen) → exact_vectors (seen_bounds ms ++ xs) ≡ exact_vectors xs
vectors_marks [] xs = refl
vectors_marks (m ∷ ms) xs = vectors_marks ms xs

-- what is sure by itself is sure wherever more is beaten
pub sure_anyway : (above : ℤ → Bool) (v : Verdict) → is_vague_verdict beats_none v ≡ false → is_vague_verdict above v ≡ false
sure_anyway above lost e = refl
sure_anyway above (exact v) e = refl
sure_anyway above (at_most p) e = cc
sure_anyway above unknown e = cc
