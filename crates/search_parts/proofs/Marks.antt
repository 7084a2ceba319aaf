-- Marks of bounds among what was seen.
use Rattle.std.proofs.Common.{◌≡◌, ◌∙◌, refl, ap, Bool, List, [], ◌∷◌, ◌++◌, map, ℤ}
use Rattle.std.proofs.lemmas.List.{append-nil}
use Rattle.qc_model.specs.declared.problem.Condition.{Condition}
use Rattle.qc_model.specs.ExistsVerdict.{some_open}
use Rattle.qc_model.specs.Verdict.{Verdict, lost, exact, at_most, unknown, Seen, seen_barred, seen_skipped, seen_bound, seen_node, some_node, bounds, first_value}
use Rattle.proof_tree.specs.Finding.{leaf_bound, seen_of}
use Rattle.joins.specs.Sizes.{EachHas}
use Rattle.search_parts.specs.Beaten.{firsts, seen_bounds}

-- the marks of steps, as leaves, are seen so
pub seen_marks : (ms : List ℤ) → map seen_of (map leaf_bound ms) ≡ seen_bounds ms
seen_marks [] = refl
seen_marks (m ∷ ms) = ap (λ xs. seen_bound m ∷ xs) (seen_marks ms)

pub firsts-append : (xs ys : List Seen) → firsts (xs ++ ys) ≡ firsts xs ++ firsts ys
firsts-append [] ys = refl
firsts-append (seen_barred ∷ xs) ys = firsts-append xs ys
firsts-append (seen_skipped ∷ xs) ys = firsts-append xs ys
firsts-append (seen_bound m ∷ xs) ys = firsts-append xs ys
firsts-append (seen_node lost ∷ xs) ys = firsts-append xs ys
firsts-append (seen_node (exact v) ∷ xs) ys = ap (λ ns. first_value v ∷ ns) (firsts-append xs ys)
firsts-append (seen_node (at_most p) ∷ xs) ys = firsts-append xs ys
firsts-append (seen_node unknown ∷ xs) ys = firsts-append xs ys

no_firsts : (ms : List ℤ) → firsts (seen_bounds ms) ≡ []
no_firsts [] = refl
no_firsts (m ∷ ms) = no_firsts ms

-- a mark is no exact leaf
pub firsts_marks : (xs : List Seen) (ms : List ℤ) → firsts (xs ++ seen_bounds ms) ≡ firsts xs
firsts_marks xs ms = firsts-append xs (seen_bounds ms) ∙ (ap (λ ns. firsts xs ++ ns) (no_firsts ms) ∙ append-nil (firsts xs))

pub bounds-append : (xs ys : List Seen) → bounds (xs ++ ys) ≡ bounds xs ++ bounds ys
bounds-append [] ys = refl
bounds-append (seen_barred ∷ xs) ys = bounds-append xs ys
bounds-append (seen_skipped ∷ xs) ys = bounds-append xs ys
bounds-append (seen_bound m ∷ xs) ys = ap (λ ns. m ∷ ns) (bounds-append xs ys)
bounds-append (seen_node lost ∷ xs) ys = bounds-append xs ys
bounds-append (seen_node (exact v) ∷ xs) ys = bounds-append xs ys
bounds-append (seen_node (at_most p) ∷ xs) ys = ap (λ ns. p ∷ ns) (bounds-append xs ys)
bounds-append (seen_node unknown ∷ xs) ys = bounds-append xs ys

pub bounds_marks : (ms : List ℤ) (xs : List Seen) → bounds (seen_bounds ms ++ xs) ≡ ms ++ bounds xs
bounds_marks [] xs = refl
bounds_marks (m ∷ ms) xs = ap (λ ns. m ∷ ns) (bounds_marks ms xs)

pub open_marks : (ms : List ℤ) (xs : List Seen) → some_open (seen_bounds ms ++ xs) ≡ some_open xs
open_marks [] xs = refl
open_marks (m ∷ ms) xs = open_marks ms xs

pub some_marks : (p : Verdict → Bool) (ms : List ℤ) (xs : List Seen) → some_node p (seen_bounds ms ++ xs) ≡ some_node p xs
some_marks p [] xs = refl
some_marks p (m ∷ ms) xs = some_marks p ms xs

pub long_marks : (d : List Condition) (ms : List ℤ) (xs : List Seen) → EachHas d xs → EachHas d (seen_bounds ms ++ xs)
long_marks d [] xs h = h
long_marks d (m ∷ ms) xs h = long_marks d ms xs h
