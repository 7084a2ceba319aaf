-- What a universal join keeps, as leaves are added.
use Rattle.std.proofs.Common.{◌≡◌, ℕ, ◌+◌, ◌≤◌, Bool, true, false, not, List, [], ◌∷◌, ◌++◌, map, refl, sym, ap, ◌∙◌, subst, arith}
use Rattle.std.specs.Prelude.{ℤ, pos, ◌+ℤ◌, unsigned_abs, FitsSigned}
use Rattle.std.specs.Int.{int_min, int_max, int_wrap}
use Rattle.std.proofs.lemmas.Int.{ints, clamps, int_wrap_fits}
use mir.Syntax.{w64}
use Rattle.qc_model.specs.declared.problem.Fold.{Fold}
use Rattle.qc_model.specs.declared.problem.Fold.TheVariants.{Sum, Least, Greatest}
use Rattle.qc_model.specs.Ranges.{range_from}
use Rattle.qc_model.specs.Value.{fold_of, sum_of}
use Rattle.qc_model.specs.Verdict.{lost, exact, at_most, unknown, Seen, seen_barred, seen_skipped, seen_bound, seen_node, is_lost, is_exact, some_node, each_node, exact_vectors, is_none_of, first_value}
use Rattle.qc_model.specs.ForallVerdict.{known_numbers, is_known}
use Rattle.joins.specs.declared.columns.Source.{Source}
use Rattle.joins.specs.declared.columns.Source.TheVariants.{Variable, Folded, Missing}
use Rattle.joins.specs.declared.columns.Column.{Column}
use Rattle.qc_model.specs.declared.problem.Condition.{Condition}
use Rattle.qc_model.specs.Content.{Game}
use Rattle.joins.specs.Columns.{fresh_column, source_among, number_at, folded_with, total_of, total_with, with_vector, emptied, TotalsAre, known_by, known_of, known_in, known_with, size_at, IsSmall}
use Rattle.joins.specs.ForallJoin.{Gathers}
use Rattle.joins.proofs.Bests.{each_join, some_join, vectors_join, append_nothing, and_true, and_false, or_true, or_false}

known_join : (xs ys : List Seen) → known_numbers (xs ++ ys) ≡ known_numbers xs ++ known_numbers ys
known_join [] ys = refl
known_join (seen_barred ∷ xs) ys = known_join xs ys
known_join (seen_skipped ∷ xs) ys = known_join xs ys
known_join (seen_bound m ∷ xs) ys = known_join xs ys
known_join (seen_node lost ∷ xs) ys = known_join xs ys
known_join (seen_node (exact v) ∷ xs) ys = ap (λ ns. first_value v ∷ ns) (known_join xs ys)
known_join (seen_node (at_most p) ∷ xs) ys = ap (λ ns. p ∷ ns) (known_join xs ys)
known_join (seen_node unknown ∷ xs) ys = known_join xs ys

min_assoc : (a b c : ℤ) → int_min a (int_min b c) ≡ int_min (int_min a b) c
min_assoc a b c = omega (arith, ints, clamps)

max_assoc : (a b c : ℤ) → int_max a (int_max b c) ≡ int_max (int_max a b) c
max_assoc a b c = omega (arith, ints, clamps)

least_more : (m : ℤ) (ms : List ℤ) (n : ℤ) → (range_from m (ms ++ n ∷ [])).from ≡ int_min (range_from m ms).from n
least_more m [] n = refl
least_more m (k ∷ ms) n = ap (int_min m) (least_more k ms n) ∙ min_assoc m (range_from k ms).from n

greatest_more : (m : ℤ) (ms : List ℤ) (n : ℤ) → (range_from m (ms ++ n ∷ [])).to ≡ int_max (range_from m ms).to n
greatest_more m [] n = refl
greatest_more m (k ∷ ms) n = ap (int_max m) (greatest_more k ms n) ∙ max_assoc m (range_from k ms).to n

sum_one : (n : ℤ) → n +ℤ pos 0 ≡ pos 0 +ℤ n
sum_one n = omega (arith, ints)

sum_assoc : (a b c : ℤ) → a +ℤ (b +ℤ c) ≡ (a +ℤ b) +ℤ c
sum_assoc a b c = omega (arith, ints)

sum_more : (ns : List ℤ) (n : ℤ) → sum_of (ns ++ n ∷ []) ≡ sum_of ns +ℤ n
sum_more [] n = sum_one n
sum_more (m ∷ ns) n = ap (λ z. m +ℤ z) (sum_more ns n) ∙ sum_assoc m (sum_of ns) n

-- a sum of numbers that are small doesn't wrap
small_fits : (z : ℤ) → unsigned_abs z ≤ 4611686018427387904 → FitsSigned w64 z
small_fits z h = omega (arith, ints)

sum_kept : (ns : List ℤ) (n : ℤ) → unsigned_abs (sum_of (ns ++ n ∷ [])) ≤ 4611686018427387904 → int_wrap w64 (sum_of ns +ℤ n) ≡ sum_of (ns ++ n ∷ [])
sum_kept ns n h =
    let e = sum_more ns n in
    let fits : FitsSigned w64 (sum_of ns +ℤ n) = subst (λ (z : ℤ). FitsSigned w64 z) e (small_fits (sum_of (ns ++ n ∷ [])) h) in
    int_wrap_fits w64 (sum_of ns +ℤ n) fits ∙ sym e

fold_more : (f : Fold) (ns : List ℤ) (n : ℤ) → unsigned_abs (sum_of (ns ++ n ∷ [])) ≤ 4611686018427387904 → folded_with f (not (is_none_of ns)) (fold_of f ns) n ≡ fold_of f (ns ++ n ∷ [])
fold_more Sum ns n h = sum_kept ns n h
fold_more (Least e) [] n h = refl
fold_more (Least e) (m ∷ ms) n h = sym (least_more m ms n)
fold_more (Greatest e) [] n h = refl
fold_more (Greatest e) (m ∷ ms) n h = sym (greatest_more m ms n)

map_more : {X Y : Type 0} (f : X → Y) (xs : List X) (x : X) → map f (xs ++ x ∷ []) ≡ map f xs ++ f x ∷ []
map_more f [] x = refl
map_more f (y ∷ xs) x = ap (λ ys. f y ∷ ys) (map_more f xs x)

none_map : {X Y : Type 0} (f : X → Y) (xs : List X) → is_none_of (map f xs) ≡ is_none_of xs
none_map f [] = refl
none_map f (x ∷ xs) = refl

-- at each place the vectors' numbers sum to little
abbrev ColumnsSmall : List (List ℤ) → Type 0
ColumnsSmall ws = (k : ℕ) → unsigned_abs (sum_of (map (number_at k) ws)) ≤ 4611686018427387904

total_more : (s : Source) (ws : List (List ℤ)) (w : List ℤ) → ColumnsSmall (ws ++ w ∷ []) → total_with s (not (is_none_of ws)) (total_of s ws) w ≡ total_of s (ws ++ w ∷ [])
total_more (Variable x) ws w h = refl
total_more (Folded f k) ws w h =
    let small : unsigned_abs (sum_of (map (number_at k) ws ++ number_at k w ∷ [])) ≤ 4611686018427387904 = subst (λ (ns : List ℤ). unsigned_abs (sum_of ns) ≤ 4611686018427387904) (map_more (number_at k) ws w) (h k) in
    ap (λ b. folded_with f (not b) (fold_of f (map (number_at k) ws)) (number_at k w)) (sym (none_map (number_at k) ws))
    ∙ fold_more f (map (number_at k) ws) (number_at k w) small
    ∙ ap (fold_of f) (sym (map_more (number_at k) ws w))
total_more Missing ws w h = refl

totals_more : (ws : List (List ℤ)) (w : List ℤ) (cs : List Column) → ColumnsSmall (ws ++ w ∷ []) → TotalsAre ws cs → TotalsAre (ws ++ w ∷ []) (map (with_vector (not (is_none_of ws)) w) cs)
totals_more ws w [] h t = tt
totals_more ws w (c ∷ cs) h t = (ap (λ z. total_with c.source (not (is_none_of ws)) z w) t.0 ∙ total_more c.source ws w h, totals_more ws w cs h t.1)

pub totals_emptied : (cs : List Column) → TotalsAre [] (map emptied cs)
totals_emptied [] = tt
totals_emptied (c ∷ cs) = (refl, totals_emptied cs)

known_more_in : (s : Source) (ns : List ℤ) (n : ℤ) → unsigned_abs (sum_of (ns ++ n ∷ [])) ≤ 4611686018427387904 → known_in s (not (is_none_of ns)) (known_by s ns) n ≡ known_by s (ns ++ n ∷ [])
known_more_in (Variable x) ns n h = refl
known_more_in (Folded f k) ns n h = fold_more f ns n h
known_more_in Missing ns n h = refl

known_more : (cs : List Column) (ns : List ℤ) (n : ℤ) → unsigned_abs (sum_of (ns ++ n ∷ [])) ≤ 4611686018427387904 → known_with cs (not (is_none_of ns)) (known_of cs ns) n ≡ known_of cs (ns ++ n ∷ [])
known_more [] ns n h = refl
known_more (c ∷ cs) ns n h = known_more_in c.source ns n h

-- the columns' sources stay
pub sources_stay : (b : Bool) (w : List ℤ) (cs : List Column) → map (λ c. c.source) (map (with_vector b w) cs) ≡ map (λ c. c.source) cs
sources_stay b w [] = refl
sources_stay b w (c ∷ cs) = ap (λ ss. c.source ∷ ss) (sources_stay b w cs)

pub sources_emptied : (cs : List Column) → map (λ c. c.source) (map emptied cs) ≡ map (λ c. c.source) cs
sources_emptied [] = refl
sources_emptied (c ∷ cs) = ap (λ ss. c.source ∷ ss) (sources_emptied cs)

known_stays : (b : Bool) (w : List ℤ) (cs : List Column) (ns : List ℤ) → known_of (map (with_vector b w) cs) ns ≡ known_of cs ns
known_stays b w [] ns = refl
known_stays b w (c ∷ cs) ns = refl

pub known_emptied : (cs : List Column) (ns : List ℤ) → known_of (map emptied cs) ns ≡ known_of cs ns
known_emptied [] ns = refl
known_emptied (c ∷ cs) ns = refl

none_more : {X : Type 0} (xs : List X) (x : X) → true ≡ not (is_none_of (xs ++ x ∷ []))
none_more [] x = refl
none_more (y ∷ xs) x = refl

-- ---- sizes
abs_sum : (a b : ℤ) → unsigned_abs (a +ℤ b) ≤ unsigned_abs a + unsigned_abs b
abs_sum a b = grind (arith, ints)

sum_within : (k : ℕ) (xs : List Seen) → unsigned_abs (sum_of (map (number_at k) (exact_vectors xs))) ≤ size_at k xs
sum_within k [] = omega arith
sum_within k (seen_barred ∷ xs) = sum_within k xs
sum_within k (seen_skipped ∷ xs) = sum_within k xs
sum_within k (seen_bound m ∷ xs) = sum_within k xs
sum_within k (seen_node lost ∷ xs) = sum_within k xs
sum_within k (seen_node (exact w) ∷ xs) =
    let i = sum_within k xs in
    let a = abs_sum (number_at k w) (sum_of (map (number_at k) (exact_vectors xs))) in
    omega (arith, i, a)
sum_within k (seen_node (at_most p) ∷ xs) = let i = sum_within k xs in omega (arith, i)
sum_within k (seen_node unknown ∷ xs) = sum_within k xs

first_is : (w : List ℤ) → first_value w ≡ number_at 0 w
first_is [] = refl
first_is (x ∷ w) = refl

known_within : (xs : List Seen) → unsigned_abs (sum_of (known_numbers xs)) ≤ size_at 0 xs
known_within [] = omega arith
known_within (seen_barred ∷ xs) = known_within xs
known_within (seen_skipped ∷ xs) = known_within xs
known_within (seen_bound m ∷ xs) = known_within xs
known_within (seen_node lost ∷ xs) = known_within xs
known_within (seen_node (exact w) ∷ xs) =
    let i = known_within xs in
    let a = abs_sum (first_value w) (sum_of (known_numbers xs)) in
    let e : unsigned_abs (first_value w) ≡ unsigned_abs (number_at 0 w) = ap unsigned_abs (first_is w) in
    omega (arith, i, a, e)
known_within (seen_node (at_most p) ∷ xs) =
    let i = known_within xs in
    let a = abs_sum p (sum_of (known_numbers xs)) in
    omega (arith, i, a)
known_within (seen_node unknown ∷ xs) = known_within xs

columns_small : (xs : List Seen) (w : List ℤ) → IsSmall (xs ++ seen_node (exact w) ∷ []) → ColumnsSmall (exact_vectors xs ++ w ∷ [])
columns_small xs w s k =
    let ys = xs ++ seen_node (exact w) ∷ [] in
    let h = sum_within k ys in
    let small : unsigned_abs (sum_of (map (number_at k) (exact_vectors ys))) ≤ 4611686018427387904 = omega (arith, h, s k) in
    subst (λ (vs : List (List ℤ)). unsigned_abs (sum_of (map (number_at k) vs)) ≤ 4611686018427387904) (vectors_join xs (seen_node (exact w) ∷ [])) small

known_small : (xs : List Seen) (x : Seen) (n : ℤ) → known_numbers (x ∷ []) ≡ n ∷ [] → IsSmall (xs ++ x ∷ []) → unsigned_abs (sum_of (known_numbers xs ++ n ∷ [])) ≤ 4611686018427387904
known_small xs x n e s =
    let ys = xs ++ x ∷ [] in
    let h = known_within ys in
    let small : unsigned_abs (sum_of (known_numbers ys)) ≤ 4611686018427387904 = omega (arith, h, s 0) in
    subst (λ (ns : List ℤ). unsigned_abs (sum_of ns) ≤ 4611686018427387904) (known_join xs (x ∷ []) ∙ ap (λ (ns : List ℤ). known_numbers xs ++ ns) e) small

pub gathers_barred : (cs : List Column) (l e k h a : Bool) (t : ℤ) (xs : List Seen) → Gathers cs l e k h a t xs → Gathers cs l e k h a t (xs ++ seen_barred ∷ [])
gathers_barred cs l e k h a t xs g = record {
  any_lost_is = g.any_lost_is ∙ or_false (some_node is_lost xs) ∙ sym (some_join is_lost xs (seen_barred ∷ []));
  all_exact_is = g.all_exact_is ∙ and_true (each_node is_exact xs) ∙ sym (each_join is_exact xs (seen_barred ∷ []));
  all_known_is = g.all_known_is ∙ and_true (each_node is_known xs) ∙ sym (each_join is_known xs (seen_barred ∷ []));
  has_exact_is = g.has_exact_is ∙ ap (λ (vs : List (List ℤ)). not (is_none_of vs)) (sym (vectors_join xs (seen_barred ∷ []) ∙ append_nothing (exact_vectors xs)));
  totals = subst (λ (vs : List (List ℤ)). TotalsAre vs cs) (sym (vectors_join xs (seen_barred ∷ []) ∙ append_nothing (exact_vectors xs))) g.totals;
  any_known_is = g.any_known_is ∙ ap (λ (ns : List ℤ). not (is_none_of ns)) (sym (known_join xs (seen_barred ∷ []) ∙ append_nothing (known_numbers xs)));
  known_is = g.known_is ∙ ap (known_of cs) (sym (known_join xs (seen_barred ∷ []) ∙ append_nothing (known_numbers xs)));
}

-- a bound says nothing of a universal scope
pub gathers_bound : (cs : List Column) (l e k h a : Bool) (t : ℤ) (xs : List Seen) (m : ℤ) → Gathers cs l e k h a t xs → Gathers cs l e k h a t (xs ++ seen_bound m ∷ [])
gathers_bound cs l e k h a t xs m g = record {
  any_lost_is = g.any_lost_is ∙ or_false (some_node is_lost xs) ∙ sym (some_join is_lost xs (seen_bound m ∷ []));
  all_exact_is = g.all_exact_is ∙ and_true (each_node is_exact xs) ∙ sym (each_join is_exact xs (seen_bound m ∷ []));
  all_known_is = g.all_known_is ∙ and_true (each_node is_known xs) ∙ sym (each_join is_known xs (seen_bound m ∷ []));
  has_exact_is = g.has_exact_is ∙ ap (λ (vs : List (List ℤ)). not (is_none_of vs)) (sym (vectors_join xs (seen_bound m ∷ []) ∙ append_nothing (exact_vectors xs)));
  totals = subst (λ (vs : List (List ℤ)). TotalsAre vs cs) (sym (vectors_join xs (seen_bound m ∷ []) ∙ append_nothing (exact_vectors xs))) g.totals;
  any_known_is = g.any_known_is ∙ ap (λ (ns : List ℤ). not (is_none_of ns)) (sym (known_join xs (seen_bound m ∷ []) ∙ append_nothing (known_numbers xs)));
  known_is = g.known_is ∙ ap (known_of cs) (sym (known_join xs (seen_bound m ∷ []) ∙ append_nothing (known_numbers xs)));
}

pub gathers_lost : (cs : List Column) (l e k h a : Bool) (t : ℤ) (xs : List Seen) → Gathers cs l e k h a t xs → Gathers cs true false false h a t (xs ++ seen_node lost ∷ [])
gathers_lost cs l e k h a t xs g = record {
  any_lost_is = or_true (some_node is_lost xs) ∙ sym (some_join is_lost xs (seen_node lost ∷ []));
  all_exact_is = and_false (each_node is_exact xs) ∙ sym (each_join is_exact xs (seen_node lost ∷ []));
  all_known_is = and_false (each_node is_known xs) ∙ sym (each_join is_known xs (seen_node lost ∷ []));
  has_exact_is = g.has_exact_is ∙ ap (λ (vs : List (List ℤ)). not (is_none_of vs)) (sym (vectors_join xs (seen_node lost ∷ []) ∙ append_nothing (exact_vectors xs)));
  totals = subst (λ (vs : List (List ℤ)). TotalsAre vs cs) (sym (vectors_join xs (seen_node lost ∷ []) ∙ append_nothing (exact_vectors xs))) g.totals;
  any_known_is = g.any_known_is ∙ ap (λ (ns : List ℤ). not (is_none_of ns)) (sym (known_join xs (seen_node lost ∷ []) ∙ append_nothing (known_numbers xs)));
  known_is = g.known_is ∙ ap (known_of cs) (sym (known_join xs (seen_node lost ∷ []) ∙ append_nothing (known_numbers xs)));
}

pub gathers_skipped : (cs : List Column) (l e k h a : Bool) (t : ℤ) (xs : List Seen) → Gathers cs l e k h a t xs → Gathers cs l false false h a t (xs ++ seen_skipped ∷ [])
gathers_skipped cs l e k h a t xs g = record {
  any_lost_is = g.any_lost_is ∙ or_false (some_node is_lost xs) ∙ sym (some_join is_lost xs (seen_skipped ∷ []));
  all_exact_is = and_false (each_node is_exact xs) ∙ sym (each_join is_exact xs (seen_skipped ∷ []));
  all_known_is = and_false (each_node is_known xs) ∙ sym (each_join is_known xs (seen_skipped ∷ []));
  has_exact_is = g.has_exact_is ∙ ap (λ (vs : List (List ℤ)). not (is_none_of vs)) (sym (vectors_join xs (seen_skipped ∷ []) ∙ append_nothing (exact_vectors xs)));
  totals = subst (λ (vs : List (List ℤ)). TotalsAre vs cs) (sym (vectors_join xs (seen_skipped ∷ []) ∙ append_nothing (exact_vectors xs))) g.totals;
  any_known_is = g.any_known_is ∙ ap (λ (ns : List ℤ). not (is_none_of ns)) (sym (known_join xs (seen_skipped ∷ []) ∙ append_nothing (known_numbers xs)));
  known_is = g.known_is ∙ ap (known_of cs) (sym (known_join xs (seen_skipped ∷ []) ∙ append_nothing (known_numbers xs)));
}

pub gathers_unknown : (cs : List Column) (l e k h a : Bool) (t : ℤ) (xs : List Seen) → Gathers cs l e k h a t xs → Gathers cs l false false h a t (xs ++ seen_node unknown ∷ [])
gathers_unknown cs l e k h a t xs g = record {
  any_lost_is = g.any_lost_is ∙ or_false (some_node is_lost xs) ∙ sym (some_join is_lost xs (seen_node unknown ∷ []));
  all_exact_is = and_false (each_node is_exact xs) ∙ sym (each_join is_exact xs (seen_node unknown ∷ []));
  all_known_is = and_false (each_node is_known xs) ∙ sym (each_join is_known xs (seen_node unknown ∷ []));
  has_exact_is = g.has_exact_is ∙ ap (λ (vs : List (List ℤ)). not (is_none_of vs)) (sym (vectors_join xs (seen_node unknown ∷ []) ∙ append_nothing (exact_vectors xs)));
  totals = subst (λ (vs : List (List ℤ)). TotalsAre vs cs) (sym (vectors_join xs (seen_node unknown ∷ []) ∙ append_nothing (exact_vectors xs))) g.totals;
  any_known_is = g.any_known_is ∙ ap (λ (ns : List ℤ). not (is_none_of ns)) (sym (known_join xs (seen_node unknown ∷ []) ∙ append_nothing (known_numbers xs)));
  known_is = g.known_is ∙ ap (known_of cs) (sym (known_join xs (seen_node unknown ∷ []) ∙ append_nothing (known_numbers xs)));
}

pub gathers_at_most : (cs : List Column) (l e k h a : Bool) (t : ℤ) (xs : List Seen) (n : ℤ) → Gathers cs l e k h a t xs → IsSmall (xs ++ seen_node (at_most n) ∷ []) → Gathers cs l false k h true (known_with cs a t n) (xs ++ seen_node (at_most n) ∷ [])
gathers_at_most cs l e k h a t xs n g s = record {
  any_lost_is = g.any_lost_is ∙ or_false (some_node is_lost xs) ∙ sym (some_join is_lost xs (seen_node (at_most n) ∷ []));
  all_exact_is = and_false (each_node is_exact xs) ∙ sym (each_join is_exact xs (seen_node (at_most n) ∷ []));
  all_known_is = g.all_known_is ∙ and_true (each_node is_known xs) ∙ sym (each_join is_known xs (seen_node (at_most n) ∷ []));
  has_exact_is = g.has_exact_is ∙ ap (λ (vs : List (List ℤ)). not (is_none_of vs)) (sym (vectors_join xs (seen_node (at_most n) ∷ []) ∙ append_nothing (exact_vectors xs)));
  totals = subst (λ (vs : List (List ℤ)). TotalsAre vs cs) (sym (vectors_join xs (seen_node (at_most n) ∷ []) ∙ append_nothing (exact_vectors xs))) g.totals;
  any_known_is = none_more (known_numbers xs) n ∙ ap (λ (ns : List ℤ). not (is_none_of ns)) (sym (known_join xs (seen_node (at_most n) ∷ [])));
  known_is = ap (λ (b : Bool). known_with cs b t n) g.any_known_is ∙ ap (λ (z : ℤ). known_with cs (not (is_none_of (known_numbers xs))) z n) g.known_is ∙ known_more cs (known_numbers xs) n (known_small xs (seen_node (at_most n)) n refl s) ∙ ap (known_of cs) (sym (known_join xs (seen_node (at_most n) ∷ [])));
}

pub gathers_exact : (cs : List Column) (l e k h a : Bool) (t : ℤ) (xs : List Seen) (w : List ℤ) → Gathers cs l e k h a t xs → IsSmall (xs ++ seen_node (exact w) ∷ []) → Gathers (map (with_vector h w) cs) l e k true true (known_with cs a t (first_value w)) (xs ++ seen_node (exact w) ∷ [])
gathers_exact cs l e k h a t xs w g s = record {
  any_lost_is = g.any_lost_is ∙ or_false (some_node is_lost xs) ∙ sym (some_join is_lost xs (seen_node (exact w) ∷ []));
  all_exact_is = g.all_exact_is ∙ and_true (each_node is_exact xs) ∙ sym (each_join is_exact xs (seen_node (exact w) ∷ []));
  all_known_is = g.all_known_is ∙ and_true (each_node is_known xs) ∙ sym (each_join is_known xs (seen_node (exact w) ∷ []));
  has_exact_is = none_more (exact_vectors xs) w ∙ ap (λ (vs : List (List ℤ)). not (is_none_of vs)) (sym (vectors_join xs (seen_node (exact w) ∷ [])));
  totals = subst (λ (b : Bool). TotalsAre (exact_vectors (xs ++ seen_node (exact w) ∷ [])) (map (with_vector b w) cs)) (sym g.has_exact_is) (subst (λ (vs : List (List ℤ)). TotalsAre vs (map (with_vector (not (is_none_of (exact_vectors xs))) w) cs)) (sym (vectors_join xs (seen_node (exact w) ∷ []))) (totals_more (exact_vectors xs) w cs (columns_small xs w s) g.totals));
  any_known_is = none_more (known_numbers xs) (first_value w) ∙ ap (λ (ns : List ℤ). not (is_none_of ns)) (sym (known_join xs (seen_node (exact w) ∷ [])));
  known_is = ap (λ (b : Bool). known_with cs b t (first_value w)) g.any_known_is ∙ ap (λ (z : ℤ). known_with cs (not (is_none_of (known_numbers xs))) z (first_value w)) g.known_is ∙ known_more cs (known_numbers xs) (first_value w) (known_small xs (seen_node (exact w)) (first_value w) refl s) ∙ ap (known_of cs) (sym (known_join xs (seen_node (exact w) ∷ []))) ∙ sym (known_stays h w cs (known_numbers (xs ++ seen_node (exact w) ∷ [])));
}

-- ---- columns that have no number yet
pub fresh_sources : (g : Game) (p d : List Condition) → map (λ c. c.source) (map (fresh_column g p) d) ≡ map (λ c. source_among g p c.target) d
fresh_sources g p [] = refl
fresh_sources g p (c ∷ d) = ap (λ ss. source_among g p c.target ∷ ss) (fresh_sources g p d)

pub fresh_totals : (g : Game) (p d : List Condition) → TotalsAre [] (map (fresh_column g p) d)
fresh_totals g p [] = tt
fresh_totals g p (c ∷ d) = (refl, fresh_totals g p d)

-- what columns that have no number yet keep
pub gathers_none : (cs : List Column) (t : ℤ) → TotalsAre [] cs → t ≡ known_of cs [] → Gathers cs false true true false false t []
gathers_none cs t h e = record {
  any_lost_is = refl;
  all_exact_is = refl;
  all_known_is = refl;
  has_exact_is = refl;
  any_known_is = refl;
  totals = h;
  known_is = e;
}
