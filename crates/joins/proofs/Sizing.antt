-- Numbers of verdicts are no larger than those of the leaves together, or than a value of a variable.
use Rattle.std.proofs.Common.{◌≡◌, ℕ, zero, suc, ◌+◌, ◌*◌, ◌≤◌, Bool, true, false, ◌&&◌, cond, Option, Some, None, List, [], ◌∷◌, ◌++◌, drop, map, refl, sym, ap, ◌∙◌, arith}
use Rattle.std.specs.Prelude.{max, ⊤, slice_get, slice_index_or, ℤ, pos, ◌+ℤ◌, unsigned_abs, ◌==◌, int_lt, is_none}
use Rattle.std.specs.List.{list_all}
use Rattle.std.proofs.lemmas.Int.{ints}
use Rattle.std.proofs.lemmas.Bool.Decides.{nat_tests}
use Rattle.std.proofs.lemmas.Bool.{and_parts}
use Rattle.qc_model.specs.declared.problem.Sense.{Sense}
use Rattle.qc_model.specs.declared.problem.Sense.TheVariants.{Min, Max}
use Rattle.qc_model.specs.declared.problem.Fold.{Fold}
use Rattle.qc_model.specs.declared.problem.Fold.TheVariants.{Sum, Least, Greatest}
use Rattle.qc_model.specs.declared.problem.Kind.{Kind}
use Rattle.qc_model.specs.declared.problem.Kind.TheVariants.{Exists, Forall}
use Rattle.qc_model.specs.declared.problem.Target.{Target}
use Rattle.qc_model.specs.declared.problem.Target.TheVariants.{Var, Aggregate as Agg}
use Rattle.qc_model.specs.declared.problem.Aggregate.{Aggregate}
use Rattle.qc_model.specs.declared.problem.Condition.{Condition}
use Rattle.qc_model.specs.declared.problem.Scope.{Scope}
use Rattle.qc_model.specs.Content.{Game}
use Rattle.qc_model.specs.Ranges.{range_from}
use Rattle.qc_model.specs.Valid.{IsValid, is_number, is_fold, is_aggregate_of, is_universal, is_target}
use Rattle.qc_model.specs.Optimal.{is_better}
use Rattle.qc_model.specs.Demands.{demands, demands_after, is_better_vector, place_of}
use Rattle.qc_model.specs.Value.{sum_of, fold_of, aggregate_fold}
use Rattle.qc_model.specs.Verdict.{Verdict, lost, exact, at_most, unknown, Seen, seen_barred, seen_skipped, seen_bound, seen_node, is_lost, is_exact, some_node, each_node, exact_vectors, bounds, is_none_of, first_value}
use Rattle.qc_model.specs.ExistsVerdict.{best_from, best_vector, best_number_from, best_number, without_own, beats, some_open, exists_verdict}
use Rattle.qc_model.specs.ForallVerdict.{entry_value, entry_values, numbers_for, known_numbers, is_known, fold_bound, one_sided, first_entry_bound, bounded_forall, forall_verdict, stuck_verdict, goal_verdict}
use Rattle.joins.specs.Columns.{number_at, size_at, IsSmall}
use Rattle.joins.specs.Verdicts.{kind_verdict, scope_verdict, verdict_at, stuck_of}
use Rattle.joins.specs.Joins.{IsLong, LeafFits}
use Rattle.joins.specs.Sizes.{IsWithin, IsSized, nodes_at, marks_at, total_at, HasSizes, AreNumbers}
use Rattle.joins.proofs.Lengths.{plain_cases, bounded_cases, forall_cases}

-- ---- totals
pub nodes_join : (k : ℕ) (xs ys : List Seen) → nodes_at k (xs ++ ys) ≡ nodes_at k xs + nodes_at k ys
nodes_join k [] ys = omega arith
nodes_join k (seen_barred ∷ xs) ys = nodes_join k xs ys
nodes_join k (seen_skipped ∷ xs) ys = nodes_join k xs ys
nodes_join k (seen_bound m ∷ xs) ys = nodes_join k xs ys
nodes_join k (seen_node lost ∷ xs) ys = nodes_join k xs ys
nodes_join k (seen_node (exact w) ∷ xs) ys = let i = nodes_join k xs ys in omega (arith, i)
nodes_join k (seen_node (at_most p) ∷ xs) ys = let i = nodes_join k xs ys in omega (arith, i)
nodes_join k (seen_node unknown ∷ xs) ys = nodes_join k xs ys

pub marks_join : (xs ys : List Seen) → marks_at (xs ++ ys) ≡ max (marks_at xs) (marks_at ys)
marks_join [] ys = omega arith
marks_join (seen_barred ∷ xs) ys = marks_join xs ys
marks_join (seen_skipped ∷ xs) ys = marks_join xs ys
marks_join (seen_bound m ∷ xs) ys = let i = marks_join xs ys in omega (arith, i)
marks_join (seen_node v ∷ xs) ys = marks_join xs ys

pub total_join : (k : ℕ) (xs ys : List Seen) → total_at k (xs ++ ys) ≤ total_at k xs + total_at k ys
total_join k xs ys =
    let n = nodes_join k xs ys in
    let m = marks_join xs ys in
    omega (arith, n, m)

pub sizes_both : (m n : ℕ) (xs ys : List Seen) → HasSizes m xs → HasSizes n ys → HasSizes (m + n) (xs ++ ys)
sizes_both m n xs ys h l k =
    let e = total_join k xs ys in
    let a = h k in
    let b = l k in
    omega (arith, e, a, b)

pub sizes_same : (n : ℕ) (xs : List Seen) (x : Seen) → ((k : ℕ) → total_at k (x ∷ []) ≡ 0) → HasSizes n xs → HasSizes n (xs ++ x ∷ [])
sizes_same n xs x z h k =
    let e = total_join k xs (x ∷ []) in
    let a = h k in
    let b = z k in
    omega (arith, e, a, b)

pub sizes_bound : (n : ℕ) (xs : List Seen) (m : ℤ) → HasSizes n xs → unsigned_abs m ≤ 1000000000 → HasSizes (n + 1) (xs ++ seen_bound m ∷ [])
sizes_bound n xs m h b k =
    let e = total_join k xs (seen_bound m ∷ []) in
    let a = h k in
    omega (arith, e, a, b)

pub node_nodes : (b k : ℕ) (v : Verdict) → IsWithin b v → nodes_at k (seen_node v ∷ []) ≤ b
node_nodes b k lost h = omega arith
node_nodes b k (exact w) h = let a = h k in omega (arith, a)
node_nodes b k (at_most p) h = omega (arith, h)
node_nodes b k unknown h = omega arith

pub sizes_node : (m n : ℕ) (xs : List Seen) (v : Verdict) → HasSizes m xs → IsSized n v → HasSizes (m + n) (xs ++ seen_node v ∷ [])
sizes_node m n xs v h s = sizes_both m n xs (seen_node v ∷ []) h (λ k. let a = node_nodes (n * 1000000000) k v s in omega (arith, a))

first_abs : (b : Bool) (n : ℕ) → cond b n 0 ≤ n
first_abs true n = omega arith
first_abs false n = omega arith

size_nodes : (k : ℕ) (xs : List Seen) → size_at k xs ≤ nodes_at k xs
size_nodes k [] = omega arith
size_nodes k (seen_barred ∷ xs) = size_nodes k xs
size_nodes k (seen_skipped ∷ xs) = size_nodes k xs
size_nodes k (seen_bound m ∷ xs) = size_nodes k xs
size_nodes k (seen_node lost ∷ xs) = size_nodes k xs
size_nodes k (seen_node (exact w) ∷ xs) = let i = size_nodes k xs in omega (arith, i)
size_nodes k (seen_node (at_most p) ∷ xs) =
    let i = size_nodes k xs in
    let f = first_abs (k == 0) (unsigned_abs p) in
    omega (arith, i, f)
size_nodes k (seen_node unknown ∷ xs) = size_nodes k xs

pub sizes_small : (n : ℕ) (xs : List Seen) → HasSizes n xs → n ≤ 4294967296 → IsSmall xs
sizes_small n xs h l k =
    let a = h k in
    let s = size_nodes k xs in
    omega (arith, a, s, l)

pub leaf_fits : (g : Game) (i m n : ℕ) (xs : List Seen) (v : Verdict) → IsLong g (suc i) v → HasSizes m xs → IsSized n v → m + n ≤ 4294967296 → LeafFits g i xs v
leaf_fits g i m n xs v l h s b = record { long = l; small = sizes_small (m + n) (xs ++ seen_node v ∷ []) (sizes_node m n xs v h s) b }

-- ---- absolute values, summed
abbrev abs_sum : List ℤ → ℕ
abs_sum [] = 0
abs_sum (n ∷ ns) = unsigned_abs n + abs_sum ns

abs_plus : (a b : ℤ) → unsigned_abs (a +ℤ b) ≤ unsigned_abs a + unsigned_abs b
abs_plus a b = grind (arith, ints)

sum_within : (ns : List ℤ) → unsigned_abs (sum_of ns) ≤ abs_sum ns
sum_within [] = omega arith
sum_within (n ∷ ns) =
    let i = sum_within ns in
    let a = abs_plus n (sum_of ns) in
    omega (arith, i, a)

choice_within : (c : Bool) (x y : ℤ) (b : ℕ) → unsigned_abs x ≤ b → unsigned_abs y ≤ b → unsigned_abs (cond c x y) ≤ b
choice_within true x y b h k = h
choice_within false x y b h k = k

from_within : (b : ℕ) (n : ℤ) (ns : List ℤ) → unsigned_abs n ≤ b → abs_sum ns ≤ b → unsigned_abs (range_from n ns).from ≤ b
from_within b n [] h s = h
from_within b n (m ∷ ns) h s =
    let r = from_within b m ns (omega (arith, s)) (omega (arith, s)) in
    choice_within (int_lt (range_from m ns).from n) (range_from m ns).from n b r h

to_within : (b : ℕ) (n : ℤ) (ns : List ℤ) → unsigned_abs n ≤ b → abs_sum ns ≤ b → unsigned_abs (range_from n ns).to ≤ b
to_within b n [] h s = h
to_within b n (m ∷ ns) h s =
    let r = to_within b m ns (omega (arith, s)) (omega (arith, s)) in
    choice_within (int_lt (range_from m ns).to n) n (range_from m ns).to b h r

-- ---- folds
number_small : (n : ℤ) → is_number n ≡ true → unsigned_abs n ≤ 1000000000
number_small n e = grind (arith, nat_tests)

fold_within : (b : ℕ) (f : Fold) (ns : List ℤ) → is_fold f ≡ true → 1000000000 ≤ b → abs_sum ns ≤ b → unsigned_abs (fold_of f ns) ≤ b
fold_within b Sum ns e l s = let a = sum_within ns in omega (arith, a, s)
fold_within b (Least d) [] e l s = let a = number_small d e in omega (arith, a, l)
fold_within b (Least d) (n ∷ ns) e l s = from_within b n ns (omega (arith, s)) (omega (arith, s))
fold_within b (Greatest d) [] e l s = let a = number_small d e in omega (arith, a, l)
fold_within b (Greatest d) (n ∷ ns) e l s = to_within b n ns (omega (arith, s)) (omega (arith, s))

all_get : {X : Type 0} (p : X → Bool) (xs : List X) (k : ℕ) (x : X) → list_all p xs ≡ true → slice_get xs k ≡ Some x → p x ≡ true
all_get p [] k x a e = cc
all_get p (y ∷ xs) zero x a e = let q : y ≡ x = cc in ap p (sym q) ∙ (and_parts (p y) (list_all p xs) a).0
all_get p (y ∷ xs) (suc k) x a e = all_get p xs k x (and_parts (p y) (list_all p xs) a).1 e

fold_valid : (g : Game) (k : ℕ) (q : Aggregate) → IsValid g → slice_get g.aggregates k ≡ Some q → is_fold q.fold ≡ true
fold_valid g k q v e =
    let a = all_get (is_aggregate_of g) g.aggregates k q v.aggregates e in
    let b = and_parts (is_universal (slice_get g.scopes q.scope.0) && is_fold q.fold) (is_target g.variables q.target) a in
    (and_parts (is_universal (slice_get g.scopes q.scope.0)) (is_fold q.fold) b.0).1

aggregate_by : (g : Game) (k : ℕ) (o : Option Aggregate) (b : ℕ) (ns : List ℤ) → IsValid g → slice_get g.aggregates k ≡ o → 1000000000 ≤ b → abs_sum ns ≤ b → unsigned_abs (aggregate_fold o ns) ≤ b
aggregate_by g k None b ns v e l s = omega arith
aggregate_by g k (Some q) b ns v e l s = fold_within b q.fold ns (fold_valid g k q v e) l s

aggregate_within : (g : Game) (k b : ℕ) (ns : List ℤ) → IsValid g → 1000000000 ≤ b → abs_sum ns ≤ b → unsigned_abs (aggregate_fold (slice_get g.aggregates k) ns) ≤ b
aggregate_within g k b ns v l s = aggregate_by g k (slice_get g.aggregates k) b ns v refl l s

-- ---- the values of a list
value_within : (a : List ℤ) (k : ℕ) → AreNumbers a → unsigned_abs (number_at k a) ≤ 1000000000
value_within [] k e = omega arith
value_within (x ∷ a) zero e = number_small x (and_parts (is_number x) (list_all is_number a) e).0
value_within (x ∷ a) (suc k) e = value_within a k (and_parts (is_number x) (list_all is_number a) e).1

entry_within : (g : Game) (a : List ℤ) (ns : ℕ → List ℤ) (b : ℕ) (x : Target) → IsValid g → AreNumbers a → 1000000000 ≤ b → ((q : ℕ) → abs_sum (ns q) ≤ b) → unsigned_abs (entry_value g a ns x) ≤ b
entry_within g a ns b (Var x) v e l s = let h = value_within a x.0 e in omega (arith, h, l)
entry_within g a ns b (Agg q) v e l s = aggregate_within g q.0 b (ns q.0) v l (s q.0)

map_within : (f : Condition → ℤ) (d : List Condition) (b k : ℕ) → ((c : Condition) → unsigned_abs (f c) ≤ b) → unsigned_abs (number_at k (map f d)) ≤ b
map_within f [] b k h = omega arith
map_within f (c ∷ d) b zero h = h c
map_within f (c ∷ d) b (suc k) h = map_within f d b k h

entries_within : (g : Game) (d : List Condition) (a : List ℤ) (ns : ℕ → List ℤ) (b : ℕ) → IsValid g → AreNumbers a → 1000000000 ≤ b → ((q : ℕ) → abs_sum (ns q) ≤ b) → IsWithin b (exact (entry_values g d a ns))
entries_within g d a ns b v e l s k = map_within (λ c. entry_value g a ns c.target) d b k (λ c. entry_within g a ns b c.target v e l s)

-- ---- the numbers of leaves
column_nodes : (k : ℕ) (xs : List Seen) → abs_sum (map (λ w. slice_index_or w k (pos 0)) (exact_vectors xs)) ≤ nodes_at k xs
column_nodes k [] = omega arith
column_nodes k (seen_barred ∷ xs) = column_nodes k xs
column_nodes k (seen_skipped ∷ xs) = column_nodes k xs
column_nodes k (seen_bound m ∷ xs) = column_nodes k xs
column_nodes k (seen_node lost ∷ xs) = column_nodes k xs
column_nodes k (seen_node (exact w) ∷ xs) = let i = column_nodes k xs in omega (arith, i)
column_nodes k (seen_node (at_most p) ∷ xs) = let i = column_nodes k xs in omega (arith, i)
column_nodes k (seen_node unknown ∷ xs) = column_nodes k xs

first_is : (w : List ℤ) → unsigned_abs (first_value w) ≡ unsigned_abs (number_at 0 w)
first_is [] = refl
first_is (x ∷ w) = refl

known_nodes : (xs : List Seen) → abs_sum (known_numbers xs) ≤ nodes_at 0 xs
known_nodes [] = omega arith
known_nodes (seen_barred ∷ xs) = known_nodes xs
known_nodes (seen_skipped ∷ xs) = known_nodes xs
known_nodes (seen_bound m ∷ xs) = known_nodes xs
known_nodes (seen_node lost ∷ xs) = known_nodes xs
known_nodes (seen_node (exact w) ∷ xs) =
    let i = known_nodes xs in
    let f = first_is w in
    omega (arith, i, f)
known_nodes (seen_node (at_most p) ∷ xs) = let i = known_nodes xs in omega (arith, i)
known_nodes (seen_node unknown ∷ xs) = known_nodes xs

-- each number is at most b by absolute value
abbrev AreWithin : ℕ → List ℤ → Type 0
AreWithin b [] = ⊤
AreWithin b (n ∷ ns) = (unsigned_abs n ≤ b) × AreWithin b ns

within_join : (b : ℕ) (ns ms : List ℤ) → AreWithin b ns → AreWithin b ms → AreWithin b (ns ++ ms)
within_join b [] ms h k = k
within_join b (n ∷ ns) ms h k = (h.0, within_join b ns ms h.1 k)

firsts_within : (b : ℕ) (xs : List Seen) → nodes_at 0 xs ≤ b → AreWithin b (map first_value (exact_vectors xs))
firsts_within b [] h = tt
firsts_within b (seen_barred ∷ xs) h = firsts_within b xs h
firsts_within b (seen_skipped ∷ xs) h = firsts_within b xs h
firsts_within b (seen_bound m ∷ xs) h = firsts_within b xs h
firsts_within b (seen_node lost ∷ xs) h = firsts_within b xs h
firsts_within b (seen_node (exact w) ∷ xs) h = let f = first_is w in (omega (arith, h, f), firsts_within b xs (omega (arith, h)))
firsts_within b (seen_node (at_most p) ∷ xs) h = firsts_within b xs (omega (arith, h))
firsts_within b (seen_node unknown ∷ xs) h = firsts_within b xs h

bounds_within : (b : ℕ) (xs : List Seen) → marks_at xs ≤ b → nodes_at 0 xs ≤ b → AreWithin b (bounds xs)
bounds_within b [] h l = tt
bounds_within b (seen_barred ∷ xs) h l = bounds_within b xs h l
bounds_within b (seen_skipped ∷ xs) h l = bounds_within b xs h l
bounds_within b (seen_bound m ∷ xs) h l = (omega (arith, h), bounds_within b xs (omega (arith, h)) l)
bounds_within b (seen_node lost ∷ xs) h l = bounds_within b xs h l
bounds_within b (seen_node (exact w) ∷ xs) h l = bounds_within b xs h (omega (arith, l))
bounds_within b (seen_node (at_most p) ∷ xs) h l = (omega (arith, l), bounds_within b xs h (omega (arith, l)))
bounds_within b (seen_node unknown ∷ xs) h l = bounds_within b xs h l

-- ---- a universal scope
side_within : (b : ℕ) (s : Sense) (f : Fold) (n : ℤ) (ns : List ℤ) → is_fold f ≡ true → 1000000000 ≤ b → abs_sum (n ∷ ns) ≤ b → IsWithin b (fold_bound s f n ns)
side_within b Min Sum n ns e l s = tt
side_within b Min (Least d) n ns e l s = tt
side_within b Min (Greatest d) n ns e l s = fold_within b (Greatest d) (n ∷ ns) e l s
side_within b Max Sum n ns e l s = tt
side_within b Max (Least d) n ns e l s = fold_within b (Least d) (n ∷ ns) e l s
side_within b Max (Greatest d) n ns e l s = tt

one_sided_by : (g : Game) (k : ℕ) (o : Option Aggregate) (b : ℕ) (s : Sense) (ns : List ℤ) → IsValid g → slice_get g.aggregates k ≡ o → 1000000000 ≤ b → abs_sum ns ≤ b → IsWithin b (one_sided s o ns)
one_sided_by g k None b s ns v e l h = tt
one_sided_by g k (Some q) b s [] v e l h = tt
one_sided_by g k (Some q) b s (n ∷ ns) v e l h = side_within b s q.fold n ns (fold_valid g k q v e) l h

either_within : (b : ℕ) (c : Bool) (n : ℤ) (v : Verdict) → unsigned_abs n ≤ b → IsWithin b v → IsWithin b (cond c (at_most n) v)
either_within b true n v h k = h
either_within b false n v h k = k

first_within : (g : Game) (b : ℕ) (s : Sense) (x : Target) (xs : List Seen) → IsValid g → 1000000000 ≤ b → total_at 0 xs ≤ b → IsWithin b (first_entry_bound g s x xs)
first_within g b s (Var x) xs v l h = tt
first_within g b s (Agg q) xs v l h =
    let o = slice_get g.aggregates q.0 in
    let t = known_nodes xs in
    let small : abs_sum (known_numbers xs) ≤ b = omega (arith, t, h) in
    either_within b (each_node is_known xs) (aggregate_fold o (known_numbers xs)) (one_sided s o (known_numbers xs))
    (aggregate_within g q.0 b (known_numbers xs) v l small) (one_sided_by g q.0 o b s (known_numbers xs) v refl l small)

bounded_within : (g : Game) (b : ℕ) (d : List Condition) (xs : List Seen) → IsValid g → 1000000000 ≤ b → total_at 0 xs ≤ b → IsWithin b (bounded_forall g d xs)
bounded_within g b [] xs v l h = tt
bounded_within g b (c ∷ d) xs v l h = first_within g b c.sense c.target xs v l h

forall_within : (g : Game) (b : ℕ) (d : List Condition) (a : List ℤ) (xs : List Seen) → IsValid g → AreNumbers a → 1000000000 ≤ b → ((k : ℕ) → total_at k xs ≤ b) → IsWithin b (forall_verdict g d a xs)
forall_within g b d a xs v e l h =
    let ns = numbers_for d (exact_vectors xs) in
    let column = λ (q : ℕ). (
    let t = column_nodes (place_of q d) xs in
    let k = h (place_of q d) in
    let r : abs_sum (ns q) ≤ b = omega (arith, t, k) in
    r) in
    forall_cases (IsWithin b) (some_node is_lost xs) (each_node is_exact xs) (entry_values g d a ns) (bounded_forall g d xs)
    tt (entries_within g d a ns b v e l column) (bounded_within g b d xs v l (h 0))

none_within : (g : Game) (d : List Condition) (a : List ℤ) → IsValid g → AreNumbers a → IsSized 1 (exact (entry_values g d a (numbers_for d [])))
none_within g d a v e = entries_within g d a (numbers_for d []) 1000000000 v e (omega arith) (λ q. omega arith)

-- ---- an existential scope
best_from_within : (k b : ℕ) (d : List Condition) (v : List ℤ) (xs : List Seen) → unsigned_abs (number_at k v) ≤ b → total_at k xs ≤ b → unsigned_abs (number_at k (best_from d v (exact_vectors xs))) ≤ b
best_from_within k b d v [] h t = h
best_from_within k b d v (seen_barred ∷ xs) h t = best_from_within k b d v xs h t
best_from_within k b d v (seen_skipped ∷ xs) h t = best_from_within k b d v xs h t
best_from_within k b d v (seen_bound m ∷ xs) h t = best_from_within k b d v xs h (omega (arith, t))
best_from_within k b d v (seen_node lost ∷ xs) h t = best_from_within k b d v xs h t
best_from_within k b d v (seen_node (exact w) ∷ xs) h t = best_from_within k b d (cond (is_better_vector d w v) w v) xs (one_of (is_better_vector d w v) (omega (arith, t))) (omega (arith, t))
  where
    one_of : (c : Bool) → unsigned_abs (number_at k w) ≤ b → unsigned_abs (number_at k (cond c w v)) ≤ b
    one_of true r = r
    one_of false r = h
best_from_within k b d v (seen_node (at_most p) ∷ xs) h t = best_from_within k b d v xs h (omega (arith, t))
best_from_within k b d v (seen_node unknown ∷ xs) h t = best_from_within k b d v xs h t

best_within : (k b : ℕ) (d : List Condition) (xs : List Seen) → total_at k xs ≤ b → unsigned_abs (number_at k (best_vector d (exact_vectors xs))) ≤ b
best_within k b d [] t = omega arith
best_within k b d (seen_barred ∷ xs) t = best_within k b d xs t
best_within k b d (seen_skipped ∷ xs) t = best_within k b d xs t
best_within k b d (seen_bound m ∷ xs) t = best_within k b d xs (omega (arith, t))
best_within k b d (seen_node lost ∷ xs) t = best_within k b d xs t
best_within k b d (seen_node (exact w) ∷ xs) t = best_from_within k b d w xs (omega (arith, t)) (omega (arith, t))
best_within k b d (seen_node (at_most p) ∷ xs) t = best_within k b d xs (omega (arith, t))
best_within k b d (seen_node unknown ∷ xs) t = best_within k b d xs t

drop_within : (k b : ℕ) (w : List ℤ) → unsigned_abs (number_at (suc k) w) ≤ b → unsigned_abs (number_at k (drop 1 w)) ≤ b
drop_within k b [] h = h
drop_within k b (x ∷ w) h = h

chosen_within : (b : ℕ) (own : Option Condition) (d : List Condition) (xs : List Seen) → ((k : ℕ) → total_at k xs ≤ b) → IsWithin b (exact (without_own own (best_vector d (exact_vectors xs))))
chosen_within b None d xs h k = best_within k b d xs (h k)
chosen_within b (Some c) d xs h k = drop_within k b (best_vector d (exact_vectors xs)) (best_within (suc k) b d xs (h (suc k)))

number_from_within : (s : Sense) (b : ℕ) (n : ℤ) (ns : List ℤ) → unsigned_abs n ≤ b → AreWithin b ns → unsigned_abs (best_number_from s n ns) ≤ b
number_from_within s b n [] h t = h
number_from_within s b n (m ∷ ns) h t = number_from_within s b (cond (is_better s m n) m n) ns (choice_within (is_better s m n) m n b t.0 h) t.1

number_within : (s : Sense) (b : ℕ) (ns : List ℤ) → AreWithin b ns → unsigned_abs (best_number s ns) ≤ b
number_within s b [] t = omega arith
number_within s b (n ∷ ns) t = number_from_within s b n ns t.0 t.1

exists_within : (b : ℕ) (own : Option Condition) (d : List Condition) (xs : List Seen) → ((k : ℕ) → total_at k xs ≤ b) → IsWithin b (exists_verdict own d xs)
exists_within b own [] xs h = plain_cases (IsWithin b) (some_node is_exact xs) (each_node is_lost xs) tt tt (λ k. omega arith)
exists_within b own (c ∷ d) xs h =
    let vs = exact_vectors xs in
    let bs = bounds xs in
    let w = best_vector (c ∷ d) vs in
    let z = h 0 in
    let all = within_join b (map first_value vs) bs (firsts_within b xs (omega (arith, z))) (bounds_within b xs (omega (arith, z)) (omega (arith, z))) in
    bounded_cases (IsWithin b) (each_node is_lost xs && is_none_of bs) (some_open xs) (is_none_of vs) (list_all (beats c.sense (is_none_of d) (first_value w)) bs) (is_none own) (without_own own w)
    (best_number c.sense (map first_value vs ++ bs)) tt tt (λ e. chosen_within b own (c ∷ d) xs h) (number_within c.sense b (map first_value vs ++ bs) all)

-- ---- what a scope or the goal comes to
kind_within : (k : Kind) (own : Option Condition) (g : Game) (b : ℕ) (d : List Condition) (a : List ℤ) (xs : List Seen) → IsValid g → AreNumbers a → 1000000000 ≤ b → ((j : ℕ) → total_at j xs ≤ b) → IsWithin b (kind_verdict k own g d a xs)
kind_within Exists own g b d a xs v e l h = exists_within b own (demands_after g Exists own d) xs h
kind_within Forall own g b d a xs v e l h = forall_within g b d a xs v e l h

scope_within : (scopes : List Scope) (g : Game) (b : ℕ) (d : List Condition) (a : List ℤ) (xs : List Seen) → IsValid g → AreNumbers a → 1000000000 ≤ b → ((j : ℕ) → total_at j xs ≤ b) → IsWithin b (scope_verdict scopes g d a xs)
scope_within [] g b d a xs v e l h = tt
scope_within (s ∷ scopes) g b d a xs v e l h = kind_within s.kind s.condition g b d a xs v e l h

pub verdict_sized : (g : Game) (i : ℕ) (a : List ℤ) (xs : List Seen) (n : ℕ) → IsValid g → AreNumbers a → HasSizes n xs → 1 ≤ n → IsSized n (verdict_at g i a xs)
verdict_sized g i a xs n v e h l = scope_within (drop i g.scopes) g (n * 1000000000) (demands g i) a xs v e (omega (arith, l)) h

stuck_kind : (g : Game) (k : Kind) (d : List Condition) (a : List ℤ) → IsValid g → AreNumbers a → IsSized 1 (stuck_verdict g k d a)
stuck_kind g Exists d a v e = tt
stuck_kind g Forall d a v e = none_within g d a v e

pub stuck_sized : (scopes : List Scope) (g : Game) (d : List Condition) (a : List ℤ) → IsValid g → AreNumbers a → IsSized 1 (stuck_of scopes g d a)
stuck_sized [] g d a v e = tt
stuck_sized (s ∷ scopes) g d a v e = stuck_kind g s.kind d a v e

pub goal_sized : (g : Game) (holds : Bool) (d : List Condition) (a : List ℤ) → IsValid g → AreNumbers a → IsSized 1 (goal_verdict g holds d a)
goal_sized g true d a v e = none_within g d a v e
goal_sized g false d a v e = tt
