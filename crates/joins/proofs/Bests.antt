-- What an existential join keeps, as leaves are added, and the verdict that it gives.
use Rattle.std.proofs.Common.{◌≡◌, Bool, true, false, not, ◌&&◌, ◌||◌, cond, Option, Some, List, [], ◌∷◌, ◌++◌, length, refl, sym, ap, ◌∙◌, subst}
use Rattle.std.specs.Prelude.{ℤ}
use Rattle.qc_model.specs.declared.problem.Sense.{Sense}
use Rattle.qc_model.specs.declared.problem.Condition.{Condition}
use Rattle.qc_model.specs.Optimal.{is_better}
use Rattle.qc_model.specs.Demands.{is_better_vector}
use Rattle.qc_model.specs.Verdict.{Verdict, lost, exact, at_most, unknown, Seen, seen_barred, seen_skipped, seen_bound, seen_node, is_lost, is_exact, is_unknown, some_node, each_node, exact_vectors, bounds, is_none_of}
use Rattle.qc_model.specs.ExistsVerdict.{best_from, best_vector, best_number_from, some_open}
use Rattle.joins.specs.Bests.{best_bound, AllLong, better_of, bound_in, kept_vector}
use Rattle.joins.specs.ExistsJoin.{Keeps}

or_assoc : (a b c : Bool) → ((a || b) || c) ≡ (a || (b || c))
or_assoc true b c = refl
or_assoc false b c = refl

and_assoc : (a b c : Bool) → ((a && b) && c) ≡ (a && (b && c))
and_assoc true b c = refl
and_assoc false b c = refl

pub each_join : (p : Verdict → Bool) (xs ys : List Seen) → each_node p (xs ++ ys) ≡ (each_node p xs && each_node p ys)
each_join p [] ys = refl
each_join p (seen_barred ∷ xs) ys = each_join p xs ys
each_join p (seen_skipped ∷ xs) ys = refl
each_join p (seen_bound m ∷ xs) ys = each_join p xs ys
each_join p (seen_node v ∷ xs) ys = ap (λ b. p v && b) (each_join p xs ys) ∙ sym (and_assoc (p v) (each_node p xs) (each_node p ys))

pub some_join : (p : Verdict → Bool) (xs ys : List Seen) → some_node p (xs ++ ys) ≡ (some_node p xs || some_node p ys)
some_join p [] ys = refl
some_join p (seen_barred ∷ xs) ys = some_join p xs ys
some_join p (seen_skipped ∷ xs) ys = some_join p xs ys
some_join p (seen_bound m ∷ xs) ys = some_join p xs ys
some_join p (seen_node v ∷ xs) ys = ap (λ b. p v || b) (some_join p xs ys) ∙ sym (or_assoc (p v) (some_node p xs) (some_node p ys))

open_join : (xs ys : List Seen) → some_open (xs ++ ys) ≡ (some_open xs || some_open ys)
open_join [] ys = refl
open_join (seen_barred ∷ xs) ys = open_join xs ys
open_join (seen_skipped ∷ xs) ys = refl
open_join (seen_bound m ∷ xs) ys = open_join xs ys
open_join (seen_node v ∷ xs) ys = ap (λ b. is_unknown v || b) (open_join xs ys) ∙ sym (or_assoc (is_unknown v) (some_open xs) (some_open ys))

pub vectors_join : (xs ys : List Seen) → exact_vectors (xs ++ ys) ≡ exact_vectors xs ++ exact_vectors ys
vectors_join [] ys = refl
vectors_join (seen_barred ∷ xs) ys = vectors_join xs ys
vectors_join (seen_skipped ∷ xs) ys = vectors_join xs ys
vectors_join (seen_bound m ∷ xs) ys = vectors_join xs ys
vectors_join (seen_node lost ∷ xs) ys = vectors_join xs ys
vectors_join (seen_node (exact v) ∷ xs) ys = ap (λ vs. v ∷ vs) (vectors_join xs ys)
vectors_join (seen_node (at_most p) ∷ xs) ys = vectors_join xs ys
vectors_join (seen_node unknown ∷ xs) ys = vectors_join xs ys

bounds_join : (xs ys : List Seen) → bounds (xs ++ ys) ≡ bounds xs ++ bounds ys
bounds_join [] ys = refl
bounds_join (seen_barred ∷ xs) ys = bounds_join xs ys
bounds_join (seen_skipped ∷ xs) ys = bounds_join xs ys
bounds_join (seen_bound m ∷ xs) ys = ap (λ ms. m ∷ ms) (bounds_join xs ys)
bounds_join (seen_node lost ∷ xs) ys = bounds_join xs ys
bounds_join (seen_node (exact v) ∷ xs) ys = bounds_join xs ys
bounds_join (seen_node (at_most p) ∷ xs) ys = ap (λ ms. p ∷ ms) (bounds_join xs ys)
bounds_join (seen_node unknown ∷ xs) ys = bounds_join xs ys

-- one vector more, and one number more
best_more : (d : List Condition) (u : List ℤ) (vs : List (List ℤ)) (w : List ℤ) → best_from d u (vs ++ w ∷ []) ≡ cond (is_better_vector d w (best_from d u vs)) w (best_from d u vs)
best_more d u [] w = refl
best_more d u (v ∷ vs) w = best_more d (cond (is_better_vector d v u) v u) vs w

number_more : (s : Sense) (n : ℤ) (ms : List ℤ) (k : ℤ) → best_number_from s n (ms ++ k ∷ []) ≡ better_of s (best_number_from s n ms) k
number_more s n [] k = refl
number_more s n (m ∷ ms) k = number_more s (cond (is_better s m n) m n) ms k

-- some leaf is exact where there is a vector
pub some_exact_is : (xs : List Seen) → some_node is_exact xs ≡ not (is_none_of (exact_vectors xs))
some_exact_is [] = refl
some_exact_is (seen_barred ∷ xs) = some_exact_is xs
some_exact_is (seen_skipped ∷ xs) = some_exact_is xs
some_exact_is (seen_bound m ∷ xs) = some_exact_is xs
some_exact_is (seen_node lost ∷ xs) = some_exact_is xs
some_exact_is (seen_node (exact v) ∷ xs) = refl
some_exact_is (seen_node (at_most p) ∷ xs) = some_exact_is xs
some_exact_is (seen_node unknown ∷ xs) = some_exact_is xs

best_vector_more : (d : List Condition) (vs : List (List ℤ)) (w : List ℤ) → best_vector d (vs ++ w ∷ []) ≡ kept_vector d (not (is_none_of vs)) (best_vector d vs) w
best_vector_more d [] w = refl
best_vector_more d (v ∷ vs) w = best_more d v vs w

long_more : (d : List Condition) (vs : List (List ℤ)) (w : List ℤ) → AllLong d vs → length w ≡ length d → AllLong d (vs ++ w ∷ [])
long_more d [] w l e = (e, tt)
long_more d (v ∷ vs) w l e = (l.0, long_more d vs w l.1 e)

bound_more : (d : List Condition) (ms : List ℤ) (n : ℤ) → best_bound d (ms ++ n ∷ []) ≡ bound_in d (best_bound d ms) n
bound_more [] ms n = refl
bound_more (c ∷ d) [] n = refl
bound_more (c ∷ d) (m ∷ ms) n = ap Some (number_more c.sense m ms n)

pub append_nothing : {X : Type 0} (xs : List X) → xs ++ [] ≡ xs
append_nothing [] = refl
append_nothing (x ∷ xs) = ap (λ ys. x ∷ ys) (append_nothing xs)

pub and_true : (b : Bool) → b ≡ (b && true)
and_true true = refl
and_true false = refl

pub and_false : (b : Bool) → false ≡ (b && false)
and_false true = refl
and_false false = refl

pub or_false : (b : Bool) → b ≡ (b || false)
or_false true = refl
or_false false = refl

pub or_true : (b : Bool) → true ≡ (b || true)
or_true true = refl
or_true false = refl

pub keeps_barred : (d : List Condition) (l o h : Bool) (v : List ℤ) (b : Option ℤ) (xs : List Seen) → Keeps d l o h v b xs → Keeps d l o h v b (xs ++ seen_barred ∷ [])
keeps_barred d l o h v b xs k = record {
  all_lost_is = k.all_lost_is ∙ and_true (each_node is_lost xs) ∙ sym (each_join is_lost xs (seen_barred ∷ []));
  is_open_is = k.is_open_is ∙ or_false (some_open xs) ∙ sym (open_join xs (seen_barred ∷ []));
  has_exact_is = k.has_exact_is ∙ or_false (some_node is_exact xs) ∙ sym (some_join is_exact xs (seen_barred ∷ []));
  long = subst (λ (vs : List (List ℤ)). AllLong d vs) (sym (vectors_join xs (seen_barred ∷ []) ∙ append_nothing (exact_vectors xs))) k.long;
  best_is = k.best_is ∙ ap (best_vector d) (sym (vectors_join xs (seen_barred ∷ []) ∙ append_nothing (exact_vectors xs)));
  bound_is = k.bound_is ∙ ap (best_bound d) (sym (bounds_join xs (seen_barred ∷ []) ∙ append_nothing (bounds xs)));
}

pub keeps_lost : (d : List Condition) (l o h : Bool) (v : List ℤ) (b : Option ℤ) (xs : List Seen) → Keeps d l o h v b xs → Keeps d l o h v b (xs ++ seen_node lost ∷ [])
keeps_lost d l o h v b xs k = record {
  all_lost_is = k.all_lost_is ∙ and_true (each_node is_lost xs) ∙ sym (each_join is_lost xs (seen_node lost ∷ []));
  is_open_is = k.is_open_is ∙ or_false (some_open xs) ∙ sym (open_join xs (seen_node lost ∷ []));
  has_exact_is = k.has_exact_is ∙ or_false (some_node is_exact xs) ∙ sym (some_join is_exact xs (seen_node lost ∷ []));
  long = subst (λ (vs : List (List ℤ)). AllLong d vs) (sym (vectors_join xs (seen_node lost ∷ []) ∙ append_nothing (exact_vectors xs))) k.long;
  best_is = k.best_is ∙ ap (best_vector d) (sym (vectors_join xs (seen_node lost ∷ []) ∙ append_nothing (exact_vectors xs)));
  bound_is = k.bound_is ∙ ap (best_bound d) (sym (bounds_join xs (seen_node lost ∷ []) ∙ append_nothing (bounds xs)));
}

pub keeps_skipped : (d : List Condition) (l o h : Bool) (v : List ℤ) (b : Option ℤ) (xs : List Seen) → Keeps d l o h v b xs → Keeps d false true h v b (xs ++ seen_skipped ∷ [])
keeps_skipped d l o h v b xs k = record {
  all_lost_is = and_false (each_node is_lost xs) ∙ sym (each_join is_lost xs (seen_skipped ∷ []));
  is_open_is = or_true (some_open xs) ∙ sym (open_join xs (seen_skipped ∷ []));
  has_exact_is = k.has_exact_is ∙ or_false (some_node is_exact xs) ∙ sym (some_join is_exact xs (seen_skipped ∷ []));
  long = subst (λ (vs : List (List ℤ)). AllLong d vs) (sym (vectors_join xs (seen_skipped ∷ []) ∙ append_nothing (exact_vectors xs))) k.long;
  best_is = k.best_is ∙ ap (best_vector d) (sym (vectors_join xs (seen_skipped ∷ []) ∙ append_nothing (exact_vectors xs)));
  bound_is = k.bound_is ∙ ap (best_bound d) (sym (bounds_join xs (seen_skipped ∷ []) ∙ append_nothing (bounds xs)));
}

pub keeps_unknown : (d : List Condition) (l o h : Bool) (v : List ℤ) (b : Option ℤ) (xs : List Seen) → Keeps d l o h v b xs → Keeps d false true h v b (xs ++ seen_node unknown ∷ [])
keeps_unknown d l o h v b xs k = record {
  all_lost_is = and_false (each_node is_lost xs) ∙ sym (each_join is_lost xs (seen_node unknown ∷ []));
  is_open_is = or_true (some_open xs) ∙ sym (open_join xs (seen_node unknown ∷ []));
  has_exact_is = k.has_exact_is ∙ or_false (some_node is_exact xs) ∙ sym (some_join is_exact xs (seen_node unknown ∷ []));
  long = subst (λ (vs : List (List ℤ)). AllLong d vs) (sym (vectors_join xs (seen_node unknown ∷ []) ∙ append_nothing (exact_vectors xs))) k.long;
  best_is = k.best_is ∙ ap (best_vector d) (sym (vectors_join xs (seen_node unknown ∷ []) ∙ append_nothing (exact_vectors xs)));
  bound_is = k.bound_is ∙ ap (best_bound d) (sym (bounds_join xs (seen_node unknown ∷ []) ∙ append_nothing (bounds xs)));
}

pub keeps_at_most : (d : List Condition) (l o h : Bool) (v : List ℤ) (b : Option ℤ) (xs : List Seen) (n : ℤ) → Keeps d l o h v b xs → Keeps d false o h v (bound_in d b n) (xs ++ seen_node (at_most n) ∷ [])
keeps_at_most d l o h v b xs n k = record {
  all_lost_is = and_false (each_node is_lost xs) ∙ sym (each_join is_lost xs (seen_node (at_most n) ∷ []));
  is_open_is = k.is_open_is ∙ or_false (some_open xs) ∙ sym (open_join xs (seen_node (at_most n) ∷ []));
  has_exact_is = k.has_exact_is ∙ or_false (some_node is_exact xs) ∙ sym (some_join is_exact xs (seen_node (at_most n) ∷ []));
  long = subst (λ (vs : List (List ℤ)). AllLong d vs) (sym (vectors_join xs (seen_node (at_most n) ∷ []) ∙ append_nothing (exact_vectors xs))) k.long;
  best_is = k.best_is ∙ ap (best_vector d) (sym (vectors_join xs (seen_node (at_most n) ∷ []) ∙ append_nothing (exact_vectors xs)));
  bound_is = ap (λ (a : Option ℤ). bound_in d a n) k.bound_is ∙ sym (bound_more d (bounds xs) n) ∙ ap (best_bound d) (sym (bounds_join xs (seen_node (at_most n) ∷ [])));
}

pub keeps_bound : (d : List Condition) (l o h : Bool) (v : List ℤ) (b : Option ℤ) (xs : List Seen) (n : ℤ) → Keeps d l o h v b xs → Keeps d l o h v (bound_in d b n) (xs ++ seen_bound n ∷ [])
keeps_bound d l o h v b xs n k = record {
  all_lost_is = k.all_lost_is ∙ and_true (each_node is_lost xs) ∙ sym (each_join is_lost xs (seen_bound n ∷ []));
  is_open_is = k.is_open_is ∙ or_false (some_open xs) ∙ sym (open_join xs (seen_bound n ∷ []));
  has_exact_is = k.has_exact_is ∙ or_false (some_node is_exact xs) ∙ sym (some_join is_exact xs (seen_bound n ∷ []));
  long = subst (λ (vs : List (List ℤ)). AllLong d vs) (sym (vectors_join xs (seen_bound n ∷ []) ∙ append_nothing (exact_vectors xs))) k.long;
  best_is = k.best_is ∙ ap (best_vector d) (sym (vectors_join xs (seen_bound n ∷ []) ∙ append_nothing (exact_vectors xs)));
  bound_is = ap (λ (a : Option ℤ). bound_in d a n) k.bound_is ∙ sym (bound_more d (bounds xs) n) ∙ ap (best_bound d) (sym (bounds_join xs (seen_bound n ∷ [])));
}

pub keeps_exact : (d : List Condition) (l o h : Bool) (v : List ℤ) (b : Option ℤ) (xs : List Seen) (w : List ℤ) → length w ≡ length d → Keeps d l o h v b xs → Keeps d false o true (kept_vector d h v w) b (xs ++ seen_node (exact w) ∷ [])
keeps_exact d l o h v b xs w e k = record {
  all_lost_is = and_false (each_node is_lost xs) ∙ sym (each_join is_lost xs (seen_node (exact w) ∷ []));
  is_open_is = k.is_open_is ∙ or_false (some_open xs) ∙ sym (open_join xs (seen_node (exact w) ∷ []));
  has_exact_is = or_true (some_node is_exact xs) ∙ sym (some_join is_exact xs (seen_node (exact w) ∷ []));
  long = subst (λ (vs : List (List ℤ)). AllLong d vs) (sym (vectors_join xs (seen_node (exact w) ∷ []))) (long_more d (exact_vectors xs) w k.long e);
  best_is = ap (λ (u : List ℤ). kept_vector d h u w) k.best_is ∙ ap (λ (a : Bool). kept_vector d a (best_vector d (exact_vectors xs)) w) (k.has_exact_is ∙ some_exact_is xs) ∙ sym (best_vector_more d (exact_vectors xs) w) ∙ ap (best_vector d) (sym (vectors_join xs (seen_node (exact w) ∷ [])));
  bound_is = k.bound_is ∙ ap (best_bound d) (sym (bounds_join xs (seen_node (exact w) ∷ []) ∙ append_nothing (bounds xs)));
}
