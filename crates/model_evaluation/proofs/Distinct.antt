-- Values that differ from each other, in any order, and in ascending order.
use Rattle.std.proofs.Common.{◌≡◌, ℕ, zero, suc, ◌+◌, ◌<◌, ◌≤◌, Bool, true, false, not, cond, List, [], ◌∷◌, length, get_or, refl, ap, sym, subst, ◌∙◌, arith, add-one, ℤ}
use Rattle.std.specs.Prelude.{pos, ◌<ℤ◌, int_lt, count_by}
use Rattle.std.specs.List.{list_any}
use Rattle.std.specs.List.Sorted.{IsPermutation, IsSorted}
use Rattle.std.specs.Ordering.{int_eq, int_cmp, is_lt, MatchOrdering}
use Rattle.std.specs.declared.cmp.Ordering.{Ordering}
use Rattle.std.specs.declared.cmp.Ordering.TheVariants.{Less, Equal, Greater}
use Rattle.std.proofs.lemmas.Int.{ints}
use Rattle.std.proofs.lemmas.Cmp.{int_ranked}
use Rattle.std.proofs.lemmas.Bool.Decides.{Decides-int_eq}
use Rattle.std.proofs.lemmas.List.Sums.{sum_by-cons}
use Rattle.std.proofs.lemmas.List.Sorted.{sum_by-IsPermutation}
use Rattle.std.proofs.lemmas.Bool.{or_parts, or_from, not_from_false, and_from}
use Rattle.qc_model.specs.Domains.{is_ascending}
use Rattle.qc_model.specs.Holds.{all_differ}
use Rattle.qc_model.proofs.Conjunctions.{first, second}
use Rattle.qc_model.proofs.Places.{differ_up}

abbrev count_of : Bool → ℕ
count_of b = cond b 1 0

-- how often a list has the value
times_in : ℤ → List ℤ → ℕ
times_in v xs = count_by (int_eq v) xs

one_more : (v x : ℤ) (xs : List ℤ) → times_in v (x ∷ xs) ≡ count_of (int_eq v x) + times_in v xs
unfolding times_in
one_more v x xs = sum_by-cons (λ y. cond (int_eq v y) 1 0) x xs

none_in : (v : ℤ) → times_in v [] ≡ 0
unfolding times_in
none_in v = refl

same_times : (xs ys : List ℤ) (v : ℤ) → IsPermutation xs ys → times_in v ys ≡ times_in v xs
unfolding times_in
same_times xs ys v h = sum_by-IsPermutation (λ y. cond (int_eq v y) 1 0) xs ys h

not_true : (a : Bool) → not a ≡ true → a ≡ false
not_true true h = cc
not_true false h = refl

absent : (v : ℤ) (xs : List ℤ) → list_any (int_eq v) xs ≡ false → times_in v xs ≡ 0
absent v [] h = none_in v
absent v (x ∷ xs) h =
    let parts = or_parts (int_eq v x) (list_any (int_eq v) xs) h in
    let here = ap count_of parts.0 in
    let rest = absent v xs parts.1 in
    let more = one_more v x xs in
    omega (arith, here, rest, more)

present : (v : ℤ) (xs : List ℤ) → times_in v xs ≡ 0 → list_any (int_eq v) xs ≡ false
present v [] h = refl
present v (x ∷ xs) h = go (int_eq v x) refl (present v xs)
  where
    go : (b : Bool) → int_eq v x ≡ b → (times_in v xs ≡ 0 → list_any (int_eq v) xs ≡ false) → list_any (int_eq v) (x ∷ xs) ≡ false
    go true e later = let here = ap count_of e in let more = one_more v x xs in absurd (omega (arith, here, more, h))
    go false e later =
        let here = ap count_of e in
        let more = one_more v x xs in
        or_from (int_eq v x) (list_any (int_eq v) xs) e (later (omega (arith, here, more, h)))

once_each : (xs : List ℤ) → all_differ xs ≡ true → (v : ℤ) → times_in v xs ≤ 1
once_each [] h v = let e = none_in v in omega (arith, e)
once_each (x ∷ xs) h v = go (int_eq v x) refl (once_each xs (second (not (list_any (int_eq x) xs)) (all_differ xs) h) v)
  where
    go : (b : Bool) → int_eq v x ≡ b → times_in v xs ≤ 1 → times_in v (x ∷ xs) ≤ 1
    go true e later =
        let here = ap count_of e in
        let more = one_more v x xs in
        let gone = not_true (list_any (int_eq x) xs) (first (not (list_any (int_eq x) xs)) (all_differ xs) h) in
        let rest = absent v xs (subst (λ y. list_any (int_eq y) xs ≡ false) (sym ((Decides-int_eq v x).0 e)) gone) in
        omega (arith, here, more, rest)
    go false e later =
        let here = ap count_of e in
        let more = one_more v x xs in
        omega (arith, here, more, later)

differ_if_once : (xs : List ℤ) → ((v : ℤ) → times_in v xs ≤ 1) → all_differ xs ≡ true
differ_if_once [] h = refl
differ_if_once (x ∷ xs) h =
    let here = ap count_of ((Decides-int_eq x x).1 refl) in
    let more = one_more x x xs in
    let once = h x in
    and_from (not (list_any (int_eq x) xs)) (all_differ xs)
    (not_from_false (list_any (int_eq x) xs) (present x xs (omega (arith, here, more, once))))
    (differ_if_once xs (λ v. let m = one_more v x xs in let k = h v in omega (arith, m, k)))

one_truth : (a b : Bool) → (a ≡ true → b ≡ true) → (b ≡ true → a ≡ true) → a ≡ b
one_truth true b f g = sym (f refl)
one_truth false true f g = g refl
one_truth false false f g = refl

pub differ_permuted : (xs ys : List ℤ) → IsPermutation xs ys → all_differ ys ≡ all_differ xs
differ_permuted xs ys h =
    one_truth (all_differ ys) (all_differ xs)
    (λ e. differ_if_once xs (λ v. let k = once_each ys e v in let m = same_times xs ys v h in omega (arith, k, m)))
    (λ e. differ_if_once ys (λ v. let k = once_each xs e v in let m = same_times xs ys v h in omega (arith, k, m)))

less : (a b : ℤ) → int_lt a b ≡ true → a <ℤ b
less a b h = grind (arith, ints)

above : (z x : ℤ) (xs : List ℤ) → z <ℤ x → is_ascending (x ∷ xs) ≡ true → list_any (int_eq z) (x ∷ xs) ≡ false
above z x [] l h = or_from (int_eq z x) false (differ_up z x l) refl
above z x (y ∷ ys) l h =
    let up = less x y (first (int_lt x y) (is_ascending (y ∷ ys)) h) in
    or_from (int_eq z x) (list_any (int_eq z) (y ∷ ys)) (differ_up z x l)
    (above z y ys (omega (arith, ints, up, l)) (second (int_lt x y) (is_ascending (y ∷ ys)) h))

ascending_differ : (xs : List ℤ) → is_ascending xs ≡ true → all_differ xs ≡ true
ascending_differ [] h = refl
ascending_differ (x ∷ []) h = refl
ascending_differ (x ∷ y ∷ ys) h =
    let up = first (int_lt x y) (is_ascending (y ∷ ys)) h in
    let rest = second (int_lt x y) (is_ascending (y ∷ ys)) h in
    and_from (not (list_any (int_eq x) (y ∷ ys))) (all_differ (y ∷ ys))
    (not_from_false (list_any (int_eq x) (y ∷ ys)) (above x y ys (less x y up) rest))
    (ascending_differ (y ∷ ys) rest)

-- no value is above the next
abbrev NeverFalls : List ℤ → Type 0
NeverFalls xs = (k : ℕ) → suc k < length xs → is_lt (int_cmp (get_or xs (suc k) (pos 0)) (get_or xs k (pos 0))) ≡ false

rises : (x y : ℤ) → is_lt (int_cmp y x) ≡ false → int_eq x y ≡ false → int_lt x y ≡ true
rises x y h ne = go (int_cmp y x) (int_ranked y x (int_cmp y x) refl) h
  where
    go : (o : Ordering) → MatchOrdering o (y <ℤ x) (y ≡ x) (x <ℤ y) → is_lt o ≡ false → int_lt x y ≡ true
    go Less q k = cc
    go Equal q k = let e = (Decides-int_eq x y).1 (sym q) in cc
    go Greater q k = grind (arith, ints, q)

differ_ascending : (xs : List ℤ) → NeverFalls xs → all_differ xs ≡ true → is_ascending xs ≡ true
differ_ascending [] up h = refl
differ_ascending (x ∷ []) up h = refl
differ_ascending (x ∷ y ∷ ys) up h =
    let gone = not_true (list_any (int_eq x) (y ∷ ys)) (first (not (list_any (int_eq x) (y ∷ ys))) (all_differ (y ∷ ys)) h) in
    let apart = or_parts (int_eq x y) (list_any (int_eq x) ys) gone in
    and_from (int_lt x y) (is_ascending (y ∷ ys))
    (rises x y (up zero (omega arith)) apart.0)
    (differ_ascending (y ∷ ys) (λ k l. up (suc k) (omega arith)) (second (not (list_any (int_eq x) (y ∷ ys))) (all_differ (y ∷ ys)) h))

never_falls : (xs : List ℤ) → IsSorted int_cmp xs → NeverFalls xs
never_falls xs h k l = subst (λ n. is_lt (int_cmp (get_or xs n (pos 0)) (get_or xs k (pos 0))) ≡ false) (add-one k) (h k (pos 0) (omega arith) (omega arith))

-- the sorted values ascend exactly where the values differ
pub differ_sorted : (xs ys : List ℤ) → IsPermutation xs ys → IsSorted int_cmp ys → is_ascending ys ≡ all_differ xs
differ_sorted xs ys moved up =
    one_truth (is_ascending ys) (all_differ ys) (ascending_differ ys) (differ_ascending ys (never_falls ys up))
    ∙ differ_permuted xs ys moved
