-- Lists of numbers that ascend: each is known by its members.
use Rattle.std.proofs.Common.{◌≡◌, ◌∙◌, sym, ap, refl, Bool, true, false, ◌&&◌, ◌||◌, cond, ◌<◌, ◌≤◌, ◌+◌, ◌-◌, ℕ, List, [], ◌∷◌, length, get_or, arith, ℤ, Less, Some, None}
use Rattle.std.specs.Prelude.{int_lt, ◌-ℤ◌, nat_abs, Option}
use Rattle.std.specs.List.{dedup}
use Rattle.std.specs.Ordering.{int_eq, int_cmp}
use Rattle.std.specs.List.Sorted.{IsStrictlySortedBy, IsSorted, IsPermutation}
use Rattle.std.proofs.lemmas.Int.{ints}
use Rattle.std.proofs.lemmas.Bool.{ltb-true, lt-ltb, and_parts, false_from_ne_true, and_from}
use Rattle.std.proofs.lemmas.Bool.Decides.{Decides-int_eq}
use Rattle.std.proofs.lemmas.Cmp.{int_cmp_total}
use Rattle.std.proofs.lemmas.List.Sorted.{list_any-IsPermutation}
use Rattle.std.proofs.lemmas.List.Kept.{IsStrictlySortedBy-dedup}
use Rattle.qc_model.specs.Domains.{is_ascending, has_value, least_value, greatest_value}
use Rattle.qc_model.specs.Valid.{has_gap, width_of}
use Rattle.qc_model.proofs.Widths.{least_is_first, greatest_is_last}
use Rattle.text_resolve.specs.Draft.{with_number, ascending}

equal : (n m : ℤ) → int_eq n m ≡ true → n ≡ m
equal n m e = (Decides-int_eq n m).0 e

self_equal : (n : ℤ) → int_eq n n ≡ true
self_equal n = (Decides-int_eq n n).1 refl

-- which numbers a list has with one more
has_with : (n m : ℤ) (ms : List ℤ) → has_value (with_number m ms) n ≡ (int_eq n m || has_value ms n)
has_with n m [] = refl
has_with n m (k ∷ ms) = go (int_lt m k) (int_eq m k) (equal m k) (has_with n m ms)
  where
    swapped : (a b c : Bool) → (a || (b || c)) ≡ (b || (a || c))
    swapped true true c = refl
    swapped true false c = refl
    swapped false b c = refl

    twice : (a c : Bool) → (a || c) ≡ (a || (a || c))
    twice true c = refl
    twice false c = refl

    go : (less same : Bool) → (same ≡ true → m ≡ k) → has_value (with_number m ms) n ≡ (int_eq n m || has_value ms n) →
        has_value (cond less (m ∷ k ∷ ms) (cond same (k ∷ ms) (k ∷ with_number m ms))) n ≡ (int_eq n m || (int_eq n k || has_value ms n))
    go true same e h = refl
    go false true e h =
        ap (λ x. int_eq n x || has_value ms n) (sym (e refl)) ∙ twice (int_eq n m) (has_value ms n) ∙ ap (λ x. int_eq n m || (int_eq n x || has_value ms n)) (e refl)
    go false false e h = ap (λ x. int_eq n k || x) h ∙ swapped (int_eq n k) (int_eq n m) (has_value ms n)

ascending_has : (n : ℤ) (ns : List ℤ) → has_value (ascending ns) n ≡ has_value ns n
ascending_has n [] = refl
ascending_has n (m ∷ ns) = has_with n m (ascending ns) ∙ ap (λ x. int_eq n m || x) (ascending_has n ns)

above : (n m : ℤ) → int_lt n m ≡ false → int_eq n m ≡ false → int_lt m n ≡ true
above n m p q = elim_above (int_lt m n) refl
  where
    elim_above : (b : Bool) → int_lt m n ≡ b → int_lt m n ≡ true
    elim_above true e = e
    elim_above false e = let same : n ≡ m = omega (arith, ints) in absurd (differ ((sym ((Decides-int_eq n m).1 same)) ∙ q))
      where
        differ : true ≡ false → ⊥
        differ h = cc

-- with one more number above the first, the list after the first ascends from it
with_above : (k m : ℤ) (ms : List ℤ) → int_lt k m ≡ true → is_ascending (k ∷ ms) ≡ true → is_ascending (with_number m ms) ≡ true → is_ascending (k ∷ with_number m ms) ≡ true
with_above k m [] lt h up = and_from (int_lt k m) true lt refl
with_above k m (j ∷ ms) lt h up = go (int_lt m j) (int_eq m j) up
  where
    go : (less same : Bool) → is_ascending (cond less (m ∷ j ∷ ms) (cond same (j ∷ ms) (j ∷ with_number m ms))) ≡ true →
        is_ascending (k ∷ cond less (m ∷ j ∷ ms) (cond same (j ∷ ms) (j ∷ with_number m ms))) ≡ true
    go true same u = and_from (int_lt k m) _ lt u
    go false true u = h
    go false false u = and_from (int_lt k j) _ (and_parts (int_lt k j) _ h).0 u

rest_rises : (k : ℤ) (ms : List ℤ) → is_ascending (k ∷ ms) ≡ true → is_ascending ms ≡ true
rest_rises k [] h = refl
rest_rises k (j ∷ ms) h = (and_parts (int_lt k j) _ h).1

with_rises : (m : ℤ) (ms : List ℤ) → is_ascending ms ≡ true → is_ascending (with_number m ms) ≡ true
with_rises m [] h = refl
with_rises m (k ∷ ms) h = go (int_lt m k) (int_eq m k) refl refl (with_rises m ms (rest_rises k ms h))
  where
    go : (less same : Bool) → int_lt m k ≡ less → int_eq m k ≡ same → is_ascending (with_number m ms) ≡ true → is_ascending (cond less (m ∷ k ∷ ms) (cond same (k ∷ ms) (k ∷ with_number m ms))) ≡ true
    go true same p q u = and_from (int_lt m k) _ p h
    go false true p q u = h
    go false false p q u = with_above k m ms (above m k p q) h u

pub ascending_rises : (ns : List ℤ) → is_ascending (ascending ns) ≡ true
ascending_rises [] = refl
ascending_rises (n ∷ ns) = with_rises n (ascending ns) (ascending_rises ns)

-- what is below the first number of an ascending list isn't in it
below_first : (n m : ℤ) (ms : List ℤ) → int_lt n m ≡ true → is_ascending (m ∷ ms) ≡ true → has_value (m ∷ ms) n ≡ false
below_first n m [] lt h = neither (int_eq n m) false (apart n m lt) refl
  where
    neither : (a b : Bool) → a ≡ false → b ≡ false → (a || b) ≡ false
    neither a b p q = cc

    apart : (n m : ℤ) → int_lt n m ≡ true → int_eq n m ≡ false
    apart n m lt = false_from_ne_true (int_eq n m) (λ e. let same : n ≡ m = equal n m e in omega (arith, ints))
below_first n m (k ∷ ms) lt h =
    neither (int_eq n m) (has_value (k ∷ ms) n) (apart n m lt) (below_first n k ms (further (and_parts (int_lt m k) _ h).0) (and_parts (int_lt m k) _ h).1)
  where
    neither : (a b : Bool) → a ≡ false → b ≡ false → (a || b) ≡ false
    neither a b p q = cc

    apart : (n m : ℤ) → int_lt n m ≡ true → int_eq n m ≡ false
    apart n m lt = false_from_ne_true (int_eq n m) (λ e. let same : n ≡ m = equal n m e in omega (arith, ints))

    further : int_lt m k ≡ true → int_lt n k ≡ true
    further h = go (int_lt n k) refl
      where
        go : (b : Bool) → int_lt n k ≡ b → int_lt n k ≡ true
        go true e = e
        go false e = absurd (omega (arith, ints))

-- the first number stands in no later place
first_once : (m : ℤ) (ms : List ℤ) → is_ascending (m ∷ ms) ≡ true → has_value ms m ≡ false
first_once m [] h = refl
first_once m (k ∷ ms) h = below_first m k ms (and_parts (int_lt m k) _ h).0 (and_parts (int_lt m k) _ h).1

has_first : (m : ℤ) (ms : List ℤ) → has_value (m ∷ ms) m ≡ true
has_first m ms = go (int_eq m m) (has_value ms m) (self_equal m)
  where
    go : (a b : Bool) → a ≡ true → (a || b) ≡ true
    go a b e = cc

not_both : true ≡ false → ⊥
not_both h = cc

firsts : (x y : ℤ) (xs ys : List ℤ) → is_ascending (x ∷ xs) ≡ true → is_ascending (y ∷ ys) ≡ true → ((n : ℤ) → has_value (x ∷ xs) n ≡ has_value (y ∷ ys) n) → x ≡ y
firsts x y xs ys p q same = go (int_lt x y) (int_lt y x) refl refl
  where
    go : (less more : Bool) → int_lt x y ≡ less → int_lt y x ≡ more → x ≡ y
    go true more e f = absurd (not_both (sym (has_first x xs) ∙ same x ∙ below_first x y ys e q))
    go false true e f = absurd (not_both (sym (has_first y ys) ∙ sym (same y) ∙ below_first y x xs f p))
    go false false e f = omega (arith, ints)

-- two ascending lists with the same members are one
pub same_members : (xs ys : List ℤ) → is_ascending xs ≡ true → is_ascending ys ≡ true → ((n : ℤ) → has_value xs n ≡ has_value ys n) → xs ≡ ys
same_members [] [] p q same = refl
same_members [] (y ∷ ys) p q same = absurd (not_both (sym (has_first y ys) ∙ sym (same y)))
same_members (x ∷ xs) [] p q same = absurd (not_both (sym (has_first x xs) ∙ same x))
same_members (x ∷ xs) (y ∷ ys) p q same =
    ap (λ z. z ∷ xs) first ∙ ap (λ zs. y ∷ zs) (same_members xs ys (rest_rises x xs p) (rest_rises y ys q) later)
  where
    first : x ≡ y
    first = firsts x y xs ys p q same

    go : (a b c : Bool) → (a ≡ true → b ≡ c) → (a || b) ≡ (a || c) → b ≡ c
    go true b c at h = at refl
    go false b c at h = h

    here : (n : ℤ) → int_eq n x ≡ true → has_value xs n ≡ has_value ys n
    here n e =
        let is : n ≡ x = equal n x e in
        ap (has_value xs) is ∙ first_once x xs p ∙ sym (first_once y ys q) ∙ ap (has_value ys) (sym (is ∙ first))

    later : (n : ℤ) → has_value xs n ≡ has_value ys n
    later n = go (int_eq n x) (has_value xs n) (has_value ys n) (here n) (same n ∙ ap (λ z. int_eq n z || has_value ys n) (sym first))

-- which numbers are left without repeats
dedup_from_has : (n k : ℤ) (ns : List ℤ) → has_value (dedup int_eq (k ∷ ns)) n ≡ (int_eq n k || has_value ns n)
dedup_from_has n k [] = refl
dedup_from_has n k (m ∷ ns) = go (int_eq m k) (equal m k) (dedup_from_has n k ns) (dedup_from_has n m ns)
  where
    twice : (a c : Bool) → (a || c) ≡ (a || (a || c))
    twice true c = refl
    twice false c = refl

    go : (same : Bool) → (same ≡ true → m ≡ k) → has_value (dedup int_eq (k ∷ ns)) n ≡ (int_eq n k || has_value ns n) → has_value (dedup int_eq (m ∷ ns)) n ≡ (int_eq n m || has_value ns n) →
        has_value (cond same (dedup int_eq (k ∷ ns)) (k ∷ dedup int_eq (m ∷ ns))) n ≡ (int_eq n k || (int_eq n m || has_value ns n))
    go true e h i = h ∙ twice (int_eq n k) (has_value ns n) ∙ ap (λ z. int_eq n k || (int_eq n z || has_value ns n)) (sym (e refl))
    go false e h i = ap (λ z. int_eq n k || z) i

dedup_has : (n : ℤ) (ns : List ℤ) → has_value (dedup int_eq ns) n ≡ has_value ns n
dedup_has n [] = refl
dedup_has n (k ∷ ns) = dedup_from_has n k ns

strictly_rises : (ns : List ℤ) → IsStrictlySortedBy int_cmp ns → is_ascending ns ≡ true
unfolding IsStrictlySortedBy
strictly_rises [] h = refl
strictly_rises (n ∷ []) h = refl
strictly_rises (n ∷ m ∷ ns) h = and_from (int_lt n m) _ (less n m h.0.0) (strictly_rises (m ∷ ns) h.1)
  where
    less : (n m : ℤ) → int_cmp n m ≡ Less → int_lt n m ≡ true
    less n m h = grind (arith, ints)

-- what a sort and a dedup make of numbers
pub sorted_once : (ns ms : List ℤ) → IsPermutation ns ms → IsSorted int_cmp ms → dedup int_eq ms ≡ ascending ns
sorted_once ns ms moved up =
    same_members (dedup int_eq ms) (ascending ns) (strictly_rises _ (IsStrictlySortedBy-dedup int_cmp_total (λ x y. refl) ms up)) (ascending_rises ns)
    (λ n. dedup_has n ms ∙ sym (list_any-IsPermutation (int_eq n) ns ms moved) ∙ sym (ascending_has n ns))

-- the ends of an ascending list, by what lies between them
pub ends : (ns : List ℤ) (low high : ℤ) → 0 < length ns → is_ascending ns ≡ true → low ≡ get_or ns 0 low → high ≡ get_or ns (length ns - 1) high →
    (low ≡ least_value ns) × (high ≡ greatest_value ns)
ends ns low high lt up p q = (p ∙ sym (least_is_first ns low lt up), q ∙ sym (greatest_is_last ns high lt up))

abbrev pub some_range : ℤ → ℤ → Option (ℤ × ℤ)
some_range low high = Some (low, high)

abbrev pub range_or_none : List ℤ → Option (ℤ × ℤ)
range_or_none ns = cond (has_gap ns) None (some_range (least_value ns) (greatest_value ns))

pub range_made : (ns : List ℤ) (low high : ℤ) (diff : ℕ) → low ≡ least_value ns → high ≡ greatest_value ns → diff ≡ nat_abs (high -ℤ low) → diff < length ns → some_range low high ≡ range_or_none ns
range_made ns low high diff p q e lt = go (has_gap ns) full
  where
    pair : some_range low high ≡ some_range (least_value ns) (greatest_value ns)
    pair = ap (λ (x : ℤ). some_range x high) p ∙ ap (λ (x : ℤ). some_range (least_value ns) x) q

    width : width_of ns ≡ diff + 1
    width = ap (λ x. nat_abs (x -ℤ least_value ns) + 1) (sym q) ∙ ap (λ x. nat_abs (high -ℤ x) + 1) (sym p) ∙ ap (λ x. x + 1) (sym e)

    full : has_gap ns ≡ false
    full = false_from_ne_true (has_gap ns) (λ h. let k : length ns < width_of ns = ltb-true (length ns) (width_of ns) h in omega (arith, width))

    go : (b : Bool) → b ≡ false → some_range low high ≡ cond b None (some_range (least_value ns) (greatest_value ns))
    go true f = absurd (not_both f)
    go false f = pair

pub no_range : (ns : List ℤ) (low high : ℤ) (diff : ℕ) → low ≡ least_value ns → high ≡ greatest_value ns → diff ≡ nat_abs (high -ℤ low) → length ns ≤ diff → None ≡ range_or_none ns
no_range ns low high diff p q e le = ap (λ b. cond b None (some_range (least_value ns) (greatest_value ns))) (sym gap)
  where
    width : width_of ns ≡ diff + 1
    width = ap (λ x. nat_abs (x -ℤ least_value ns) + 1) (sym q) ∙ ap (λ x. nat_abs (high -ℤ x) + 1) (sym p) ∙ ap (λ x. x + 1) (sym e)

    gap : has_gap ns ≡ true
    gap = lt-ltb (length ns) (width_of ns) (omega (arith, width))
