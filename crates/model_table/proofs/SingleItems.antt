-- On single values, what doesn't hold is refuted: arrays.
use Rattle.std.proofs.Common.{◌≡◌, inl, inr, ℕ, suc, ◌+◌, ◌≤◌, Bool, true, false, ◌&&◌, ◌||◌, not, cond, List, [], ◌∷◌, length, map, refl, sym, ap, ap₂, ◌∙◌, subst, arith}
use Rattle.std.specs.Prelude.{ℤ, pos, ◌+ℤ◌, ◌-ℤ◌, int_le, int_lt}
use Rattle.std.specs.Ordering.{int_eq}
use Rattle.std.specs.Int.{int_min, int_max}
use Rattle.std.specs.List.{list_any, list_all, count_by}
use Rattle.std.proofs.lemmas.Int.{ints, clamps}
use Rattle.std.proofs.lemmas.Bool.Decides.{Decides-int_eq, same_from_decides}
use Rattle.std.proofs.lemmas.Bool.{and_from, true_from_ne_false, not_from_false, and_parts}
use Rattle.qc_model.specs.Lists.{Among, same_values}
use Rattle.qc_model.specs.Domains.{Values, least_value, greatest_value, misses, is_single}
use Rattle.qc_model.specs.Ranges.{point, smaller_range, greater_range}
use Rattle.qc_model.specs.Arguments.{numbers}
use Rattle.qc_model.specs.Meaning.{element, variable_element, minimum, maximum, odd_items, all_different, table}
use Rattle.qc_model.specs.Holds.{Given, value_at, values_at, holds_as, item_is, is_least, is_greatest, odd_ones, all_differ, rows}
use Rattle.qc_model.specs.Left.{left_at, lefts_at, range_at, some_item_in, some_item_meets, least_range, greatest_range, least_item_range, greatest_item_range, is_crowded, has_crowd, row_fits}
use Rattle.qc_model.specs.Refuted.{refuted_as}
use Rattle.qc_model.proofs.Sound.{differ}
use Rattle.model_table.proofs.Fits.{any_from}
use Rattle.model_table.proofs.Typing.{HasItem}
use Rattle.model_table.proofs.Crowded.{count_step, ends_within}
use Rattle.model_table.proofs.Items.{among_of}
use Rattle.model_table.proofs.Singles.{alone, singles, lefts_single, range_single, at_single, numbers_single}
use Rattle.model_table.proofs.SingleNumbers.{or_none, results_miss}

items_alone : (k b c : ℤ) (ns : List ℤ) → some_item_in k (alone b) ns (alone c) ≡ item_is k b ns c
items_alone k b c [] = refl
items_alone k b c (n ∷ ns) = ap₂ ◌||◌ (ap₂ ◌&&◌ (or_none (int_eq k b)) (or_none (int_eq n c))) (items_alone (k +ℤ pos 1) b c ns)

pub element_single : (vs : Given) → holds_as element vs ≡ false → refuted_as element (singles vs) ≡ true
element_single vs e =
    subst (λ (ns : List ℤ). not (some_item_in (pos 1) (left_at (singles vs) 0) ns (left_at (singles vs) 2)) ≡ true) (sym (numbers_single vs 1))
    (at_single vs (λ a b c. not (some_item_in (pos 1) a (numbers vs 1) c) ≡ true)
    (ap not (items_alone (pos 1) (value_at vs 0) (value_at vs 2) (numbers vs 1) ∙ e)))

meets_alone : (v c : ℤ) → not (misses (alone v) (alone c)) ≡ int_eq v c
meets_alone v c = twice (int_eq v c)
  where
    twice : (b : Bool) → not (not ((b || false) || false)) ≡ b
    twice true = refl
    twice false = refl

variable_items_alone : (k b c : ℤ) (vs : List ℤ) → some_item_meets k (alone b) (map alone vs) (alone c) ≡ item_is k b vs c
variable_items_alone k b c [] = refl
variable_items_alone k b c (v ∷ vs) = ap₂ ◌||◌ (ap₂ ◌&&◌ (or_none (int_eq k b)) (meets_alone v c)) (variable_items_alone (k +ℤ pos 1) b c vs)

pub variable_element_single : (vs : Given) → holds_as variable_element vs ≡ false → refuted_as variable_element (singles vs) ≡ true
variable_element_single vs e =
    subst (λ (ds : List Values). not (some_item_meets (pos 1) (left_at (singles vs) 0) ds (left_at (singles vs) 2)) ≡ true) (sym (lefts_single vs 1))
    (at_single vs (λ a b c. not (some_item_meets (pos 1) a (map alone (values_at vs 1)) c) ≡ true)
    (ap not (variable_items_alone (pos 1) (value_at vs 0) (value_at vs 2) (values_at vs 1) ∙ e)))

-- the least of v and the others, and the greatest
abbrev least_of_all : ℤ → List ℤ → ℤ
least_of_all v [] = v
least_of_all v (x ∷ xs) = int_min x (least_of_all v xs)

abbrev greatest_of_all : ℤ → List ℤ → ℤ
greatest_of_all v [] = v
greatest_of_all v (x ∷ xs) = int_max x (greatest_of_all v xs)

least_alone : (v : ℤ) (xs : List ℤ) → least_range (point v) (map alone xs) ≡ point (least_of_all v xs)
least_alone v [] = refl
least_alone v (x ∷ xs) = ap (smaller_range (point x)) (least_alone v xs)

greatest_alone : (v : ℤ) (xs : List ℤ) → greatest_range (point v) (map alone xs) ≡ point (greatest_of_all v xs)
greatest_alone v [] = refl
greatest_alone v (x ∷ xs) = ap (greater_range (point x)) (greatest_alone v xs)

-- it is one of them
least_among : (v : ℤ) (xs : List ℤ) → Among (least_of_all v xs) (v ∷ xs)
least_among v [] = inl refl
least_among v (x ∷ xs) = by (int_lt (least_of_all v xs) x) refl (least_among v xs)
  where
    by : (b : Bool) → int_lt (least_of_all v xs) x ≡ b → Among (least_of_all v xs) (v ∷ xs) → Among (cond b (least_of_all v xs) x) (v ∷ x ∷ xs)
    by true e (inl q) = inl q
    by true e (inr q) = inr (inr q)
    by false e m = inr (inl refl)

greatest_among : (v : ℤ) (xs : List ℤ) → Among (greatest_of_all v xs) (v ∷ xs)
greatest_among v [] = inl refl
greatest_among v (x ∷ xs) = by (int_lt (greatest_of_all v xs) x) refl (greatest_among v xs)
  where
    by : (b : Bool) → int_lt (greatest_of_all v xs) x ≡ b → Among (greatest_of_all v xs) (v ∷ xs) → Among (cond b x (greatest_of_all v xs)) (v ∷ x ∷ xs)
    by true e m = inr (inl refl)
    by false e (inl q) = inl q
    by false e (inr q) = inr (inr q)

-- and it bounds each
weaken : (m n : ℤ) (xs : List ℤ) → int_le m n ≡ true → list_all (λ x. int_le n x) xs ≡ true → list_all (λ x. int_le m x) xs ≡ true
weaken m n [] l e = refl
weaken m n (x ∷ xs) l e =
    let p = and_parts (int_le n x) (list_all (λ y. int_le n y) xs) e in
    and_from (int_le m x) (list_all (λ y. int_le m y) xs) (true_from_ne_false (int_le m x) (λ z. omega (arith, ints, p.0))) (weaken m n xs l p.1)

weaken_up : (m n : ℤ) (xs : List ℤ) → int_le n m ≡ true → list_all (λ x. int_le x n) xs ≡ true → list_all (λ x. int_le x m) xs ≡ true
weaken_up m n [] l e = refl
weaken_up m n (x ∷ xs) l e =
    let p = and_parts (int_le x n) (list_all (λ y. int_le y n) xs) e in
    and_from (int_le x m) (list_all (λ y. int_le y m) xs) (true_from_ne_false (int_le x m) (λ z. omega (arith, ints, p.0))) (weaken_up m n xs l p.1)

least_bounds : (v : ℤ) (xs : List ℤ) → (int_le (least_of_all v xs) v ≡ true) × (list_all (λ x. int_le (least_of_all v xs) x) xs ≡ true)
least_bounds v [] = (true_from_ne_false (int_le v v) (λ n. omega (arith, ints)), refl)
least_bounds v (x ∷ xs) =
    let h = least_bounds v xs in
    let m = least_of_all v xs in
    let l : int_le (int_min x m) m ≡ true = true_from_ne_false (int_le (int_min x m) m) (λ n. omega (arith, ints, clamps)) in (
      true_from_ne_false (int_le (int_min x m) v) (λ n. omega (arith, ints, h.0)),
      and_from (int_le (int_min x m) x) (list_all (λ y. int_le (int_min x m) y) xs) (true_from_ne_false (int_le (int_min x m) x) (λ n. omega (arith, ints, clamps))) (weaken (int_min x m) m xs l h.1),
    )

greatest_bounds : (v : ℤ) (xs : List ℤ) → (int_le v (greatest_of_all v xs) ≡ true) × (list_all (λ x. int_le x (greatest_of_all v xs)) xs ≡ true)
greatest_bounds v [] = (true_from_ne_false (int_le v v) (λ n. omega (arith, ints)), refl)
greatest_bounds v (x ∷ xs) =
    let h = greatest_bounds v xs in
    let m = greatest_of_all v xs in
    let l : int_le m (int_max x m) ≡ true = true_from_ne_false (int_le m (int_max x m)) (λ n. omega (arith, ints, clamps)) in (
      true_from_ne_false (int_le v (int_max x m)) (λ n. omega (arith, ints, h.0)),
      and_from (int_le x (int_max x m)) (list_all (λ y. int_le y (int_max x m)) xs) (true_from_ne_false (int_le x (int_max x m)) (λ n. omega (arith, ints, clamps))) (weaken_up (int_max x m) m xs l h.1),
    )

is_least_of_all : (v : ℤ) (xs : List ℤ) → is_least (least_of_all v xs) (v ∷ xs) ≡ true
is_least_of_all v xs =
    let b = least_bounds v xs in
    and_from (list_any (int_eq (least_of_all v xs)) (v ∷ xs)) (list_all (λ x. int_le (least_of_all v xs) x) (v ∷ xs))
    (any_from (int_eq (least_of_all v xs)) (v ∷ xs) (least_of_all v xs) (least_among v xs) ((Decides-int_eq (least_of_all v xs) (least_of_all v xs)).1 refl))
    (and_from (int_le (least_of_all v xs) v) (list_all (λ x. int_le (least_of_all v xs) x) xs) b.0 b.1)

is_greatest_of_all : (v : ℤ) (xs : List ℤ) → is_greatest (greatest_of_all v xs) (v ∷ xs) ≡ true
is_greatest_of_all v xs =
    let b = greatest_bounds v xs in
    and_from (list_any (int_eq (greatest_of_all v xs)) (v ∷ xs)) (list_all (λ x. int_le x (greatest_of_all v xs)) (v ∷ xs))
    (any_from (int_eq (greatest_of_all v xs)) (v ∷ xs) (greatest_of_all v xs) (greatest_among v xs) ((Decides-int_eq (greatest_of_all v xs) (greatest_of_all v xs)).1 refl))
    (and_from (int_le v (greatest_of_all v xs)) (list_all (λ x. int_le x (greatest_of_all v xs)) xs) b.0 b.1)

-- a number that fails a test isn't the one that passes it
fails_apart : (p : ℤ → Bool) (x c : ℤ) → p x ≡ true → p c ≡ false → int_eq x c ≡ false
fails_apart p x c h f = by (int_eq x c) refl
  where
    by : (b : Bool) → int_eq x c ≡ b → b ≡ false
    by true e = absurd (differ (sym f ∙ ap p (sym ((Decides-int_eq x c).0 e)) ∙ h))
    by false e = refl

pub minimum_single : (vs : Given) → HasItem (values_at vs 1) → holds_as minimum vs ≡ false → refuted_as minimum (singles vs) ≡ true
minimum_single vs k e = by (values_at vs 1) k e (lefts_single vs 1)
  where
    by : (xs : List ℤ) → HasItem xs → is_least (value_at vs 0) xs ≡ false → lefts_at (singles vs) 1 ≡ map alone xs → refuted_as minimum (singles vs) ≡ true
    by [] k e q = absurd k
    by (x ∷ xs) k e q =
        results_miss (least_of_all x xs) (value_at vs 0) (least_item_range (lefts_at (singles vs) 1)) (range_at (singles vs) 0)
        (ap least_item_range q ∙ least_alone x xs) (range_single vs 0)
        (fails_apart (λ m. is_least m (x ∷ xs)) (least_of_all x xs) (value_at vs 0) (is_least_of_all x xs) e)

pub maximum_single : (vs : Given) → HasItem (values_at vs 1) → holds_as maximum vs ≡ false → refuted_as maximum (singles vs) ≡ true
maximum_single vs k e = by (values_at vs 1) k e (lefts_single vs 1)
  where
    by : (xs : List ℤ) → HasItem xs → is_greatest (value_at vs 0) xs ≡ false → lefts_at (singles vs) 1 ≡ map alone xs → refuted_as maximum (singles vs) ≡ true
    by [] k e q = absurd k
    by (x ∷ xs) k e q =
        results_miss (greatest_of_all x xs) (value_at vs 0) (greatest_item_range (lefts_at (singles vs) 1)) (range_at (singles vs) 0)
        (ap greatest_item_range q ∙ greatest_alone x xs) (range_single vs 0)
        (fails_apart (λ m. is_greatest m (x ∷ xs)) (greatest_of_all x xs) (value_at vs 0) (is_greatest_of_all x xs) e)

all_alone : (vs : List ℤ) → list_all is_single (map alone vs) ≡ true
all_alone [] = refl
all_alone (v ∷ vs) = all_alone vs

least_values_alone : (vs : List ℤ) → map least_value (map alone vs) ≡ vs
least_values_alone [] = refl
least_values_alone (v ∷ vs) = ap (λ xs. v ∷ xs) (least_values_alone vs)

pub odd_items_single : (vs : Given) → holds_as odd_items vs ≡ false → refuted_as odd_items (singles vs) ≡ true
odd_items_single vs e =
    subst (λ (ds : List Values). (list_all is_single ds && not (odd_ones (map least_value ds))) ≡ true) (sym (lefts_single vs 0))
    (and_from (list_all is_single (map alone (values_at vs 0))) (not (odd_ones (map least_value (map alone (values_at vs 0))))) (all_alone (values_at vs 0))
    (not_from_false (odd_ones (map least_value (map alone (values_at vs 0)))) (ap odd_ones (least_values_alone (values_at vs 0)) ∙ e)))

rows_alone : (vs row : List ℤ) → row_fits (map alone vs) row ≡ same_values vs row
rows_alone [] [] = refl
rows_alone [] (n ∷ row) = refl
rows_alone (v ∷ vs) [] = refl
rows_alone (v ∷ vs) (n ∷ row) = ap₂ ◌&&◌ (or_none (int_eq n v) ∙ turned) (rows_alone vs row)
  where
    turned : int_eq n v ≡ int_eq v n
    turned = same_from_decides {P = n ≡ v} (int_eq n v) (int_eq v n) (Decides-int_eq n v) (λ e. sym ((Decides-int_eq v n).0 e), λ q. (Decides-int_eq v n).1 (sym q))

some_row_alone : (vs : List ℤ) (rs : List (List ℤ)) → list_any (row_fits (map alone vs)) rs ≡ list_any (same_values vs) rs
some_row_alone vs [] = refl
some_row_alone vs (r ∷ rs) = ap₂ ◌||◌ (rows_alone vs r) (some_row_alone vs rs)

length_alone : (vs : List ℤ) → length (map alone vs) ≡ length vs
length_alone [] = refl
length_alone (v ∷ vs) = ap suc (length_alone vs)

pub table_single : (vs : Given) → holds_as table vs ≡ false → refuted_as table (singles vs) ≡ true
table_single vs e =
    subst (λ (ds : List Values). not (list_any (row_fits ds) (rows (length ds) (numbers (singles vs) 1))) ≡ true) (sym (lefts_single vs 0))
    (subst (λ (ns : List ℤ). not (list_any (row_fits (map alone (values_at vs 0))) (rows (length (map alone (values_at vs 0))) ns)) ≡ true) (sym (numbers_single vs 1))
    (subst (λ (n : ℕ). not (list_any (row_fits (map alone (values_at vs 0))) (rows n (numbers vs 1))) ≡ true) (sym (length_alone (values_at vs 0)))
    (not_from_false (list_any (row_fits (map alone (values_at vs 0))) (rows (length (values_at vs 0)) (numbers vs 1))) (some_row_alone (values_at vs 0) (rows (length (values_at vs 0)) (numbers vs 1)) ∙ e))))

-- a number that stands twice crowds itself
count_alone : (v : ℤ) (vs : List ℤ) → Among v vs → 1 ≤ count_by (ends_within v v) (map alone vs)
count_alone v [] m = absurd m
count_alone v (x ∷ vs) (inl e) =
    subst (λ (n : ℕ). 1 ≤ n) (sym (count_step (ends_within v v) (alone x) (map alone vs)))
    (subst (λ (b : Bool). 1 ≤ cond b 1 0 + count_by (ends_within v v) (map alone vs)) (sym (within_itself x e)) (omega arith))
  where
    within_itself : (x : ℤ) → v ≡ x → ends_within v v (alone x) ≡ true
    within_itself x e = and_from (int_le v x) (int_le x v) (true_from_ne_false (int_le v x) (λ n. omega (arith, ints))) (true_from_ne_false (int_le x v) (λ n. omega (arith, ints)))
count_alone v (x ∷ vs) (inr m) =
    let h = count_alone v vs m in
    subst (λ (n : ℕ). 1 ≤ n) (sym (count_step (ends_within v v) (alone x) (map alone vs))) (omega arith)

-- where not all differ, some number stands twice
record Repeats (vs : List ℤ) : Type 0 where
  value : ℤ
  is_item : Among value vs
  twice : 2 ≤ count_by (ends_within value value) (map alone vs)

repeats : (vs : List ℤ) → all_differ vs ≡ false → Repeats vs
repeats [] e = absurd (differ (sym e))
repeats (v ∷ vs) e = by (list_any (int_eq v) vs) refl (all_differ vs) refl (λ q. repeats vs q) e
  where
    by : (a : Bool) → list_any (int_eq v) vs ≡ a → (b : Bool) → all_differ vs ≡ b → (all_differ vs ≡ false → Repeats vs) → (not a && b) ≡ false → Repeats (v ∷ vs)
    by true p b q f n = record {
      value = v;
      is_item = inl refl;
      twice = (let h = count_alone v vs (among_of v vs p) in
          subst (λ (c : ℕ). 2 ≤ c) (sym (count_step (ends_within v v) (alone v) (map alone vs)))
          (subst (λ (b : Bool). 2 ≤ cond b 1 0 + count_by (ends_within v v) (map alone vs)) (sym (and_from (int_le v v) (int_le v v) own own)) (omega arith)));
    }
      where
        own : int_le v v ≡ true
        own = true_from_ne_false (int_le v v) (λ n. omega (arith, ints))
    by false p true q f n = absurd (differ (sym n))
    by false p false q f n = let r = f q in record {
      value = r.value;
      is_item = inr r.is_item;
      twice = (let h = r.twice in subst (λ (c : ℕ). 2 ≤ c) (sym (count_step (ends_within r.value r.value) (alone v) (map alone vs))) (omega arith));
    }

among_alone : (v : ℤ) (vs : List ℤ) → Among v vs → Among (alone v) (map alone vs)
among_alone v [] m = absurd m
among_alone v (x ∷ vs) m = elim m [ inl e ↦ inl (ap alone e) | inr t ↦ inr (among_alone v vs t) ]

crowd_alone : (vs : List ℤ) → all_differ vs ≡ false → has_crowd (map alone vs) ≡ true
crowd_alone vs e =
    let r = repeats vs e in
    let v = r.value in
    let ds = map alone vs in
    let h = r.twice in
    let m = among_alone v vs r.is_item in
    any_from (λ d. list_any (λ f. is_crowded ds (least_value d) (greatest_value f)) ds) ds (alone v) m
    (any_from (λ f. is_crowded ds v (greatest_value f)) ds (alone v) m (crowded v (count_by (ends_within v v) ds) h))
  where
    crowded : (v : ℤ) (c : ℕ) → 2 ≤ c → (int_le v v && int_lt ((v -ℤ v) +ℤ pos 1) (pos c)) ≡ true
    crowded v c h = and_from (int_le v v) (int_lt ((v -ℤ v) +ℤ pos 1) (pos c)) (true_from_ne_false (int_le v v) (λ n. omega (arith, ints))) (true_from_ne_false (int_lt ((v -ℤ v) +ℤ pos 1) (pos c)) (λ n. omega (arith, ints)))

pub all_different_single : (vs : Given) → holds_as all_different vs ≡ false → refuted_as all_different (singles vs) ≡ true
all_different_single vs e = subst (λ (ds : List Values). has_crowd ds ≡ true) (sym (lefts_single vs 0)) (crowd_alone (values_at vs 0) e)
