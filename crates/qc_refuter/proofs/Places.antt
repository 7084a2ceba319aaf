-- Rows of a table, and items at places, one by one.
use Rattle.std.proofs.Common.{◌≡◌, ℕ, zero, suc, ◌+◌, ◌-◌, ◌<◌, ◌≤◌, Bool, not, ◌&&◌, ◌||◌, true, false, List, ◌∷◌, length, map, take, drop, get_or, min, ltb, refl, ap, sym, ◌∙◌, subst, arith, ℤ}
use Rattle.std.specs.Prelude.{pos, ◌+ℤ◌, ◌<ℤ◌, ◌≤ℤ◌, int_le, unsigned_abs}
use Rattle.std.specs.List.{list_any}
use Rattle.std.proofs.lemmas.Int.{ints}
use Rattle.std.proofs.lemmas.Bool.{ltb-true, false_from_ne_true}
use Rattle.std.proofs.lemmas.Bool.Decides.{nat_tests}
use Rattle.std.proofs.lemmas.List.{at_drop_more, at_drop_all}
use Rattle.qc_model.specs.declared.problem.Arg.{Arg}
use Rattle.qc_model.specs.Domains.{Values, Box, has_value, misses, least_value, greatest_value}
use Rattle.qc_model.specs.Holds.{rows}
use Rattle.qc_model.specs.Left.{some_item_in, some_item_meets, row_fits}
use Rattle.qc_model.specs.Refuted.{left_to}
use Rattle.qc_model.proofs.Rows.{rows_step}
use Rattle.model_arguments.proofs.Kept.{low_end, high_end}

pub row_missed : (p : List ℤ → Bool) (width : ℕ) (rest : List ℤ) → 0 < width → width ≤ length rest → p (take width rest) ≡ false →
    list_any p (rows width (drop width rest)) ≡ list_any p (rows width rest)
row_missed p width rest h m missed =
    sym (ap (λ rs. list_any p rs) (rows_step width rest h m)
    ∙ ap (λ t. t || list_any p (rows width (drop width rest))) missed)

pub row_found : (p : List ℤ → Bool) (width : ℕ) (rest : List ℤ) → 0 < width → width ≤ length rest → p (take width rest) ≡ true →
    list_any p (rows width rest) ≡ true
row_found p width rest h m found =
    ap (λ rs. list_any p rs) (rows_step width rest h m)
    ∙ ap (λ t. t || list_any p (rows width (drop width rest))) found

next_place : (n : ℕ) → pos (n + 1) ≡ pos n +ℤ pos 1
next_place n = omega (arith, ints)

-- a number of the array, whose place is counted from 1
number_at : (b c : Values) (xs : List ℤ) (k : ℕ) → k < length xs →
    some_item_in (pos (k + 1)) b (drop k xs) c ≡ ((has_value b (pos (k + 1)) && has_value c (get_or xs k (pos 0))) || some_item_in (pos (k + 1) +ℤ pos 1) b (drop (k + 1) xs) c)
number_at b c xs k h = at_drop_more (λ l. some_item_in (pos (k + 1)) b l c) xs k (pos 0) h

pub number_found : (b c : Values) (xs : List ℤ) (k : ℕ) → k < length xs → true ≡ (has_value b (pos (k + 1)) && has_value c (get_or xs k (pos 0))) → true ≡ some_item_in (pos (k + 1)) b (drop k xs) c
number_found b c xs k h f = ap (λ t. t || some_item_in (pos (k + 1) +ℤ pos 1) b (drop (k + 1) xs) c) f ∙ sym (number_at b c xs k h)

pub number_missed : (b c : Values) (xs : List ℤ) (k : ℕ) → k < length xs → false ≡ (has_value b (pos (k + 1)) && has_value c (get_or xs k (pos 0))) →
    some_item_in (pos ((k + 1) + 1)) b (drop (k + 1) xs) c ≡ some_item_in (pos (k + 1)) b (drop k xs) c
number_missed b c xs k h f =
    ap (λ z. some_item_in z b (drop (k + 1) xs) c) (next_place (k + 1)) ∙ (ap (λ t. t || some_item_in (pos (k + 1) +ℤ pos 1) b (drop (k + 1) xs) c) f ∙ sym (number_at b c xs k h))

-- one entry of a row
pub entry_fits : (box : Box) (items : List Arg) (row : List ℤ) (k : ℕ) (x : Arg) → k < length items → k < length row → has_value (left_to box (get_or items k x)) (get_or row k (pos 0)) ≡ true →
    row_fits (map (left_to box) (drop (k + 1) items)) (drop (k + 1) row) ≡ row_fits (map (left_to box) (drop k items)) (drop k row)
entry_fits box items row k x h m f =
    sym (at_drop_more (λ l. row_fits (map (left_to box) l) (drop k row)) items k x h
    ∙ (at_drop_more (λ l. row_fits (left_to box (get_or items k x) ∷ map (left_to box) (drop (k + 1) items)) l) row k (pos 0) m
    ∙ ap (λ t. t && row_fits (map (left_to box) (drop (k + 1) items)) (drop (k + 1) row)) f))

one_more : (n : ℕ) → n + 1 ≡ suc n
one_more n = omega arith

-- places that b doesn't name: those at the beginning, and those from one on
pub numbers_before : (b c : Values) (xs : List ℤ) (n : ℕ) → n ≤ length xs → ((j : ℕ) → j < n → has_value b (pos (j + 1)) ≡ false) →
    some_item_in (pos (n + 1)) b (drop n xs) c ≡ some_item_in (pos 1) b xs c
numbers_before b c xs zero h f = refl
numbers_before b c xs (suc n) h f =
    subst (λ m. some_item_in (pos (m + 1)) b (drop m xs) c ≡ some_item_in (pos 1) b xs c) (one_more n)
    (number_missed b c xs n (omega (arith, h)) (sym (ap (λ t. t && has_value c (get_or xs n (pos 0))) (f n (omega arith))))
    ∙ numbers_before b c xs n (omega (arith, h)) (λ j l. f j (omega (arith, l))))

numbers_from : (b c : Values) (xs : List ℤ) (m k : ℕ) → length xs ≤ k + m → ((j : ℕ) → k ≤ j → j < length xs → has_value b (pos (j + 1)) ≡ false) →
    some_item_in (pos (k + 1)) b (drop k xs) c ≡ false
numbers_from b c xs zero k h f = at_drop_all (λ l. some_item_in (pos (k + 1)) b l c) xs k (omega (arith, h))
numbers_from b c xs (suc m) k h f = elim (ltb k (length xs)) as (λ t. ltb k (length xs) ≡ t → some_item_in (pos (k + 1)) b (drop k xs) c ≡ false) [
  | true ↦ λ e. sym (number_missed b c xs k (ltb-true k (length xs) e) (sym (ap (λ t. t && has_value c (get_or xs k (pos 0))) (f k (omega arith) (ltb-true k (length xs) e)))))
      ∙ numbers_from b c xs m (k + 1) (omega (arith, h)) (λ j l. f j (omega (arith, l)))
  | false ↦ λ e. at_drop_all (λ l. some_item_in (pos (k + 1)) b l c) xs k (grind (arith, nat_tests))
] refl

pub numbers_after : (b c : Values) (xs : List ℤ) (k : ℕ) → ((j : ℕ) → k ≤ j → j < length xs → has_value b (pos (j + 1)) ≡ false) → some_item_in (pos (k + 1)) b (drop k xs) c ≡ false
numbers_after b c xs k f = numbers_from b c xs (length xs) k (omega arith) f

-- the same, of items
item_at_place : (box : Box) (b c : Values) (items : List Arg) (k : ℕ) (x : Arg) → k < length items →
    some_item_meets (pos (k + 1)) b (map (left_to box) (drop k items)) c
    ≡ ((has_value b (pos (k + 1)) && not (misses (left_to box (get_or items k x)) c)) || some_item_meets (pos (k + 1) +ℤ pos 1) b (map (left_to box) (drop (k + 1) items)) c)
item_at_place box b c items k x h = at_drop_more (λ l. some_item_meets (pos (k + 1)) b (map (left_to box) l) c) items k x h

item_missed : (box : Box) (b c : Values) (items : List Arg) (k : ℕ) (x : Arg) → k < length items → has_value b (pos (k + 1)) ≡ false →
    some_item_meets (pos ((k + 1) + 1)) b (map (left_to box) (drop (k + 1) items)) c ≡ some_item_meets (pos (k + 1)) b (map (left_to box) (drop k items)) c
item_missed box b c items k x h f =
    ap (λ z. some_item_meets z b (map (left_to box) (drop (k + 1) items)) c) (next_place (k + 1))
    ∙ sym (item_at_place box b c items k x h
    ∙ ap (λ t. (t && not (misses (left_to box (get_or items k x)) c)) || some_item_meets (pos (k + 1) +ℤ pos 1) b (map (left_to box) (drop (k + 1) items)) c) f)

pub item_found : (box : Box) (b c : Values) (items : List Arg) (k : ℕ) (x : Arg) → k < length items → true ≡ (has_value b (pos (k + 1)) && not (misses (left_to box (get_or items k x)) c)) →
    true ≡ some_item_meets (pos (k + 1)) b (map (left_to box) (drop k items)) c
item_found box b c items k x h f = ap (λ t. t || some_item_meets (pos (k + 1) +ℤ pos 1) b (map (left_to box) (drop (k + 1) items)) c) f ∙ sym (item_at_place box b c items k x h)

-- an item that doesn't meet c at its place
pub item_past : (box : Box) (b c : Values) (items : List Arg) (k : ℕ) (x : Arg) → k < length items → false ≡ (has_value b (pos (k + 1)) && not (misses (left_to box (get_or items k x)) c)) →
    some_item_meets (pos ((k + 1) + 1)) b (map (left_to box) (drop (k + 1) items)) c ≡ some_item_meets (pos (k + 1)) b (map (left_to box) (drop k items)) c
item_past box b c items k x h f =
    ap (λ z. some_item_meets z b (map (left_to box) (drop (k + 1) items)) c) (next_place (k + 1))
    ∙ (ap (λ t. t || some_item_meets (pos (k + 1) +ℤ pos 1) b (map (left_to box) (drop (k + 1) items)) c) f ∙ sym (item_at_place box b c items k x h))

pub items_before : (box : Box) (b c : Values) (items : List Arg) (x : Arg) (n : ℕ) → n ≤ length items → ((j : ℕ) → j < n → has_value b (pos (j + 1)) ≡ false) →
    some_item_meets (pos (n + 1)) b (map (left_to box) (drop n items)) c ≡ some_item_meets (pos 1) b (map (left_to box) items) c
items_before box b c items x zero h f = refl
items_before box b c items x (suc n) h f =
    subst (λ m. some_item_meets (pos (m + 1)) b (map (left_to box) (drop m items)) c ≡ some_item_meets (pos 1) b (map (left_to box) items) c) (one_more n)
    (item_missed box b c items n x (omega (arith, h)) (f n (omega arith)) ∙ items_before box b c items x n (omega (arith, h)) (λ j l. f j (omega (arith, l))))

items_from : (box : Box) (b c : Values) (items : List Arg) (x : Arg) (m k : ℕ) → length items ≤ k + m → ((j : ℕ) → k ≤ j → j < length items → has_value b (pos (j + 1)) ≡ false) →
    some_item_meets (pos (k + 1)) b (map (left_to box) (drop k items)) c ≡ false
items_from box b c items x zero k h f = at_drop_all (λ l. some_item_meets (pos (k + 1)) b (map (left_to box) l) c) items k (omega (arith, h))
items_from box b c items x (suc m) k h f = elim (ltb k (length items)) as (λ t. ltb k (length items) ≡ t → some_item_meets (pos (k + 1)) b (map (left_to box) (drop k items)) c ≡ false) [
  | true ↦ λ e. sym (item_missed box b c items k x (ltb-true k (length items) e) (f k (omega arith) (ltb-true k (length items) e)))
      ∙ items_from box b c items x m (k + 1) (omega (arith, h)) (λ j l. f j (omega (arith, l)))
  | false ↦ λ e. at_drop_all (λ l. some_item_meets (pos (k + 1)) b (map (left_to box) l) c) items k (grind (arith, nat_tests))
] refl

pub items_after : (box : Box) (b c : Values) (items : List Arg) (x : Arg) (k : ℕ) → ((j : ℕ) → k ≤ j → j < length items → has_value b (pos (j + 1)) ≡ false) →
    some_item_meets (pos (k + 1)) b (map (left_to box) (drop k items)) c ≡ false
items_after box b c items x k f = items_from box b c items x (length items) k (omega arith) f

-- a place before the least value left to b, or after the greatest, isn't left
pub place_below : (b : Values) (low : ℤ) (r count j : ℕ) → low ≡ least_value b → int_le low (pos 1) ≡ false → r ≡ min count (unsigned_abs low - 1) → j < r → has_value b (pos (j + 1)) ≡ false
place_below b low r count j e o m h = false_from_ne_true (has_value b (pos (j + 1))) (λ k. apart low (under low o m h) e (low_end b (pos (j + 1)) k))
  where
    under : (low : ℤ) → int_le low (pos 1) ≡ false → r ≡ min count (unsigned_abs low - 1) → j < r → pos (j + 1) <ℤ low
    under low o m h = grind (arith, ints, o, m, h)

    apart : (low : ℤ) → pos (j + 1) <ℤ low → low ≡ least_value b → least_value b ≤ℤ pos (j + 1) → ⊥
    apart low h e l = omega (arith, ints, l, h, e)

over : (b : Values) (high : ℤ) (j : ℕ) → high ≡ greatest_value b → high <ℤ pos (j + 1) → has_value b (pos (j + 1)) ≡ false
over b high j e h = false_from_ne_true (has_value b (pos (j + 1))) (λ k. apart (high_end b (pos (j + 1)) k))
  where
    apart : pos (j + 1) ≤ℤ greatest_value b → ⊥
    apart l = omega (arith, ints, l, h, e)

pub place_above : (b : Values) (high : ℤ) (r count j : ℕ) → high ≡ greatest_value b → int_le high (pos 0) ≡ false → r ≡ min count (unsigned_abs high) → r ≤ j → j < count → has_value b (pos (j + 1)) ≡ false
place_above b high r count j e o m h l = over b high j e (above high o m h l)
  where
    above : (high : ℤ) → int_le high (pos 0) ≡ false → r ≡ min count (unsigned_abs high) → r ≤ j → j < count → high <ℤ pos (j + 1)
    above high o m h l = grind (arith, ints, o, m, h, l)

pub no_place : (b : Values) (high : ℤ) (j : ℕ) → high ≡ greatest_value b → int_le high (pos 0) ≡ true → has_value b (pos (j + 1)) ≡ false
no_place b high j e o = over b high j e (above high o)
  where
    above : (high : ℤ) → int_le high (pos 0) ≡ true → high <ℤ pos (j + 1)
    above high o = grind (arith, ints, o)
