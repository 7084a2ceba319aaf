-- What the code reads off a cell.
use Rattle.std.proofs.Common.{◌≡◌, ◌⊎◌, inl, inr, ℕ, zero, suc, cond, List, ◌+◌, ◌-◌, ◌*◌, ◌<◌, ◌≤◌, Bool, true, false, ◌&&◌, length, get_or, refl, sym, ap, ◌∙◌, arith, ℤ, [], ◌∷◌}
use Rattle.std.specs.Prelude.{pos, negsuc, ◌==◌, ◌+ℤ◌, ◌-ℤ◌, ◌<ℤ◌, ◌≤ℤ◌, nat_abs, int_lt, int_le}
use Rattle.std.proofs.lemmas.Bool.Decides.{nat_tests}
use Rattle.std.proofs.lemmas.Int.{ints}
use Rattle.qc_model.specs.Domains.{values_left, is_none_left, least_value, greatest_value, has_value, is_ascending, is_single}
use Rattle.qc_model.specs.Valid.{is_number}
use Rattle.std.specs.List.{list_all}
use Rattle.std.proofs.lemmas.List.Folds.{list_all-append}
use Rattle.fd_store.proofs.Ascending.{values_ascend}
use Rattle.fd_store.specs.declared.table.Cell.{Cell}
use Rattle.fd_store.specs.declared.table.Table.{Table}
use Rattle.fd_store.specs.Places.{is_set, is_kept, is_inside, cell_values, values_below}
use Rattle.fd_store.specs.Sound.{IsCell}
use Rattle.fd_store.specs.Takes.{box_in}
use Rattle.fd_store.proofs.Values.{has_none, has_is, greatest_below}
use Rattle.fd_store.proofs.Cells.{values_at}
use Rattle.fd_store.proofs.Needs.{cell_least, cell_greatest, cell_none}

pub left_some : (t : Table) (x : ℕ) (c : Cell) → x < length t.cells.items → get_or t.cells.items x c ≡ c → is_none_left (values_left (box_in t) x) ≡ false → c.first < c.end
left_some t x c h at e = elim (near c.first c.end) [
  | inl l ↦ l
  | inr l ↦
      let none : is_none_left (values_left (box_in t) x) ≡ true = ap is_none_left (values_at t.words.items t.cells.items x c h at ∙ cell_none t.words.items c l) in
      cc
]
  where
    near : (x y : ℕ) → (x < y) ⊎ (y ≤ x)
    near x y = grind arith

pub least_is : (t : Table) (x : ℕ) (c : Cell) → x < length t.cells.items → get_or t.cells.items x c ≡ c → IsCell t.words.items c → is_none_left (values_left (box_in t) x) ≡ false →
    c.base +ℤ pos c.first ≡ least_value (values_left (box_in t) x)
least_is t x c h at i e = sym (ap least_value (values_at t.words.items t.cells.items x c h at) ∙ (cell_least t.words.items c i (left_some t x c h at e)).least)

pub greatest_is : (t : Table) (x : ℕ) (c : Cell) → x < length t.cells.items → get_or t.cells.items x c ≡ c → IsCell t.words.items c → is_none_left (values_left (box_in t) x) ≡ false →
    c.base +ℤ pos (c.end - 1) ≡ greatest_value (values_left (box_in t) x)
greatest_is t x c h at i e = sym (ap greatest_value (values_at t.words.items t.cells.items x c h at) ∙ cell_greatest t.words.items c i (left_some t x c h at e))

pub has_at : (t : Table) (x : ℕ) (c : Cell) (v : ℤ) (k : ℕ) → x < length t.cells.items → get_or t.cells.items x c ≡ c → k < c.width → v ≡ c.base +ℤ pos k →
    is_kept t.words.items c k ≡ has_value (values_left (box_in t) x) v
has_at t x c v k h at l e = sym
    (ap (λ vs. has_value vs v) (values_at t.words.items t.cells.items x c h at)
    ∙ (ap (has_value (cell_values t.words.items c)) e ∙ has_is (is_kept t.words.items c) c.base c.width k l))

pub has_inside : (t : Table) (x : ℕ) (c : Cell) (v : ℤ) (k : ℕ) → x < length t.cells.items → get_or t.cells.items x c ≡ c → IsCell t.words.items c → v ≡ c.base +ℤ pos k → c.first ≤ k → k < c.end →
    is_set t.words.items (64 * c.start + k) ≡ has_value (values_left (box_in t) x) v
has_inside t x c v k h at i e l m =
    sym (ap (λ b. b && is_set t.words.items (64 * c.start + k)) (within k l m)) ∙ has_at t x c v k h at (omega (arith, i.within)) e
  where
    within : (k : ℕ) → c.first ≤ k → k < c.end → is_inside c.first c.end k ≡ true
    within k l m = grind (arith, nat_tests)

pub has_outside : (t : Table) (x : ℕ) (c : Cell) (v : ℤ) → x < length t.cells.items → get_or t.cells.items x c ≡ c → (v <ℤ (c.base +ℤ pos c.first)) ⊎ ((c.base +ℤ pos c.end) ≤ℤ v) →
    false ≡ has_value (values_left (box_in t) x) v
has_outside t x c v h at o = elim (where_is c.base c.width v) [
  | inl far ↦ sym (ap (λ vs. has_value vs v) (values_at t.words.items t.cells.items x c h at) ∙ has_none (is_kept t.words.items c) c.base c.width v far)
  | inr near ↦ sym (off (is_set t.words.items (64 * c.start + near.0)) near.0 (beyond near.0 near.2)) ∙ has_at t x c v near.0 h at near.1 near.2
]
  where
    where_is : (b : ℤ) (n : ℕ) (v : ℤ) → ((v <ℤ b) ⊎ ((b +ℤ pos n) ≤ℤ v)) ⊎ ((k : ℕ) × (k < n) × (v ≡ b +ℤ pos k))
    where_is b n v = elim (low b v) [
      | inl l ↦ inl (inl l)
      | inr l ↦ elim (high b n v) [ inl m ↦ inl (inr m) | inr m ↦ inr (nat_abs (v -ℤ b), omega (arith, ints), omega (arith, ints)) ]
    ]
      where
        low : (b v : ℤ) → (v <ℤ b) ⊎ (b ≤ℤ v)
        low b v = grind (arith, ints)

        high : (b : ℤ) (n : ℕ) (v : ℤ) → ((b +ℤ pos n) ≤ℤ v) ⊎ (v <ℤ (b +ℤ pos n))
        high b n v = grind (arith, ints)

    beyond : (k : ℕ) → v ≡ c.base +ℤ pos k → (k < c.first) ⊎ (c.end ≤ k)
    beyond k e = elim o [ inl l ↦ inl (omega (arith, ints)) | inr l ↦ inr (omega (arith, ints)) ]

    off : (s : Bool) (k : ℕ) → (k < c.first) ⊎ (c.end ≤ k) → (is_inside c.first c.end k && s) ≡ false
    off s k q = grind (arith, nat_tests)

-- what the tests of the code mean
pub below_first : (v r s : ℤ) → int_lt v r ≡ true → r ≡ s → v <ℤ s
below_first v r s e q = grind (arith, ints)

pub above_last : (v r s : ℤ) → int_le r v ≡ true → r ≡ s → s ≤ℤ v
above_last v r s e q = grind (arith, ints)

pub not_below : (v r s : ℤ) → int_lt v r ≡ false → r ≡ s → s ≤ℤ v
not_below v r s e q = grind (arith, ints)

pub not_above : (v r s : ℤ) → int_le r v ≡ false → r ≡ s → v <ℤ s
not_above v r s e q = grind (arith, ints)

pub up_to : (v r s : ℤ) → int_le v r ≡ true → r ≡ s → v ≤ℤ s
up_to v r s e q = grind (arith, ints)

pub above : (v r s : ℤ) → int_le v r ≡ false → r ≡ s → s <ℤ v
above v r s e q = grind (arith, ints)

pub before_last : (v r s : ℤ) → int_lt v (r -ℤ pos 1) ≡ true → r ≡ s → (v +ℤ pos 1) <ℤ s
before_last v r s e q = grind (arith, ints)

pub from_last : (v r s : ℤ) → int_le (r -ℤ pos 1) v ≡ true → r ≡ s → s ≤ℤ (v +ℤ pos 1)
from_last v r s e q = grind (arith, ints)

pub from_first : (b v r : ℤ) (first k : ℕ) → int_lt v r ≡ false → r ≡ b +ℤ pos first → v ≡ b +ℤ pos k → first ≤ k
from_first b v r first k e q p = grind (arith, ints)

pub before_end : (b v r : ℤ) (end k : ℕ) → int_le r v ≡ false → r ≡ b +ℤ pos end → v ≡ b +ℤ pos k → k < end
before_end b v r end k e q p = grind (arith, ints)

-- a cell's values are ascending, and numbers within the limits
pub cell_ascends : (t : Table) (x : ℕ) (c : Cell) → x < length t.cells.items → get_or t.cells.items x c ≡ c → is_ascending (values_left (box_in t) x) ≡ true
cell_ascends t x c h at =
    ap is_ascending (values_at t.words.items t.cells.items x c h at) ∙ values_ascend (is_kept t.words.items c) c.base c.width (greatest_below (is_kept t.words.items c) c.base)

values_numbers : (f : ℕ → Bool) (v : ℤ) (n : ℕ) → negsuc 999999999 ≤ℤ v → (v +ℤ pos n) ≤ℤ pos 1000000001 → list_all is_number (values_below f v n) ≡ true
values_numbers f v zero a b = refl
values_numbers f v (suc n) a b =
    list_all-append is_number (values_below f v n) (cond (f n) ((v +ℤ pos n) ∷ []) [])
    ∙ (ap (λ p. p && list_all is_number (cond (f n) ((v +ℤ pos n) ∷ []) [])) (values_numbers f v n a (omega (arith, ints))) ∙ step (f n))
  where
    fits : is_number (v +ℤ pos n) ≡ true
    fits = small (v +ℤ pos n) (omega (arith, ints)) (omega (arith, ints))
      where
        small : (z : ℤ) → negsuc 999999999 ≤ℤ z → z ≤ℤ pos 1000000000 → is_number z ≡ true
        small z a b = grind (arith, nat_tests, ints)

    step : (b : Bool) → (true && list_all is_number (cond b ((v +ℤ pos n) ∷ []) [])) ≡ true
    step true = ap (λ p. p && true) fits
    step false = refl

pub cell_numbers : (t : Table) (x : ℕ) (c : Cell) → x < length t.cells.items → get_or t.cells.items x c ≡ c → IsCell t.words.items c → list_all is_number (values_left (box_in t) x) ≡ true
cell_numbers t x c h at i = ap (list_all is_number) (values_at t.words.items t.cells.items x c h at) ∙ values_numbers (is_kept t.words.items c) c.base c.width i.low i.high

pub single_is : (vs : List ℤ) → (length vs == 1) ≡ is_single vs
single_is [] = refl
single_is (v ∷ []) = refl
single_is (v ∷ w ∷ vs) = more (length vs)
  where
    more : (n : ℕ) → ((suc (suc n)) == 1) ≡ false
    more n = grind (arith, nat_tests)
