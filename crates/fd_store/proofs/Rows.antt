-- Values that are numbers in a row, by a cell without gaps.
use Rattle.std.proofs.Common.{◌≡◌, ℕ, zero, suc, ◌-◌, ◌<◌, ◌&&◌, true, false, cond, [], ◌∷◌, length, get_or, refl, sym, ap, subst, ◌∙◌, arith, ℤ}
use Rattle.std.specs.Prelude.{pos, ◌+ℤ◌, ◌≤ℤ◌, int_lt}
use Rattle.std.proofs.lemmas.Bool.{and_parts}
use Rattle.std.proofs.lemmas.Int.{ints}
use Rattle.qc_model.specs.Domains.{Values, values_left, is_none_left, is_ascending, least_value, least_from, greatest_value, greatest_from}
use Rattle.qc_model.specs.Lists.{numbers_from}
use Rattle.qc_model.proofs.DomainValues.{length-numbers}
use Rattle.fd_store.specs.declared.table.Cell.{Cell}
use Rattle.fd_store.specs.declared.table.Table.{Table}
use Rattle.fd_store.specs.Sound.{IsCell}
use Rattle.fd_store.specs.Takes.{box_in}
use Rattle.fd_store.proofs.Reading.{cell_ascends, greatest_is, least_is, left_some}
use Rattle.fd_store.proofs.Steps.{size_is}

-- the first of ascending values is the least
least_first : (v : ℤ) (us : Values) → is_ascending (v ∷ us) ≡ true → least_from v us ≡ v
least_first v [] a = refl
least_first v (w ∷ us) a =
    let p = and_parts (int_lt v w) (is_ascending (w ∷ us)) a in
    ap (λ b. least_from (cond b w v) us) (not_less v w p.0) ∙ least_first v us (over v w us p.0 p.1)
  where
    not_less : (v w : ℤ) → int_lt v w ≡ true → int_lt w v ≡ false
    not_less v w h = grind (arith, ints)

    over : (v w : ℤ) (us : Values) → int_lt v w ≡ true → is_ascending (w ∷ us) ≡ true → is_ascending (v ∷ us) ≡ true
    over v w [] h a = refl
    over v w (x ∷ us) h a =
        let p = and_parts (int_lt w x) (is_ascending (x ∷ us)) a in
        ap (λ b. b && is_ascending (x ∷ us)) (far v w x h p.0) ∙ p.1
      where
        far : (v w x : ℤ) → int_lt v w ≡ true → int_lt w x ≡ true → int_lt v x ≡ true
        far v w x h k = grind (arith, ints)

-- ascending values reach at least as far as numbers in a row
row_reaches : (w : ℤ) (us : Values) → is_ascending (w ∷ us) ≡ true → (w +ℤ pos (length us)) ≤ℤ greatest_value (w ∷ us)
row_reaches w [] a = itself w
  where
    itself : (w : ℤ) → (w +ℤ pos 0) ≤ℤ w
    itself w = grind (arith, ints)
row_reaches w (x ∷ us) a =
    let p = and_parts (int_lt w x) (is_ascending (x ∷ us)) a in
    subst (λ b. (w +ℤ pos (suc (length us))) ≤ℤ greatest_from (cond b x w) us) (sym p.0) (step w x (length us) (greatest_from x us) p.0 (row_reaches x us p.1))
  where
    step : (w x : ℤ) (n : ℕ) (m : ℤ) → int_lt w x ≡ true → (x +ℤ pos n) ≤ℤ m → (w +ℤ pos (suc n)) ≤ℤ m
    step w x n m h k = grind (arith, ints)

-- those that reach no farther are numbers in a row
in_a_row : (v : ℤ) (us : Values) → is_ascending (v ∷ us) ≡ true → greatest_value (v ∷ us) ≡ (v +ℤ pos (length us)) → (v ∷ us) ≡ numbers_from v (suc (length us))
in_a_row v [] a e = refl
in_a_row v (w ∷ us) a e =
    let p = and_parts (int_lt v w) (is_ascending (w ∷ us)) a in
    let top : greatest_from w us ≡ (v +ℤ pos (suc (length us))) = ap (λ b. greatest_from (cond b w v) us) (sym p.0) ∙ e in
    let next : w ≡ (v +ℤ pos 1) = one_more v w (length us) (greatest_from w us) p.0 (row_reaches w us p.1) top in
    ap (λ ws. v ∷ ws) (in_a_row w us p.1 (top ∙ on v w (length us) next) ∙ ap (λ z. numbers_from z (suc (length us))) next)
  where
    one_more : (v w : ℤ) (n : ℕ) (m : ℤ) → int_lt v w ≡ true → (w +ℤ pos n) ≤ℤ m → m ≡ (v +ℤ pos (suc n)) → w ≡ (v +ℤ pos 1)
    one_more v w n m h k e = grind (arith, ints)

    on : (v w : ℤ) (n : ℕ) → w ≡ (v +ℤ pos 1) → (v +ℤ pos (suc n)) ≡ (w +ℤ pos n)
    on v w n e = grind (arith, ints)

row_by : (vs : Values) (base least : ℤ) (first end count : ℕ) → is_ascending vs ≡ true → is_none_left vs ≡ false → length vs ≡ count → (base +ℤ pos first) ≡ least_value vs → (base +ℤ pos (end - 1)) ≡ greatest_value vs →
    first < end → count ≡ end - first → (base +ℤ pos first) ≡ least → vs ≡ numbers_from least count
row_by [] base least first end count a s n l g o c e = cc
row_by (v ∷ us) base least first end count a s n l g o c e =
    let own : least ≡ v = sym e ∙ (l ∙ least_first v us a) in
    let top : greatest_value (v ∷ us) ≡ (v +ℤ pos (length us)) = sym g ∙ far base v first end (length us) o (n ∙ c) (e ∙ own) in
    in_a_row v us a top ∙ (ap (λ k. numbers_from v k) n ∙ ap (λ z. numbers_from z count) (sym own))
  where
    far : (base v : ℤ) (first end k : ℕ) → first < end → suc k ≡ end - first → (base +ℤ pos first) ≡ v → (base +ℤ pos (end - 1)) ≡ (v +ℤ pos k)
    far base v first end k o c e = omega (arith, ints, o, c, e)

-- a cell without gaps
pub row_is : (t : Table) (x : ℕ) (c : Cell) (least : ℤ) (count : ℕ) → x < length t.cells.items → get_or t.cells.items x c ≡ c → IsCell t.words.items c → is_none_left (values_left (box_in t) x) ≡ false →
    c.size ≡ count → (c.base +ℤ pos c.first) ≡ least → c.size ≡ c.end - c.first → values_left (box_in t) x ≡ numbers_from least count
row_is t x c least count h at i some s l d =
    row_by (values_left (box_in t) x) c.base least c.first c.end count (cell_ascends t x c h at) some (size_is t.words.items t.cells.items x c h at i ∙ s)
    (least_is t x c h at i some) (greatest_is t x c h at i some) (left_some t x c h at some) (sym s ∙ d) l

-- the ends of numbers in a row
least_stays : (v w : ℤ) (n : ℕ) → v ≤ℤ w → least_from v (numbers_from w n) ≡ v
least_stays v w zero h = refl
least_stays v w (suc n) h = ap (λ b. least_from (cond b w v) (numbers_from (w +ℤ pos 1) n)) (not_less v w h) ∙ least_stays v (w +ℤ pos 1) n (up v w h)
  where
    not_less : (v w : ℤ) → v ≤ℤ w → int_lt w v ≡ false
    not_less v w h = grind (arith, ints)

    up : (v w : ℤ) → v ≤ℤ w → v ≤ℤ (w +ℤ pos 1)
    up v w h = grind (arith, ints)

greatest_moves : (v : ℤ) (n : ℕ) → greatest_from v (numbers_from (v +ℤ pos 1) n) ≡ (v +ℤ pos n)
greatest_moves v zero = itself v
  where
    itself : (v : ℤ) → v ≡ (v +ℤ pos 0)
    itself v = grind (arith, ints)
greatest_moves v (suc n) =
    ap (λ b. greatest_from (cond b (v +ℤ pos 1) v) (numbers_from ((v +ℤ pos 1) +ℤ pos 1) n)) (less v) ∙ (greatest_moves (v +ℤ pos 1) n ∙ on v n)
  where
    less : (v : ℤ) → int_lt v (v +ℤ pos 1) ≡ true
    less v = grind (arith, ints)

    on : (v : ℤ) (n : ℕ) → ((v +ℤ pos 1) +ℤ pos n) ≡ (v +ℤ pos (suc n))
    on v n = grind (arith, ints)

-- what a cell is whose values are numbers in a row
pub row_size : (t : Table) (x : ℕ) (c : Cell) (least : ℤ) (count : ℕ) → x < length t.cells.items → get_or t.cells.items x c ≡ c → IsCell t.words.items c → values_left (box_in t) x ≡ numbers_from least count → c.size ≡ count
row_size t x c least count h at i e = sym (size_is t.words.items t.cells.items x c h at i) ∙ (ap length e ∙ length-numbers least count)

pub row_least : (t : Table) (x : ℕ) (c : Cell) (least : ℤ) (count : ℕ) → x < length t.cells.items → get_or t.cells.items x c ≡ c → IsCell t.words.items c → is_none_left (values_left (box_in t) x) ≡ false →
    values_left (box_in t) x ≡ numbers_from least count → (c.base +ℤ pos c.first) ≡ least
row_least t x c least count h at i some e = least_is t x c h at i some ∙ (ap least_value e ∙ of count (sym (ap is_none_left e) ∙ some))
  where
    of : (n : ℕ) → is_none_left (numbers_from least n) ≡ false → least_value (numbers_from least n) ≡ least
    of zero q = cc
    of (suc n) q = least_stays least (least +ℤ pos 1) n (up least)
      where
        up : (v : ℤ) → v ≤ℤ (v +ℤ pos 1)
        up v = grind (arith, ints)

pub row_dense : (t : Table) (x : ℕ) (c : Cell) (least : ℤ) (count : ℕ) → x < length t.cells.items → get_or t.cells.items x c ≡ c → IsCell t.words.items c → is_none_left (values_left (box_in t) x) ≡ false →
    values_left (box_in t) x ≡ numbers_from least count → c.size ≡ c.end - c.first
row_dense t x c least count h at i some e =
    row_size t x c least count h at i e
    ∙ ends c.base least c.first c.end count (left_some t x c h at some) (row_least t x c least count h at i some e) (greatest_is t x c h at i some ∙ ap greatest_value e) (sym (ap is_none_left e) ∙ some)
  where
    ends : (base least : ℤ) (first end n : ℕ) → first < end → (base +ℤ pos first) ≡ least → (base +ℤ pos (end - 1)) ≡ greatest_value (numbers_from least n) → is_none_left (numbers_from least n) ≡ false → n ≡ end - first
    ends base least first end zero o l g q = cc
    ends base least first end (suc n) o l g q = far base least first end n o l (g ∙ greatest_moves least n)
      where
        far : (base least : ℤ) (first end n : ℕ) → first < end → (base +ℤ pos first) ≡ least → (base +ℤ pos (end - 1)) ≡ (least +ℤ pos n) → suc n ≡ end - first
        far base least first end n o l g = grind (arith, ints)
