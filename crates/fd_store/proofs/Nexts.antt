-- The next value that is left, up or down.
use Rattle.std.proofs.Common.{◌≡◌, ℕ, zero, suc, ◌+◌, ◌-◌, ◌*◌, ◌<◌, ◌≤◌, Bool, true, false, ◌&&◌, cond, length, get_or, filter, refl, sym, ap, ◌∙◌, arith, ℤ, [], ◌∷◌, ◌++◌, None, Some}
use Rattle.std.specs.Prelude.{pos, ◌+ℤ◌, ◌-ℤ◌, ◌<ℤ◌, ◌≤ℤ◌, int_le, nat_abs, nat_le, nat_lt}
use Rattle.std.specs.Int.{int_min, int_max}
use Rattle.std.proofs.lemmas.Bool.Decides.{nat_tests}
use Rattle.std.proofs.lemmas.Int.{ints}
use Rattle.std.proofs.lemmas.List.Elements.{filter-append}
use Rattle.qc_model.specs.Domains.{Values, values_left, greatest_value}
use Rattle.fd_store.specs.declared.table.Cell.{Cell}
use Rattle.fd_store.specs.declared.table.Table.{Table}
use Rattle.fd_store.specs.Held.{values_from, values_up_to, least_of, greatest_of}
use Rattle.fd_store.specs.Places.{is_set, is_kept, is_inside, values_below}
use Rattle.fd_store.specs.Sound.{IsCell}
use Rattle.fd_store.specs.Takes.{box_in}
use Rattle.fd_store.proofs.Values.{HasLeast, values_none, length-values, least_of as least_at, greatest_of as greatest_at}
use Rattle.fd_store.proofs.Cells.{values_at}
use Rattle.fd_store.proofs.Counts.{count_some}
use Rattle.fd_store.proofs.MovedEnds.{set_dense}

-- the values that pass one more test
values_filter : (f : ℕ → Bool) (p : ℤ → Bool) (v : ℤ) (n : ℕ) → filter p (values_below f v n) ≡ values_below (λ k. f k && p (v +ℤ pos k)) v n
values_filter f p v zero = refl
values_filter f p v (suc n) =
    filter-append p (values_below f v n) (cond (f n) ((v +ℤ pos n) ∷ []) [])
    ∙ (ap (λ us. us ++ filter p (cond (f n) ((v +ℤ pos n) ∷ []) [])) (values_filter f p v n)
    ∙ ap (λ us. values_below (λ k. f k && p (v +ℤ pos k)) v n ++ us) (step (f n)))
  where
    step : (b : Bool) → filter p (cond b ((v +ℤ pos n) ∷ []) []) ≡ cond (b && p (v +ℤ pos n)) ((v +ℤ pos n) ∷ []) []
    step true = refl
    step false = refl

some_least : (vs : Values) (m : ℤ) → HasLeast vs m → Some m ≡ least_of vs
some_least [] m h = absurd (omega (arith, h.some))
some_least (v ∷ vs) m h = ap Some (sym h.least)

some_greatest : (vs : Values) (m : ℤ) → 0 < length vs → greatest_value vs ≡ m → Some m ≡ greatest_of vs
some_greatest [] m h e = absurd (omega arith)
some_greatest (v ∷ vs) m h e = ap Some (sym e)

-- a place that the code found: the first from a on, or the last below e
kept_true : (s p : Bool) (first end k : ℕ) → first ≤ k → k < end → s ≡ true → p ≡ true → ((is_inside first end k && s) && p) ≡ true
kept_true s p first end k h l e q = grind (arith, nat_tests)

before_next : (s p : Bool) (first end a k next : ℕ) → (first ≤ k → k < end → nat_le a k ≡ p) → (a ≤ k → k < next → s ≡ false) → k < next → ((is_inside first end k && s) && p) ≡ false
before_next s p first end a k next f g h = grind (arith, nat_tests)

after_prev : (s p : Bool) (first end e k last : ℕ) → (first ≤ k → k < end → nat_lt k e ≡ p) → (last < k → k < e → s ≡ false) → last < k → ((is_inside first end k && s) && p) ≡ false
after_prev s p first end e k last f g h = grind (arith, nat_tests)

none_next : (s p : Bool) (first end a k : ℕ) → end ≤ a → (first ≤ k → k < end → nat_le a k ≡ p) → ((is_inside first end k && s) && p) ≡ false
none_next s p first end a k h f = grind (arith, nat_tests)

none_prev : (s p : Bool) (first end e k : ℕ) → e ≤ first → (first ≤ k → k < end → nat_lt k e ≡ p) → ((is_inside first end k && s) && p) ≡ false
none_prev s p first end e k h f = grind (arith, nat_tests)

from_is : (t : Table) (x : ℕ) (c : Cell) (v : ℤ) → x < length t.cells.items → get_or t.cells.items x c ≡ c →
    values_from v (values_left (box_in t) x) ≡ values_below (λ k. is_kept t.words.items c k && int_le v (c.base +ℤ pos k)) c.base c.width
from_is t x c v h at = ap (values_from v) (values_at t.words.items t.cells.items x c h at) ∙ values_filter (is_kept t.words.items c) (int_le v) c.base c.width

up_to_is : (t : Table) (x : ℕ) (c : Cell) (v : ℤ) → x < length t.cells.items → get_or t.cells.items x c ≡ c →
    values_up_to v (values_left (box_in t) x) ≡ values_below (λ k. is_kept t.words.items c k && int_le (c.base +ℤ pos k) v) c.base c.width
up_to_is t x c v h at = ap (values_up_to v) (values_at t.words.items t.cells.items x c h at) ∙ values_filter (is_kept t.words.items c) (λ u. int_le u v) c.base c.width

pub next_found : (t : Table) (x : ℕ) (c : Cell) (v : ℤ) (a place : ℕ) → x < length t.cells.items → get_or t.cells.items x c ≡ c → IsCell t.words.items c → c.first ≤ a →
    ((k : ℕ) → c.first ≤ k → k < c.end → nat_le a k ≡ int_le v (c.base +ℤ pos k)) → 64 * c.start + a ≤ place → place < 64 * c.start + c.end → is_set t.words.items place ≡ true →
    ((p : ℕ) → 64 * c.start + a ≤ p → p < place → is_set t.words.items p ≡ false) →
    Some (c.base +ℤ pos (place - 64 * c.start)) ≡ least_of (values_from v (values_left (box_in t) x))
next_found t x c v a place h at i low test from below found none =
    let k = place - 64 * c.start in
    let here : 64 * c.start + (place - 64 * c.start) ≡ place = omega arith in
    let passes : nat_le a (place - 64 * c.start) ≡ true = up a (place - 64 * c.start) (omega arith) in
    some_least _ _ (least_at (λ j. is_kept t.words.items c j && int_le v (c.base +ℤ pos j)) c.base k c.width (omega (arith, i.within))
    (kept_true (is_set t.words.items (64 * c.start + k)) (int_le v (c.base +ℤ pos k)) c.first c.end k (omega arith) (omega arith) (ap (is_set t.words.items) here ∙ found) (sym (test k (omega arith) (omega arith)) ∙ passes))
    (λ j l. before_next (is_set t.words.items (64 * c.start + j)) (int_le v (c.base +ℤ pos j)) c.first c.end a j k (test j) (λ m n. none (64 * c.start + j) (omega arith) (omega arith)) l))
    ∙ ap least_of (sym (from_is t x c v h at))
  where
    up : (a k : ℕ) → a ≤ k → nat_le a k ≡ true
    up a k l = grind (arith, nat_tests)

pub next_none : (t : Table) (x : ℕ) (c : Cell) (v : ℤ) (a : ℕ) → x < length t.cells.items → get_or t.cells.items x c ≡ c → c.end ≤ a →
    ((k : ℕ) → c.first ≤ k → k < c.end → nat_le a k ≡ int_le v (c.base +ℤ pos k)) → None ≡ least_of (values_from v (values_left (box_in t) x))
next_none t x c v a h at l test = sym (ap least_of (from_is t x c v h at
    ∙ values_none (λ k. is_kept t.words.items c k && int_le v (c.base +ℤ pos k)) c.base c.width (λ k m. none_next (is_set t.words.items (64 * c.start + k)) (int_le v (c.base +ℤ pos k)) c.first c.end a k l (test k))))

pub prev_found : (t : Table) (x : ℕ) (c : Cell) (v : ℤ) (e end : ℕ) → x < length t.cells.items → get_or t.cells.items x c ≡ c → IsCell t.words.items c → e ≤ c.end →
    ((k : ℕ) → c.first ≤ k → k < c.end → nat_lt k e ≡ int_le (c.base +ℤ pos k) v) → 64 * c.start + c.first < end → end ≤ 64 * c.start + e → is_set t.words.items (end - 1) ≡ true →
    ((p : ℕ) → end ≤ p → p < 64 * c.start + e → is_set t.words.items p ≡ false) →
    Some (c.base +ℤ pos (end - 1 - 64 * c.start)) ≡ greatest_of (values_up_to v (values_left (box_in t) x))
prev_found t x c v e end h at i high test from below found none =
    let k = end - 1 - 64 * c.start in
    let f = λ (j : ℕ). is_kept t.words.items c j && int_le (c.base +ℤ pos j) v in
    let here : 64 * c.start + (end - 1 - 64 * c.start) ≡ end - 1 = omega arith in
    let passes : nat_lt (end - 1 - 64 * c.start) e ≡ true = up (end - 1 - 64 * c.start) e (omega arith) in
    let kept : f k ≡ true = kept_true (is_set t.words.items (64 * c.start + k)) (int_le (c.base +ℤ pos k) v) c.first c.end k (omega arith) (omega arith) (ap (is_set t.words.items) here ∙ found) (sym (test k (omega arith) (omega arith)) ∙ passes) in
    some_greatest _ _ (some_values f c.base k c.width (omega (arith, i.within)) kept)
    (greatest_at f c.base k c.width (omega (arith, i.within)) kept
    (λ j l m. after_prev (is_set t.words.items (64 * c.start + j)) (int_le (c.base +ℤ pos j) v) c.first c.end e j k (test j) (λ a b. none (64 * c.start + j) (omega arith) (omega arith)) l))
    ∙ ap greatest_of (sym (up_to_is t x c v h at))
  where
    up : (k e : ℕ) → k < e → nat_lt k e ≡ true
    up k e l = grind (arith, nat_tests)

    some_values : (f : ℕ → Bool) (b : ℤ) (k n : ℕ) → k < n → f k ≡ true → 0 < length (values_below f b n)
    some_values f b k n h e = omega (arith, length-values f b n, count_some f n k h e)

pub prev_none : (t : Table) (x : ℕ) (c : Cell) (v : ℤ) (e : ℕ) → x < length t.cells.items → get_or t.cells.items x c ≡ c → e ≤ c.first →
    ((k : ℕ) → c.first ≤ k → k < c.end → nat_lt k e ≡ int_le (c.base +ℤ pos k) v) → None ≡ greatest_of (values_up_to v (values_left (box_in t) x))
prev_none t x c v e h at l test = sym (ap greatest_of (up_to_is t x c v h at
    ∙ values_none (λ k. is_kept t.words.items c k && int_le (c.base +ℤ pos k) v) c.base c.width (λ k m. none_prev (is_set t.words.items (64 * c.start + k)) (int_le (c.base +ℤ pos k) v) c.first c.end e k l (test k))))

-- where no place between the ends is missing
next_at : (t : Table) (x : ℕ) (c : Cell) (v : ℤ) (a : ℕ) → x < length t.cells.items → get_or t.cells.items x c ≡ c → IsCell t.words.items c → c.size ≡ c.end - c.first → c.first ≤ a → a < c.end →
    ((k : ℕ) → c.first ≤ k → k < c.end → nat_le a k ≡ int_le v (c.base +ℤ pos k)) → Some (c.base +ℤ pos a) ≡ least_of (values_from v (values_left (box_in t) x))
next_at t x c v a h at i d low l test =
    ap (λ k. Some (c.base +ℤ pos k)) place
    ∙ next_found t x c v a (64 * c.start + a) h at i low test (omega arith) (omega arith) (set_dense t.words.items c a i d low l) (λ p m n. absurd (omega arith))
  where
    place : a ≡ 64 * c.start + a - 64 * c.start
    place = omega arith

prev_at : (t : Table) (x : ℕ) (c : Cell) (v : ℤ) (e : ℕ) → x < length t.cells.items → get_or t.cells.items x c ≡ c → IsCell t.words.items c → c.size ≡ c.end - c.first → c.first < e → e ≤ c.end →
    ((k : ℕ) → c.first ≤ k → k < c.end → nat_lt k e ≡ int_le (c.base +ℤ pos k) v) → Some (c.base +ℤ pos (e - 1)) ≡ greatest_of (values_up_to v (values_left (box_in t) x))
prev_at t x c v e h at i d low l test =
    ap (λ k. Some (c.base +ℤ pos k)) place
    ∙ prev_found t x c v e (64 * c.start + e) h at i l test (omega arith) (omega arith) (ap (is_set t.words.items) last ∙ set_dense t.words.items c (e - 1) i d (omega arith) (omega arith)) (λ p m n. absurd (omega arith))
  where
    place : e - 1 ≡ 64 * c.start + e - 1 - 64 * c.start
    place = omega arith

    last : 64 * c.start + e - 1 ≡ 64 * c.start + (e - 1)
    last = omega arith

-- the place of a value between the ends
place_of : (b v : ℤ) (first end : ℕ) → (b +ℤ pos first) ≤ℤ v → v <ℤ (b +ℤ pos end) → (k : ℕ) × (first ≤ k) × (k < end) × (v ≡ b +ℤ pos k)
place_of b v first end l m = (nat_abs (v -ℤ b), omega (arith, ints), omega (arith, ints), omega (arith, ints))

-- then the next value is v itself or the least one, and the one before is v itself or the greatest one
pub next_dense : (t : Table) (x : ℕ) (c : Cell) (v next : ℤ) → x < length t.cells.items → get_or t.cells.items x c ≡ c → IsCell t.words.items c → c.size ≡ c.end - c.first →
    next ≡ int_max v (c.base +ℤ pos c.first) → next <ℤ (c.base +ℤ pos c.end) → Some next ≡ least_of (values_from v (values_left (box_in t) x))
next_dense t x c v next h at i d e m =
    let p = place_of c.base next c.first c.end (above c.base c.first e) m in
    ap Some p.3 ∙ next_at t x c v p.0 h at i d p.1 p.2 (λ k l n. test c.base c.first p.0 k e p.3 l)
  where
    above : (b : ℤ) (first : ℕ) → next ≡ int_max v (b +ℤ pos first) → (b +ℤ pos first) ≤ℤ next
    above b first e = grind (arith, ints)

    test : (b : ℤ) (first a k : ℕ) → next ≡ int_max v (b +ℤ pos first) → next ≡ b +ℤ pos a → first ≤ k → nat_le a k ≡ int_le v (b +ℤ pos k)
    test b first a k e p l = grind (arith, ints, nat_tests)

pub next_past : (t : Table) (x : ℕ) (c : Cell) (v next : ℤ) → x < length t.cells.items → get_or t.cells.items x c ≡ c →
    next ≡ int_max v (c.base +ℤ pos c.first) → (c.base +ℤ pos c.end) ≤ℤ next → None ≡ least_of (values_from v (values_left (box_in t) x))
next_past t x c v next h at e m = next_none t x c v c.end h at (omega arith) (λ k l n. test c.base c.first c.end k e m l n)
  where
    test : (b : ℤ) (first end k : ℕ) → next ≡ int_max v (b +ℤ pos first) → (b +ℤ pos end) ≤ℤ next → first ≤ k → k < end → nat_le end k ≡ int_le v (b +ℤ pos k)
    test b first end k e m l n = grind (arith, ints, nat_tests)

pub prev_dense : (t : Table) (x : ℕ) (c : Cell) (v prev : ℤ) → x < length t.cells.items → get_or t.cells.items x c ≡ c → IsCell t.words.items c → c.size ≡ c.end - c.first →
    prev ≡ int_min v ((c.base +ℤ pos c.end) -ℤ pos 1) → (c.base +ℤ pos c.first) ≤ℤ prev → Some prev ≡ greatest_of (values_up_to v (values_left (box_in t) x))
prev_dense t x c v prev h at i d e m =
    let p = place_of c.base prev c.first c.end m (below c.base c.end e) in
    ap Some (p.3 ∙ ap (λ k. c.base +ℤ pos k) (last p.0))
    ∙ prev_at t x c v (p.0 + 1) h at i d (omega (arith, p.1)) (omega (arith, p.2)) (λ k l n. test c.base c.end p.0 k e p.3 n)
  where
    below : (b : ℤ) (end : ℕ) → prev ≡ int_min v ((b +ℤ pos end) -ℤ pos 1) → prev <ℤ (b +ℤ pos end)
    below b end e = grind (arith, ints)

    last : (k : ℕ) → k ≡ k + 1 - 1
    last k = omega arith

    test : (b : ℤ) (end j k : ℕ) → prev ≡ int_min v ((b +ℤ pos end) -ℤ pos 1) → prev ≡ b +ℤ pos j → k < end → nat_lt k (j + 1) ≡ int_le (b +ℤ pos k) v
    test b end j k e p l = grind (arith, ints, nat_tests)

pub prev_past : (t : Table) (x : ℕ) (c : Cell) (v prev : ℤ) → x < length t.cells.items → get_or t.cells.items x c ≡ c →
    prev ≡ int_min v ((c.base +ℤ pos c.end) -ℤ pos 1) → prev <ℤ (c.base +ℤ pos c.first) → None ≡ greatest_of (values_up_to v (values_left (box_in t) x))
prev_past t x c v prev h at e m = prev_none t x c v c.first h at (omega arith) (λ k l n. test c.base c.first c.end k e m l n)
  where
    test : (b : ℤ) (first end k : ℕ) → prev ≡ int_min v ((b +ℤ pos end) -ℤ pos 1) → prev <ℤ (b +ℤ pos first) → first ≤ k → k < end → nat_lt k first ≡ int_le (b +ℤ pos k) v
    test b first end k e m l n = grind (arith, ints, nat_tests)
