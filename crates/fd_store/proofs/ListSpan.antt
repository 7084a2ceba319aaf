-- A listed domain: its ends, and the values of its cell.
use Rattle.std.proofs.Common.{◌≡◌, ◌⊎◌, inl, inr, ℕ, zero, suc, ◌+◌, ◌-◌, ◌*◌, ◌/◌, ◌%◌, ◌<◌, ◌≤◌, Bool, true, false, not, ◌&&◌, ◌||◌, List, [], ◌∷◌, length, get_or, refl, sym, ap, subst, ◌∙◌, arith, ℤ}
use Rattle.std.specs.Prelude.{pos, negsuc, ◌+ℤ◌, ◌-ℤ◌, ◌≤ℤ◌, ◌<ℤ◌, nat_abs, unsigned_abs, int_lt, nat_lt, nat_le, ◌==◌, All}
use Rattle.std.specs.Int.{bit_at}
use Rattle.std.specs.List.{list_all}
use Rattle.std.specs.Ordering.{int_eq}
use Rattle.std.proofs.lemmas.Bool.Decides.{nat_tests}
use Rattle.std.proofs.lemmas.Int.{ints}
use Rattle.std.proofs.lemmas.Nat.Bits.{bit_at-zero}
use Rattle.std.proofs.lemmas.Bool.{and_parts}
use mir.Val.{SFits}
use mir.Syntax.{w64}
use Rattle.qc_model.specs.Domains.{Values, is_ascending, is_none_left, has_value, least_value, greatest_value}
use Rattle.qc_model.specs.declared.problem.Domain.TheVariants.{Listed}
use Rattle.qc_model.specs.Valid.{is_domain, is_number, is_listed, has_gap, width_of}
use Rattle.qc_model.proofs.DomainValues.{domain_full, domain_fits}
use Rattle.qc_model.proofs.Widths.{least_is_first, greatest_is_last, listed_ascends, listed_domain, listed_width}
use Rattle.fd_store.specs.declared.table.Cell.{Cell}
use Rattle.fd_store.specs.Added.{IsLonger, AddsCell}
use Rattle.fd_store.specs.Places.{is_set, is_kept, is_inside, values_below, cell_values}
use Rattle.fd_store.proofs.Runs.{set_in}
use Rattle.fd_store.proofs.Values.{values_agree, length-values, has_is, has_none, greatest_below}
use Rattle.fd_store.proofs.Ascending.{same_values, values_ascend, eq_self, eq_is, lt_is}

asc_low : (x : ℤ) (xs : Values) (k : ℕ) (d : ℤ) → is_ascending (x ∷ xs) ≡ true → k ≤ length xs → x ≤ℤ get_or (x ∷ xs) k d
asc_low x xs zero d a h = omega (arith, ints)
asc_low x [] (suc k) d a h = absurd (omega arith)
asc_low x (w ∷ ws) (suc k) d a h =
    let p = and_parts (int_lt x w) (is_ascending (w ∷ ws)) a in
    let l = lt_is x w p.0 in
    let m = asc_low w ws k d p.1 (omega arith) in
    omega (arith, ints)

asc_high : (x : ℤ) (xs : Values) (k : ℕ) (d : ℤ) → is_ascending (x ∷ xs) ≡ true → k ≤ length xs → get_or (x ∷ xs) k d ≤ℤ get_or (x ∷ xs) (length xs) d
asc_high x xs zero d a h = asc_low x xs (length xs) d a (omega arith)
asc_high x [] (suc k) d a h = absurd (omega arith)
asc_high x (w ∷ ws) (suc k) d a h = asc_high w ws k d (and_parts (int_lt x w) (is_ascending (w ∷ ws)) a).1 (omega arith)

pub has_there : (ns : Values) (k : ℕ) (d : ℤ) → k < length ns → has_value ns (get_or ns k d) ≡ true
has_there [] k d h = absurd (omega arith)
has_there (n ∷ ns) zero d h = ap (λ b. b || has_value ns n) (eq_self n)
has_there (n ∷ ns) (suc k) d h = ap (λ b. int_eq (get_or ns k d) n || b) (has_there ns k d (omega arith)) ∙ any (int_eq (get_or ns k d) n)
  where
    any : (b : Bool) → (b || true) ≡ true
    any true = refl
    any false = refl

all_number : (ns : Values) (k : ℕ) (d : ℤ) → list_all is_number ns ≡ true → k < length ns → is_number (get_or ns k d) ≡ true
all_number [] k d a h = absurd (omega arith)
all_number (n ∷ ns) zero d a h = (and_parts (is_number n) (list_all is_number ns) a).0
all_number (n ∷ ns) (suc k) d a h = all_number ns k d (and_parts (is_number n) (list_all is_number ns) a).1 (omega arith)

pub record IsListSpan (ns : Values) : Type 0 where
  pub some : 0 < length ns
  pub ascends : is_ascending ns ≡ true
  pub narrow : width_of ns ≤ 1048576
  pub low : negsuc 999999999 ≤ℤ least_value ns
  pub high : (least_value ns +ℤ pos (width_of ns)) ≤ℤ pos 1000000001
  pub top : greatest_value ns ≡ least_value ns +ℤ pos (width_of ns - 1)
  pub each : All (λ v. (least_value ns ≤ℤ v) × (v <ℤ (least_value ns +ℤ pos (width_of ns)))) ns

pub list_span : (ns : Values) → is_domain (Listed ns) ≡ true → IsListSpan ns
list_span [] e = let f : is_none_left [] ≡ false = domain_full (Listed []) e in cc
list_span (n ∷ ns) e =
    let a : is_ascending (n ∷ ns) ≡ true = listed_ascends (n ∷ ns) (listed_domain (n ∷ ns) e) in
    let l = least_is_first (n ∷ ns) (pos 0) (omega arith) a in
    let g = greatest_is_last (n ∷ ns) (pos 0) (omega arith) a in
    let place : length (n ∷ ns) - 1 ≡ length ns = omega arith in
    let g2 : greatest_value (n ∷ ns) ≡ get_or (n ∷ ns) (length ns) (pos 0) = g ∙ ap (λ k. get_or (n ∷ ns) k (pos 0)) place in
    let up : least_value (n ∷ ns) ≤ℤ greatest_value (n ∷ ns) = subst (λ v. v ≤ℤ greatest_value (n ∷ ns)) (sym l) (subst (λ v. n ≤ℤ v) (sym g2) (asc_low n ns (length ns) (pos 0) a (omega arith))) in
    let first = all_number (n ∷ ns) 0 (pos 0) (domain_fits (Listed (n ∷ ns)) e) (omega arith) in
    let last = subst (λ v. is_number v ≡ true) (sym g2) (all_number (n ∷ ns) (length ns) (pos 0) (domain_fits (Listed (n ∷ ns)) e) (omega arith)) in
    let first2 = subst (λ v. is_number v ≡ true) (sym l) first in
    record {
      some = omega arith;
      ascends = a;
      narrow = listed_width (n ∷ ns) e;
      low = low_of (least_value (n ∷ ns)) first2;
      high = high_of (least_value (n ∷ ns)) (greatest_value (n ∷ ns)) up last;
      top = top_of (least_value (n ∷ ns)) (greatest_value (n ∷ ns)) up;
      each = λ k d h. (
        subst (λ v. v ≤ℤ get_or (n ∷ ns) k d) (sym l) (asc_low n ns k d a (omega arith)),
        below_of (least_value (n ∷ ns)) (greatest_value (n ∷ ns)) (get_or (n ∷ ns) k d) up
            (subst (λ v. get_or (n ∷ ns) k d ≤ℤ v) (sym (greatest_is_last (n ∷ ns) d (omega arith) a ∙ ap (λ j. get_or (n ∷ ns) j d) place)) (asc_high n ns k d a (omega arith))),
      );
    }
  where
    low_of : (z : ℤ) → is_number z ≡ true → negsuc 999999999 ≤ℤ z
    low_of z e = grind (arith, nat_tests, ints)

    high_of : (l g : ℤ) → l ≤ℤ g → is_number g ≡ true → (l +ℤ pos (nat_abs (g -ℤ l) + 1)) ≤ℤ pos 1000000001
    high_of l g u e = let s = small g e in omega (arith, ints)
      where
        small : (z : ℤ) → is_number z ≡ true → unsigned_abs z ≤ 1000000000
        small z e = grind (arith, nat_tests)

    top_of : (l g : ℤ) → l ≤ℤ g → g ≡ l +ℤ pos (nat_abs (g -ℤ l) + 1 - 1)
    top_of l g u = omega (arith, ints)

    below_of : (l g v : ℤ) → l ≤ℤ g → v ≤ℤ g → v <ℤ (l +ℤ pos (nat_abs (g -ℤ l) + 1))
    below_of l g v u h = omega (arith, ints)

in_span : (base : ℤ) (n : ℕ) (ns : Values) (v : ℤ) → All (λ u. (base ≤ℤ u) × (u <ℤ (base +ℤ pos n))) ns → has_value ns v ≡ true → (base ≤ℤ v) × (v <ℤ (base +ℤ pos n))
in_span base n [] v a e = cc
in_span base n (u ∷ us) v a e = pick (int_eq v u) refl e (in_span base n us v (λ k d h. a (suc k) d (omega arith)))
  where
    pick : (b : Bool) → int_eq v u ≡ b → (b || has_value us v) ≡ true → (has_value us v ≡ true → (base ≤ℤ v) × (v <ℤ (base +ℤ pos n))) → (base ≤ℤ v) × (v <ℤ (base +ℤ pos n))
    pick true q e f = subst (λ w. (base ≤ℤ w) × (w <ℤ (base +ℤ pos n))) (sym (eq_is v u q)) (a 0 u (omega arith))
    pick false q e f = f e

where_is : (b : ℤ) (n : ℕ) (v : ℤ) → ((v <ℤ b) ⊎ ((b +ℤ pos n) ≤ℤ v)) ⊎ ((k : ℕ) × (k < n) × (v ≡ b +ℤ pos k))
where_is b n v = elim (low b v) [
  | inl l ↦ inl (inl l)
  | inr l ↦ elim (high b n v) [ inl m ↦ inl (inr m) | inr m ↦ inr (nat_abs (v -ℤ b), omega (arith, ints), omega (arith, ints)) ]
]
  where
    low : (b v : ℤ) → (v <ℤ b) ⊎ (b ≤ℤ v)
    low b v = grind (arith, ints)

    high : (b : ℤ) (n : ℕ) (v : ℤ) → ((b +ℤ pos n) ≤ℤ v) ⊎ (v <ℤ (b +ℤ pos n))
    high b n v = grind (arith, ints)

-- the values that a list's bits stand for are the list
pub listed_values : (ns : Values) (base : ℤ) (n : ℕ) → is_ascending ns ≡ true → All (λ u. (base ≤ℤ u) × (u <ℤ (base +ℤ pos n))) ns → values_below (λ k. has_value ns (base +ℤ pos k)) base n ≡ ns
listed_values ns base n a each = same_values (values_below f base n) ns (values_ascend f base n (greatest_below f base)) a (λ v. elim (where_is base n v) [
  | inl far ↦ has_none f base n v far ∙ sym (off v far (has_value ns v) refl)
  | inr near ↦ ap (has_value (values_below f base n)) near.2 ∙ (has_is f base n near.0 near.1 ∙ ap (has_value ns) (sym near.2))
])
  where
    f : ℕ → Bool
    f = λ k. has_value ns (base +ℤ pos k)

    off : (v : ℤ) → (v <ℤ base) ⊎ ((base +ℤ pos n) ≤ℤ v) → (b : Bool) → has_value ns v ≡ b → b ≡ false
    off v far false e = refl
    off v far true e = let s = in_span base n ns v each e in elim far [ inl l ↦ absurd (omega (arith, ints)) | inr l ↦ absurd (omega (arith, ints)) ]

zero_words : (words mid : List ℕ) (n k : ℕ) → IsLonger words mid ((n + 63) / 64) 0 → k < n → is_set mid (64 * length words + k) ≡ false
zero_words words mid n k i h =
    let w = length words + k / 64 in
    let word : get_or mid w 0 ≡ 0 = i.added w (omega arith) (omega (arith, i.long)) in
    let place : 64 * length words + k ≡ 64 * w + (k - 64 * (k / 64)) = omega arith in
    ap (is_set mid) place ∙ (set_in mid w (k - 64 * (k / 64)) (omega arith)
    ∙ (ap (λ b. bit_at b (k - 64 * (k / 64)) == 1) word ∙ ap (λ b. b == 1) (bit_at-zero (k - 64 * (k / 64)))))

pub adds_list : (words mid now : List ℕ) (ns : Values) (base : ℤ) (n start : ℕ) (c : Cell) → IsListSpan ns → base ≡ least_value ns → n ≡ width_of ns → IsLonger words mid ((n + 63) / 64) 0 →
    start ≡ length words → length now ≡ length mid → ((p : ℕ) → p < 64 * start → is_set now p ≡ is_set mid p) →
    ((k : ℕ) → k < n → is_set now (64 * start + k) ≡ (is_set mid (64 * start + k) || has_value ns (base +ℤ pos k))) →
    c ≡ record { base = base; start = start; width = n; first = 0; end = n; size = length ns } → AddsCell words now c n ns
adds_list words mid now ns base n start c s eb en i es long before bits ec = subst (λ (d : Cell). AddsCell words now d n ns) (sym ec) (record {
  long = long ∙ i.long;
  before = λ p h. before p (omega (arith, es)) ∙ ap (λ b. bit_at b (p % 64) == 1) (i.before (p / 64) (omega arith));
  start = es;
  cell = record {
    inside = omega (arith, es, long, i.long);
    narrow = omega (arith, s.narrow, en);
    low = subst (λ b. negsuc 999999999 ≤ℤ b) (sym eb) s.low;
    high = subst (λ b. (b +ℤ pos n) ≤ℤ pos 1000000001) (sym eb) (subst (λ m. (least_value ns +ℤ pos m) ≤ℤ pos 1000000001) (sym en) s.high);
    order = omega arith;
    within = omega arith;
    first = λ q. set 0 (omega arith) ∙ (ap (has_value ns) first_value ∙ has_there ns 0 (pos 0) s.some);
    last = λ q. set (n - 1) (omega arith) ∙ (ap (has_value ns) last_value ∙ has_there ns (length ns - 1) (pos 0) (omega (arith, s.some)));
    size = sym (sym (length-values (is_kept now d) base n) ∙ ap length values);
  };
  values = values;
})
  where
    d : Cell
    d = record { base = base; start = start; width = n; first = 0; end = n; size = length ns }

    set : (k : ℕ) → k < n → is_set now (64 * start + k) ≡ has_value ns (base +ℤ pos k)
    set k h = bits k h ∙ ap (λ b. b || has_value ns (base +ℤ pos k)) (ap (λ m. is_set mid (64 * m + k)) es ∙ zero_words words mid n k i h)

    first_value : base +ℤ pos 0 ≡ get_or ns 0 (pos 0)
    first_value = same base ∙ (eb ∙ least_is_first ns (pos 0) s.some s.ascends)
      where
        same : (b : ℤ) → b +ℤ pos 0 ≡ b
        same b = omega (arith, ints)

    last_value : base +ℤ pos (n - 1) ≡ get_or ns (length ns - 1) (pos 0)
    last_value = ap (λ b. b +ℤ pos (n - 1)) eb ∙ (ap (λ m. least_value ns +ℤ pos (m - 1)) en ∙ (sym s.top ∙ greatest_is_last ns (pos 0) s.some s.ascends))

    kept : (k : ℕ) → k < n → is_kept now d k ≡ has_value ns (base +ℤ pos k)
    kept k h = inside k h (is_set now (64 * start + k)) ∙ set k h
      where
        inside : (k : ℕ) → k < n → (s : Bool) → (is_inside 0 n k && s) ≡ s
        inside k h s = grind (arith, nat_tests)

    each : All (λ u. (base ≤ℤ u) × (u <ℤ (base +ℤ pos n))) ns
    each = λ k e h. let p = s.each k e h in
        (subst (λ b. b ≤ℤ get_or ns k e) (sym eb) p.0, subst (λ b. get_or ns k e <ℤ (b +ℤ pos n)) (sym eb) (subst (λ m. get_or ns k e <ℤ (least_value ns +ℤ pos m)) (sym en) p.1))

    values : cell_values now d ≡ ns
    values = values_agree (λ k. has_value ns (base +ℤ pos k)) (is_kept now d) base n kept ∙ listed_values ns base n s.ascends each

-- the ends of a listed domain are numbers that fit a word
pub fits_of : (z : ℤ) → negsuc 999999999 ≤ℤ z → z ≤ℤ pos 1000000001 → SFits w64 z
fits_of z a b = omega (arith, ints)

pub first_is : (ns : Values) → is_domain (Listed ns) ≡ true → get_or ns 0 (pos 0) ≡ least_value ns
first_is ns e = let s = list_span ns e in sym (least_is_first ns (pos 0) s.some s.ascends)

pub last_is : (ns : Values) → is_domain (Listed ns) ≡ true → get_or ns (length ns - 1) (pos 0) ≡ greatest_value ns
last_is ns e = let s = list_span ns e in sym (greatest_is_last ns (pos 0) s.some s.ascends)

pub least_fits : (ns : Values) → is_domain (Listed ns) ≡ true → SFits w64 (least_value ns)
least_fits ns e = let s = list_span ns e in fits_of (least_value ns) s.low (low_of (least_value ns) (width_of ns) s.high)
  where
    low_of : (z : ℤ) (n : ℕ) → (z +ℤ pos n) ≤ℤ pos 1000000001 → z ≤ℤ pos 1000000001
    low_of z n h = omega (arith, ints)

pub greatest_fits : (ns : Values) → is_domain (Listed ns) ≡ true → SFits w64 (greatest_value ns)
greatest_fits ns e = let s = list_span ns e in fits_of (greatest_value ns) (low_of (least_value ns) (greatest_value ns) (width_of ns) s.low s.top) (high_of (least_value ns) (greatest_value ns) (width_of ns) s.top s.high)
  where
    low_of : (l g : ℤ) (n : ℕ) → negsuc 999999999 ≤ℤ l → g ≡ l +ℤ pos (n - 1) → negsuc 999999999 ≤ℤ g
    low_of l g n a e = omega (arith, ints)

    high_of : (l g : ℤ) (n : ℕ) → g ≡ l +ℤ pos (n - 1) → (l +ℤ pos n) ≤ℤ pos 1000000001 → g ≤ℤ pos 1000000001
    high_of l g n e h = omega (arith, ints)

-- there are few of them, and the width is small
pub few_numbers : (ns : Values) → is_domain (Listed ns) ≡ true → length ns < 4294967296
few_numbers ns e =
    let p = and_parts (not (is_none_left ns) && is_listed ns && has_gap ns) (nat_le (width_of ns) 1048576) e in
    let q = and_parts (not (is_none_left ns) && is_listed ns) (has_gap ns) p.0 in
    small (length ns) (width_of ns) q.1 (listed_width ns e)
  where
    small : (n w : ℕ) → nat_lt n w ≡ true → w ≤ 1048576 → n < 4294967296
    small n w h l = grind (arith, nat_tests)

pub width_narrow : (w n : ℕ) → w ≡ n → n ≤ 1048576 → w ≤ 1048576
width_narrow w n e h = omega arith

pub width_fits : (w n : ℕ) → w ≡ n → n ≤ 1048576 → w < 18446744073709551616
width_fits w n e h = omega arith

pub width_more_fits : (w n : ℕ) → w ≡ n → n ≤ 1048576 → w + 63 < 18446744073709551616
width_more_fits w n e h = omega arith

-- the words that were added for it
pub longer_few : (words now w n : ℕ) → now ≡ words + (w + 63) / 64 → w ≡ n → words + (n + 63) / 64 ≤ 100000 → now ≤ 100000
longer_few words now w n l e h = omega arith

pub longer_inside : (words now start w : ℕ) → now ≡ words + (w + 63) / 64 → start ≡ words → 64 * start + w ≤ 64 * now
longer_inside words now start w l e = omega arith
