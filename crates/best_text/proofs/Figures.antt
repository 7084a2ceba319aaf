-- Where numbers stop.
use Rattle.std.proofs.Common.{◌≡◌, ◌⊎◌, inl, inr, refl, sym, ap, ◌∙◌, subst, ℕ, zero, suc, ◌+◌, ◌-◌, ◌*◌, ◌^◌, ◌≤◌, ◌<◌, List, [], ◌∷◌, ◌++◌, length, append_assoc, arith, leb-true, le-leb}
use Rattle.std.specs.Prelude.{ℤ, pos, negsuc, IsTrue, nat_le, unsigned_abs}
use Rattle.std.specs.Fmt.{decimal, signed_decimal}
use Rattle.std.proofs.lemmas.Fmt.{decimal_digit}
use Rattle.std.proofs.lemmas.List.{append-nil}
use Rattle.proof_text.proofs.Grammar.{AreDigits, value}
use Rattle.proof_text.proofs.Digits.{parts, value_grows, decimal_value}
use Rattle.best_text.specs.Stuck.{BeginAlike, IsStuck, IsWord, IsCount, IsSigned, BeginsPlain}
use Rattle.best_text.proofs.Alike.{first_stays}

-- the digits of a number from 1
pub record IsDecimal (n : ℕ) : Type 0 where
  pub first : ℕ
  pub ds : List ℕ
  pub is : decimal n ≡ first ∷ ds
  pub low : 49 ≤ first
  pub high : first ≤ 57
  pub are : AreDigits (decimal n)
  pub sum : value 0 (decimal n) ≡ n

pub decimal_of : (n : ℕ) → 1 ≤ n → n < 2 ^ 64 → IsDecimal n
decimal_of n l h =
    let p = parts n h l in
    let low = p.low in
    let high = p.high in
    let all : AreDigits (p.first ∷ p.ds) = (omega arith, high, p.are) in
    let none : 10 * 0 + (p.first - 48) ≡ p.first - 48 = omega arith in
    record {
      first = p.first;
      ds = p.ds;
      is = p.is;
      low = low;
      high = high;
      are = subst AreDigits (sym p.is) all;
      sum = ap (value 0) p.is ∙ ap (λ (x : ℕ). value x p.ds) none ∙ p.sum;
    }

value_over : (v : ℕ) (ds es : List ℕ) → value v (ds ++ es) ≡ value (value v ds) es
value_over v [] es = refl
value_over v (d ∷ ds) es = value_over (10 * v + (d - 48)) ds es

later_digits : (ds es : List ℕ) → AreDigits (ds ++ es) → AreDigits es
later_digits [] es h = h
later_digits (d ∷ ds) es h = later_digits ds es h.2

-- two runs of digits, of which the second ends with another byte
longer : (ds es : List ℕ) (b e : ℕ) (u more : List ℕ) → AreDigits ds → e < 48 → ds ++ b ∷ u ≡ es ++ e ∷ more → (b ≡ e) ⊎ ((cs : List ℕ) × (es ≡ ds ++ b ∷ cs))
longer [] [] b e u more f lt h = inl (cc)
longer [] (x ∷ es) b e u more f lt h = let same : b ≡ x = cc in inr (es, ap (λ (y : ℕ). y ∷ es) (sym same))
longer (d ∷ ds) [] b e u more f lt h = let same : d ≡ e = cc in let low = f.0 in absurd (omega arith)
longer (d ∷ ds) (x ∷ es) b e u more f lt h =
    let head : d ≡ x = cc in
    let tail : ds ++ b ∷ u ≡ es ++ e ∷ more = cc in
    elim (longer ds es b e u more f.2 lt tail) [ inl k ↦ inl k | inr k ↦ inr (k.0, ap (λ (y : ℕ). y ∷ es) (sym head) ∙ ap (λ (l : List ℕ). d ∷ l) k.1) ]

-- the byte neither ends the number nor is one more digit of it
abbrev pub IsNoNext : ℕ → ℕ → ℕ → ℕ → Type 0
IsNoNext most end v b = (b ≡ end → ⊥) × ((48 ≤ b) → (b ≤ 57) → most < 10 * v + (b - 48))

abbrev pub HasNoNext : ℕ → ℕ → ℕ → List ℕ → Type 0
HasNoNext most end v [] = Unit {0}
HasNoNext most end v (b ∷ bs) = IsNoNext most end v b

more_digits : (most end v n b : ℕ) (cs : List ℕ) → 1 ≤ v → v < 2 ^ 64 → 1 ≤ n → n ≤ most → n < 2 ^ 64 → IsNoNext most end v b → decimal n ≡ decimal v ++ b ∷ cs → ⊥
more_digits most end v n b cs l h ln hn hm stops e =
    let d = decimal_of v l h in
    let m = decimal_of n ln hm in
    let digit = later_digits (decimal v) (b ∷ cs) (subst AreDigits e m.are) in
    let low = digit.0 in
    let high = digit.1 in
    let sum : n ≡ value (10 * v + (b - 48)) cs =
    sym m.sum ∙ ap (value 0) e ∙ value_over 0 (decimal v) (b ∷ cs) ∙ ap (λ (x : ℕ). value x (b ∷ cs)) d.sum in
    let grows = value_grows (10 * v + (b - 48)) cs in
    let past = stops.1 low high in
    omega arith

-- no number goes on so
count_here : (most end v n : ℕ) (u tail more : List ℕ) → most ≤ 2 ^ 62 → end < 48 → 1 ≤ v → v ≤ most → 1 ≤ n → n ≤ most → HasNoNext most end v tail → BeginAlike u tail → decimal v ++ u ≡ decimal n ++ end ∷ more → ⊥
count_here most end v n [] [] more big lt l h ln hn stops alike e =
    let d = decimal_of v l (omega arith) in
    let all = subst AreDigits (sym (append-nil (decimal v)) ∙ e) d.are in
    let last = later_digits (decimal n) (end ∷ more) all in
    let low = last.0 in
    omega arith
count_here most end v n [] (c ∷ tail) more big lt l h ln hn stops alike e = alike
count_here most end v n (b ∷ u) [] more big lt l h ln hn stops alike e = alike
count_here most end v n (b ∷ u) (c ∷ tail) more big lt l h ln hn stops alike e =
    let d = decimal_of v l (omega arith) in
    let not_next = subst (IsNoNext most end v) (sym alike) stops in
    elim (longer (decimal v) (decimal n) b end u more d.are lt e) [ inl k ↦ not_next.0 k | inr k ↦ more_digits most end v n b k.0 l (omega arith) ln hn (omega arith) not_next k.1 ]

-- the text of a number, and what stands behind it
with_end : (ds more : List ℕ) (end : ℕ) (text : List ℕ) → text ≡ ds ++ end ∷ [] → text ++ more ≡ ds ++ end ∷ more
with_end ds more end text e = ap (λ (t : List ℕ). t ++ more) e ∙ append_assoc ds (end ∷ []) more

pub digits_stuck : (most end v : ℕ) (bytes tail : List ℕ) → most ≤ 2 ^ 62 → end < 48 → 1 ≤ v → v ≤ most → decimal v ++ tail ≡ bytes → HasNoNext most end v tail → IsStuck (IsCount most end) bytes (length tail)
digits_stuck most end v bytes tail big lt l h e stops = record {
  front = decimal v;
  tail = tail;
  whole = sym e;
  many = refl;
  begins = (end ∷ [], (v, l, h, refl));
  here = λ text u more is agrees alike. count_here most end v is.0 u tail more big lt l h is.1 is.2 stops alike (agrees ∙ with_end (decimal is.0) more end text is.3);
}

abbrev pub HasNoFirst : List ℕ → Type 0
HasNoFirst [] = Unit {0}
HasNoFirst (b ∷ bs) = (49 ≤ b) → (b ≤ 57) → ⊥

first_here : (n end : ℕ) (u tail more : List ℕ) → 1 ≤ n → n < 2 ^ 64 → HasNoFirst tail → BeginAlike u tail → u ≡ decimal n ++ end ∷ more → ⊥
first_here n end [] tail more l h stops alike e =
    let d = decimal_of n l h in
    let k : [] ≡ d.first ∷ (d.ds ++ end ∷ more) = e ∙ ap (λ (t : List ℕ). t ++ end ∷ more) d.is in
    cc
first_here n end (b ∷ u) [] more l h stops alike e = alike
first_here n end (b ∷ u) (c ∷ tail) more l h stops alike e =
    let d = decimal_of n l h in
    let k : b ∷ u ≡ d.first ∷ (d.ds ++ end ∷ more) = e ∙ ap (λ (t : List ℕ). t ++ end ∷ more) d.is in
    let head : b ≡ d.first = cc in
    let low = d.low in
    let high = d.high in
    stops (subst (λ (x : ℕ). 49 ≤ x) alike (omega arith)) (subst (λ (x : ℕ). x ≤ 57) alike (omega arith))

pub first_stuck : (most end : ℕ) (bytes : List ℕ) → 9 ≤ most → most ≤ 2 ^ 62 → HasNoFirst bytes → IsStuck (IsCount most end) bytes (length bytes)
first_stuck most end bytes low big stops = record {
  front = [];
  tail = bytes;
  whole = refl;
  many = refl;
  begins = (decimal 1 ++ end ∷ [], (1, omega arith, omega arith, refl));
  here = λ text u more is agrees alike. let high = is.2 in first_here is.0 end u bytes more is.1 (omega arith) stops alike (agrees ∙ with_end (decimal is.0) more end text is.3);
}

-- the first byte of a number that may have a sign
minus_first : (n c : ℕ) (w more : List ℕ) → 1 ≤ n → n < 2 ^ 64 → c ∷ w ≡ decimal n ++ more → 49 ≤ c
minus_first n c w more l h e =
    let d = decimal_of n l h in
    let k : c ∷ w ≡ d.first ∷ (d.ds ++ more) = e ∙ ap (λ (t : List ℕ). t ++ more) d.is in
    let head : c ≡ d.first = cc in
    let low = d.low in
    omega arith

zero_is : (more : List ℕ) → decimal 0 ++ more ≡ 48 ∷ more
zero_is more = ap (λ (t : List ℕ). t ++ more) (decimal_digit 0 (omega arith))

first_of : (c d : ℕ) (u v : List ℕ) → c ∷ u ≡ d ∷ v → c ≡ d
first_of c d u v h = cc

rest_of : (c d : ℕ) (u v : List ℕ) → c ∷ u ≡ d ∷ v → u ≡ v
rest_of c d u v h = cc

-- behind the sign
negative_here : (most end : ℕ) (z : ℤ) (w more : List ℕ) → most ≤ 2 ^ 62 → IsTrue (nat_le (unsigned_abs z) most) → 45 ∷ w ≡ signed_decimal z ++ end ∷ more → (n : ℕ) × (1 ≤ n) × (n ≤ most) × (w ≡ decimal n ++ end ∷ more)
negative_here most end (pos zero) w more big f e = let k = first_of 45 48 _ _ (e ∙ zero_is (end ∷ more)) in absurd (omega arith)
negative_here most end (pos (suc n)) w more big f e = let high = leb-true _ _ f in let k = minus_first (suc n) 45 w (end ∷ more) (omega arith) (omega arith) e in absurd (omega arith)
negative_here most end (negsuc n) w more big f e = (suc n, omega arith, leb-true _ _ f, rest_of 45 45 _ _ e)

as_negative : (most end : ℕ) (text : List ℕ) → IsCount most end text → IsSigned most end (45 ∷ text)
as_negative most end text (zero, l, h, e) = absurd (omega arith)
as_negative most end text (suc n, l, h, e) = (negsuc n, le-leb _ _ h, ap (λ (t : List ℕ). 45 ∷ t) e)

pub negative_stuck : (most end : ℕ) (bytes : List ℕ) (left : ℕ) → most ≤ 2 ^ 62 → IsStuck (IsCount most end) bytes left → IsStuck (IsSigned most end) (45 ∷ bytes) left
negative_stuck most end bytes left big s = record {
  front = 45 ∷ s.front;
  tail = s.tail;
  whole = ap (λ (t : List ℕ). 45 ∷ t) s.whole;
  many = s.many;
  begins = (s.begins.0, as_negative most end (s.front ++ s.begins.0) s.begins.1);
  here = λ text u more is agrees alike.
      let k = negative_here most end is.0 (s.front ++ u) more big is.1 (agrees ∙ with_end (signed_decimal is.0) more end text is.2) in
      s.here (decimal k.0 ++ end ∷ []) u more (k.0, k.1, k.2, refl) (k.3 ∙ sym (append_assoc (decimal k.0) (end ∷ []) more)) alike;
}

-- with a first digit that isn't 0
positive_here : (most end : ℕ) (z : ℤ) (c : ℕ) (w more : List ℕ) → (c ≡ 45 → ⊥) → (c ≡ 48 → ⊥) → IsTrue (nat_le (unsigned_abs z) most) → c ∷ w ≡ signed_decimal z ++ end ∷ more → (n : ℕ) × (1 ≤ n) × (n ≤ most) × (c ∷ w ≡ decimal n ++ end ∷ more)
positive_here most end (pos zero) c w more no_sign no_zero f e = absurd (no_zero (first_of c 48 _ _ (e ∙ zero_is (end ∷ more))))
positive_here most end (pos (suc n)) c w more no_sign no_zero f e = (suc n, omega arith, leb-true _ _ f, e)
positive_here most end (negsuc n) c w more no_sign no_zero f e = absurd (no_sign (first_of c 45 _ _ e))

as_positive : (most end : ℕ) (text : List ℕ) → IsCount most end text → IsSigned most end text
as_positive most end text (n, l, h, e) = (pos n, le-leb _ _ h, e)

pub positive_stuck : (most end : ℕ) (bytes : List ℕ) (left : ℕ) → BeginsPlain bytes → IsStuck (IsCount most end) bytes left → IsStuck (IsSigned most end) bytes left
positive_stuck most end [] left plain s = absurd plain
positive_stuck most end (c ∷ bytes) left plain s = record {
  front = s.front;
  tail = s.tail;
  whole = s.whole;
  many = s.many;
  begins = (s.begins.0, as_positive most end (s.front ++ s.begins.0) s.begins.1);
  here = λ text u more is agrees alike.
      let first = first_stays (c ∷ bytes) s.front s.tail u bytes c s.whole refl alike in
      let k = positive_here most end is.0 c first.0 more plain.0 plain.1 is.1 (sym first.1 ∙ agrees ∙ with_end (signed_decimal is.0) more end text is.2) in
      s.here (decimal k.0 ++ end ∷ []) u more (k.0, k.1, k.2, refl) (first.1 ∙ k.3 ∙ sym (append_assoc (decimal k.0) (end ∷ []) more)) alike;
}

-- behind the digit 0
zero_here : (most end : ℕ) (z : ℤ) (w more : List ℕ) → most ≤ 2 ^ 62 → IsTrue (nat_le (unsigned_abs z) most) → 48 ∷ w ≡ signed_decimal z ++ end ∷ more → w ≡ end ∷ more
zero_here most end (pos zero) w more big f e = rest_of 48 48 _ _ (e ∙ zero_is (end ∷ more))
zero_here most end (pos (suc n)) w more big f e = let high = leb-true _ _ f in let k = minus_first (suc n) 48 w (end ∷ more) (omega arith) (omega arith) e in absurd (omega arith)
zero_here most end (negsuc n) w more big f e = let k = first_of 48 45 _ _ e in absurd (omega arith)

pub zero_stuck : (most end : ℕ) (bytes : List ℕ) (left : ℕ) → most ≤ 2 ^ 62 → IsStuck (IsWord (end ∷ [])) bytes left → IsStuck (IsSigned most end) (48 ∷ bytes) left
zero_stuck most end bytes left big s = record {
  front = 48 ∷ s.front;
  tail = s.tail;
  whole = ap (λ (t : List ℕ). 48 ∷ t) s.whole;
  many = s.many;
  begins = (s.begins.0, (pos 0, le-leb 0 most (omega arith), ap (λ (t : List ℕ). 48 ∷ t) s.begins.1 ∙ sym (zero_is (end ∷ []))));
  here = λ text u more is agrees alike.
      s.here (end ∷ []) u more refl (zero_here most end is.0 (s.front ++ u) more big is.1 (agrees ∙ with_end (signed_decimal is.0) more end text is.2)) alike;
}

pub zero_told : (end : ℕ) (bytes rest : List ℕ) → bytes ≡ end ∷ rest → 48 ∷ bytes ≡ signed_decimal (pos 0) ++ end ∷ rest
zero_told end bytes rest e = ap (λ (t : List ℕ). 48 ∷ t) e ∙ sym (zero_is (end ∷ rest))

-- no bytes
none_here : (end : ℕ) (ds more u : List ℕ) → BeginAlike u [] → u ≡ ds ++ end ∷ more → ⊥
none_here end [] more [] h e = cc
none_here end (d ∷ ds) more [] h e = cc
none_here end ds more (b ∷ u) h e = h

pub none_stuck : (most end : ℕ) → IsStuck (IsSigned most end) [] 0
none_stuck most end = record {
  front = [];
  tail = [];
  whole = refl;
  many = refl;
  begins = (signed_decimal (pos 0) ++ end ∷ [], (pos 0, le-leb 0 most (omega arith), refl));
  here = λ text u more is agrees alike. none_here end (signed_decimal is.0) more u alike (agrees ∙ with_end (signed_decimal is.0) more end text is.2);
}

-- one more digit
pub digit_told : (v w c : ℕ) (rest more front : List ℕ) → rest ≡ c ∷ more → 1 ≤ v → 48 ≤ c → c ≤ 57 → w ≡ 10 * v + (c - 48) → w < 2 ^ 64 → decimal v ++ rest ≡ front → decimal w ++ more ≡ front
digit_told v w c rest more front is one low high sum lt h =
    let lt2 : 10 * v + (c - 48) < 2 ^ 64 = omega arith in
    rw (sum, decimal_value v (c ∷ []) one (low, high, tt) lt2) (append_assoc (decimal v) (c ∷ []) more ∙ ap (λ (l : List ℕ). decimal v ++ l) (sym is) ∙ h)

-- the first digit
pub first_told : (c v : ℕ) (text rest : List ℕ) → text ≡ c ∷ rest → 49 ≤ c → c ≤ 57 → v ≡ c - 48 → decimal v ++ rest ≡ text
first_told c v text rest is low high e =
    let back : 48 + (c - 48) ≡ c = omega arith in
    let one : decimal v ≡ c ∷ [] = ap decimal e ∙ decimal_digit (c - 48) (omega arith) ∙ ap (λ (x : ℕ). x ∷ []) back in
    ap (λ (l : List ℕ). l ++ rest) one ∙ sym is

-- digits that the bytes end after, or go on after in no way
pub digits_ended : (most end v : ℕ) (bytes tail : List ℕ) → most ≤ 2 ^ 62 → end < 48 → 1 ≤ v → v ≤ most → decimal v ++ tail ≡ bytes → tail ≡ [] → IsStuck (IsCount most end) bytes 0
digits_ended most end v bytes tail big lt l h e is =
    subst (IsStuck (IsCount most end) bytes) (ap length is) (digits_stuck most end v bytes tail big lt l h e (subst (HasNoNext most end v) (sym is) tt))

pub digits_differ : (most end v c : ℕ) (bytes tail more : List ℕ) → most ≤ 2 ^ 62 → end < 48 → 1 ≤ v → v ≤ most → decimal v ++ tail ≡ bytes → tail ≡ c ∷ more → (c ≡ end → ⊥) → ((48 ≤ c) → (c ≤ 57) → most < 10 * v + (c - 48)) → IsStuck (IsCount most end) bytes (length tail)
digits_differ most end v c bytes tail more big lt l h e is ne past = digits_stuck most end v bytes tail big lt l h e (subst (HasNoNext most end v) (sym is) (ne, past))

pub first_ended : (most end : ℕ) (bytes : List ℕ) → 9 ≤ most → most ≤ 2 ^ 62 → bytes ≡ [] → IsStuck (IsCount most end) bytes 0
first_ended most end bytes low big is = subst (IsStuck (IsCount most end) bytes) (ap length is) (first_stuck most end bytes low big (subst HasNoFirst (sym is) tt))

pub first_differs : (most end c : ℕ) (bytes more : List ℕ) → 9 ≤ most → most ≤ 2 ^ 62 → bytes ≡ c ∷ more → (49 ≤ c → c ≤ 57 → ⊥) → IsStuck (IsCount most end) bytes (length bytes)
first_differs most end c bytes more low big is stops = first_stuck most end bytes low big (subst HasNoFirst (sym is) stops)

pub sign_ended : (most end : ℕ) (bytes : List ℕ) → bytes ≡ [] → IsStuck (IsSigned most end) bytes 0
sign_ended most end bytes is = subst (λ (b : List ℕ). IsStuck (IsSigned most end) b 0) (sym is) (none_stuck most end)

pub begins_plain : (c : ℕ) (bytes more : List ℕ) → bytes ≡ c ∷ more → (c ≡ 45 → ⊥) → (c ≡ 48 → ⊥) → BeginsPlain bytes
begins_plain c bytes more is no_sign no_zero = subst BeginsPlain (sym is) (no_sign, no_zero)
