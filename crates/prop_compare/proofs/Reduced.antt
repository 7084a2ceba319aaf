-- What equal and ordered arguments keep.
use Rattle.std.proofs.Common.{◌≡◌, Bool, true, false, ◌||◌, [], ◌∷◌, refl, sym, ap, ◌∙◌, subst, arith, ℤ}
use Rattle.std.specs.Prelude.{pos, ◌+ℤ◌, ◌-ℤ◌, ◌≤ℤ◌, ◌<ℤ◌, int_lt}
use Rattle.std.specs.Ordering.{int_eq}
use Rattle.std.proofs.lemmas.Int.{ints}
use Rattle.std.proofs.lemmas.Bool.Decides.{Decides-int_eq}
use Rattle.qc_model.specs.Domains.{Values, values_within, is_within, has_value, least_value, greatest_value, misses}
use Rattle.qc_model.specs.Valid.{is_number, is_truth}
use Rattle.qc_model.proofs.Readable.{first, second}
use Rattle.model_arguments.proofs.Values.{has_least, has_greatest, has_first}
use Rattle.model_arguments.proofs.Kept.{keeps, passes, some_of, low_end, high_end, inside, at_least, at_most, lower, is_lower, not_lower, reaches, apart, least_kept, greatest_kept, small_between}
use Rattle.qc_refuter.proofs.Domains.{some_left, small_left, none_common, some_common}
use Rattle.qc_refuter.specs.Met.{is_domain_left}
use Rattle.prop_compare.specs.Compared.{IsPart, is_over}
use Rattle.qc_refuter.specs.Commons.{IsLeastCommon, IsGreatestCommon}
use Rattle.prop_compare.specs.Keeping.{IsReduction}

-- a value of a part is one of all, and passes
part_passes : (q : ℤ → Bool) (p d : Values) (v : ℤ) → IsPart q p d → has_value p v ≡ true → q v ≡ true
part_passes q p d v t h = first (q v) (has_value d v) (t.each v h)

part_has : (q : ℤ → Bool) (p d : Values) (v : ℤ) → IsPart q p d → has_value p v ≡ true → has_value d v ≡ true
part_has q p d v t h = second (q v) (has_value d v) (t.each v h)

pub equal_reduced : (d e : Values) (lo hi : ℤ) → is_domain_left d ≡ true → is_domain_left e ≡ true → IsLeastCommon d e lo → IsGreatestCommon d e hi →
    IsReduction misses d e (record { first = record { lo = lo; hi = hi }; second = record { lo = lo; hi = hi } })
equal_reduced d e lo hi o q l g =
    let l_small = small_left d lo o l.first in
    let g_small = small_left d hi o g.first in
    let w = inside lo hi lo (refl_le lo) (l.all hi g.first g.second) in
    let w2 = inside lo hi hi (l.all hi g.first g.second) (refl_le hi) in
    let dw = values_within lo hi d in
    let ew = values_within lo hi e in
    let dl = keeps (is_within lo hi) d lo w l.first in
    let el = keeps (is_within lo hi) e lo w l.second in
    let dg = keeps (is_within lo hi) d hi w2 g.first in
    let eg = keeps (is_within lo hi) e hi w2 g.second in
    let ds = some_of dw lo dl in
    let es = some_of ew lo el in
    let d_least = low dw (low_end dw lo dl) (least_kept (is_within lo hi) d ds).0 in
    let e_least = low ew (low_end ew lo el) (least_kept (is_within lo hi) e es).0 in
    let d_great = high dw (high_end dw hi dg) (greatest_kept (is_within lo hi) d ds).0 in
    let e_great = high ew (high_end ew hi eg) (greatest_kept (is_within lo hi) e es).0 in
    record {
      first_low = l_small;
      first_high = g_small;
      second_low = l_small;
      second_high = g_small;
      some_first = ds;
      some_second = es;
      under_first = λ p t. none_common p e (λ v h k. apart v lo (lower v lo (part_passes (λ v. int_lt v lo) p d v t h)) (l.all v (part_has (λ v. int_lt v lo) p d v t h) k));
      over_first = λ p t. none_common p e (λ v h k. apart hi v (lower hi v (part_passes (λ v. int_lt hi v) p d v t h)) (g.all v (part_has (λ v. int_lt hi v) p d v t h) k));
      under_second = λ p t. none_common dw p (λ v h k. apart v lo (lower v lo (part_passes (λ v. int_lt v lo) p e v t k)) (at_least lo hi v (within d v h)));
      over_second = λ p t. none_common dw p (λ v h k. apart hi v (lower hi v (part_passes (λ v. int_lt hi v) p e v t k)) (at_most lo hi v (within d v h)));
      first_least = some_common (least_value dw ∷ []) ew (least_value dw) (has_first (least_value dw) []) (subst (λ z. has_value ew z ≡ true) (sym d_least) el);
      first_greatest = some_common (greatest_value dw ∷ []) ew (greatest_value dw) (has_first (greatest_value dw) []) (subst (λ z. has_value ew z ≡ true) (sym d_great) eg);
      second_least = some_common dw (least_value ew ∷ []) (least_value ew) (subst (λ z. has_value dw z ≡ true) (sym e_least) dl) (has_first (least_value ew) []);
      second_greatest = some_common dw (greatest_value ew ∷ []) (greatest_value ew) (subst (λ z. has_value dw z ≡ true) (sym e_great) dg) (has_first (greatest_value ew) []);
    }
  where
    refl_le : (z : ℤ) → z ≤ℤ z
    refl_le z = omega (arith, ints)

    same_end : (a b : ℤ) → a ≤ℤ b → b ≤ℤ a → a ≡ b
    same_end a b h k = grind (arith, ints)

    low : (us : Values) → least_value us ≤ℤ lo → is_within lo hi (least_value us) ≡ true → least_value us ≡ lo
    low us f h = same_end (least_value us) lo f (at_least lo hi (least_value us) h)

    high : (us : Values) → hi ≤ℤ greatest_value us → is_within lo hi (greatest_value us) ≡ true → greatest_value us ≡ hi
    high us f h = same_end (greatest_value us) hi (at_most lo hi (greatest_value us) h) f

    within : (us : Values) (v : ℤ) → has_value (values_within lo hi us) v ≡ true → is_within lo hi v ≡ true
    within us v h = passes (is_within lo hi) us v h

pub gap_small : (gap : ℤ) → is_truth gap ≡ true → (pos 0 ≤ℤ gap) × (gap ≤ℤ pos 1)
gap_small gap h = by (int_eq gap (pos 0)) (Decides-int_eq gap (pos 0)).0 (Decides-int_eq gap (pos 1)).0 h
  where
    by : (b : Bool) → (b ≡ true → gap ≡ pos 0) → (int_eq gap (pos 1) ≡ true → gap ≡ pos 1) → (b || int_eq gap (pos 1)) ≡ true → (pos 0 ≤ℤ gap) × (gap ≤ℤ pos 1)
    by true f g k = let e = f refl in (omega (arith, ints, e), omega (arith, ints, e))
    by false f g k = let e = g k in (omega (arith, ints, e), omega (arith, ints, e))

pub ordered_reduced : (d e : Values) (gap : ℤ) → is_domain_left d ≡ true → is_domain_left e ≡ true → is_truth gap ≡ true → is_over gap d e ≡ false →
    IsReduction (is_over gap) d e (record { first = record { lo = least_value d; hi = greatest_value e -ℤ gap }; second = record { lo = least_value d +ℤ gap; hi = greatest_value e } })
ordered_reduced d e gap o q t h =
    let l = least_value d in
    let g = greatest_value e in
    let room : (l +ℤ gap) ≤ℤ g = reaches g (l +ℤ gap) h in
    let hl = has_least d (some_left d o) in
    let hg = has_greatest e (some_left e q) in
    let l_small = small_left d l o hl in
    let g_small = small_left e g q hg in
    let dw = values_within l (g -ℤ gap) d in
    let ew = values_within (l +ℤ gap) g e in
    let dl = keeps (is_within l (g -ℤ gap)) d l (inside l (g -ℤ gap) l (refl_le l) (before l g gap room)) hl in
    let eg = keeps (is_within (l +ℤ gap) g) e g (inside (l +ℤ gap) g g room (refl_le g)) hg in
    let ds = some_of dw l dl in
    let es = some_of ew g eg in
    let d_least = low_end dw l dl in
    let e_great = high_end ew g eg in
    let d_low = at_least l (g -ℤ gap) (least_value dw) (least_kept (is_within l (g -ℤ gap)) d ds).0 in
    let ends = gap_small gap t in
    record {
      first_low = l_small;
      first_high = middle l g gap l_small g_small ends.0 ends.1 room;
      second_low = middle_up l g gap l_small g_small ends.0 room;
      second_high = g_small;
      some_first = ds;
      some_second = es;
      under_first = λ p u. absurd (apart (least_value p) l (lower (least_value p) l (part_passes (λ v. int_lt v l) p d (least_value p) u (has_least p u.some))) (low_end d (least_value p) (part_has (λ v. int_lt v l) p d (least_value p) u (has_least p u.some))));
      over_first = λ p u. is_lower g (least_value p +ℤ gap) (over g (least_value p) gap (lower (g -ℤ gap) (least_value p) (part_passes (λ v. int_lt (g -ℤ gap) v) p d (least_value p) u (has_least p u.some))));
      under_second = λ p u. is_lower (greatest_value p) (least_value dw +ℤ gap) (under (greatest_value p) l gap (least_value dw) (lower (greatest_value p) (l +ℤ gap) (part_passes (λ v. int_lt v (l +ℤ gap)) p e (greatest_value p) u (has_greatest p u.some))) d_low);
      over_second = λ p u. absurd (apart g (greatest_value p) (lower g (greatest_value p) (part_passes (λ v. int_lt g v) p e (greatest_value p) u (has_greatest p u.some))) (high_end e (greatest_value p) (part_has (λ v. int_lt g v) p e (greatest_value p) u (has_greatest p u.some))));
      first_least = not_lower (greatest_value ew) (least_value dw +ℤ gap) (fits (least_value dw) g gap (greatest_value ew) (at_most l (g -ℤ gap) (least_value dw) (least_kept (is_within l (g -ℤ gap)) d ds).0) e_great);
      first_greatest = not_lower (greatest_value ew) (greatest_value dw +ℤ gap) (fits (greatest_value dw) g gap (greatest_value ew) (at_most l (g -ℤ gap) (greatest_value dw) (greatest_kept (is_within l (g -ℤ gap)) d ds).0) e_great);
      second_least = not_lower (least_value ew) (least_value dw +ℤ gap) (fits_up (least_value ew) l gap (least_value dw) (at_least (l +ℤ gap) g (least_value ew) (least_kept (is_within (l +ℤ gap) g) e es).0) d_least);
      second_greatest = not_lower (greatest_value ew) (least_value dw +ℤ gap) (fits_up (greatest_value ew) l gap (least_value dw) (at_least (l +ℤ gap) g (greatest_value ew) (greatest_kept (is_within (l +ℤ gap) g) e es).0) d_least);
    }
  where
    refl_le : (z : ℤ) → z ≤ℤ z
    refl_le z = omega (arith, ints)

    before : (l g gap : ℤ) → (l +ℤ gap) ≤ℤ g → l ≤ℤ (g -ℤ gap)
    before l g gap h = omega (arith, ints, h)

    over : (g v gap : ℤ) → (g -ℤ gap) <ℤ v → g <ℤ (v +ℤ gap)
    over g v gap h = omega (arith, ints, h)

    under : (v l gap w : ℤ) → v <ℤ (l +ℤ gap) → l ≤ℤ w → v <ℤ (w +ℤ gap)
    under v l gap w h k = omega (arith, ints, h, k)

    fits : (v g gap w : ℤ) → v ≤ℤ (g -ℤ gap) → g ≤ℤ w → (v +ℤ gap) ≤ℤ w
    fits v g gap w h k = omega (arith, ints, h, k)

    fits_up : (v l gap w : ℤ) → (l +ℤ gap) ≤ℤ v → w ≤ℤ l → (w +ℤ gap) ≤ℤ v
    fits_up v l gap w h k = omega (arith, ints, h, k)

    middle : (l g gap : ℤ) → is_number l ≡ true → is_number g ≡ true → pos 0 ≤ℤ gap → gap ≤ℤ pos 1 → (l +ℤ gap) ≤ℤ g → is_number (g -ℤ gap) ≡ true
    middle l g gap h k p q r = small_between l g (g -ℤ gap) h k (omega (arith, ints, r)) (omega (arith, ints, p))

    middle_up : (l g gap : ℤ) → is_number l ≡ true → is_number g ≡ true → pos 0 ≤ℤ gap → (l +ℤ gap) ≤ℤ g → is_number (l +ℤ gap) ≡ true
    middle_up l g gap h k p r = small_between l g (l +ℤ gap) h k (omega (arith, ints, p)) r

-- by the numbers as they were found
pub ordered_at : (d e : Values) (gap low high floor ceiling : ℤ) → is_domain_left d ≡ true → is_domain_left e ≡ true → is_truth gap ≡ true → low ≡ least_value d → high ≡ greatest_value e → floor ≡ low +ℤ gap → ceiling ≡ high -ℤ gap → int_lt high floor ≡ false →
    IsReduction (is_over gap) d e (record { first = record { lo = low; hi = ceiling }; second = record { lo = floor; hi = high } })
ordered_at d e gap low high floor ceiling o q t i j k m h =
    let f : floor ≡ least_value d +ℤ gap = k ∙ ap (λ z. z +ℤ gap) i in
    let u : ceiling ≡ greatest_value e -ℤ gap = m ∙ ap (λ z. z -ℤ gap) j in
    let over : is_over gap d e ≡ false = ap (λ z. int_lt z (least_value d +ℤ gap)) (sym j) ∙ (ap (int_lt high) (sym f) ∙ h) in
    let R : ℤ → ℤ → ℤ → ℤ → Type 0 = λ w x y z. IsReduction (is_over gap) d e (record { first = record { lo = w; hi = x }; second = record { lo = y; hi = z } }) in
    subst (λ w. R w ceiling floor high) (sym i)
    (subst (λ x. R (least_value d) x floor high) (sym u)
    (subst (λ y. R (least_value d) (greatest_value e -ℤ gap) y high) (sym f)
    (subst (λ z. R (least_value d) (greatest_value e -ℤ gap) (least_value d +ℤ gap) z) (sym j) (ordered_reduced d e gap o q t over))))

pub ordered_none : (d e : Values) (gap low high floor : ℤ) → low ≡ least_value d → high ≡ greatest_value e → floor ≡ low +ℤ gap → int_lt high floor ≡ true → is_over gap d e ≡ true
ordered_none d e gap low high floor i j k h =
    ap (λ z. int_lt z (least_value d +ℤ gap)) (sym j) ∙ (ap (int_lt high) (sym (k ∙ ap (λ z. z +ℤ gap) i)) ∙ h)

-- an end is a number
pub least_small : (d : Values) (v : ℤ) → is_domain_left d ≡ true → v ≡ least_value d → is_number v ≡ true
least_small d v o h = subst (λ z. is_number z ≡ true) (sym h) (small_left d (least_value d) o (has_least d (some_left d o)))

pub greatest_small : (d : Values) (v : ℤ) → is_domain_left d ≡ true → v ≡ greatest_value d → is_number v ≡ true
greatest_small d v o h = subst (λ z. is_number z ≡ true) (sym h) (small_left d (greatest_value d) o (has_greatest d (some_left d o)))
