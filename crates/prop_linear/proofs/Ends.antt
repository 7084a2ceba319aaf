-- The values that a place of a sum lets go.
use Rattle.std.proofs.Common.{◌≡◌, ℕ, suc, ◌+◌, ◌*◌, ◌<◌, ◌≤◌, Bool, true, false, not, leb, refl, sym, ap, ◌∙◌, subst, arith, ℤ}
use Rattle.std.specs.Prelude.{pos, negsuc, ◌+ℤ◌, ◌-ℤ◌, ◌≤ℤ◌, ◌<ℤ◌, unsigned_abs, nat_abs, int_lt}
use Rattle.std.proofs.Math.Nat.{mul-le-mul_left}
use Rattle.std.proofs.lemmas.Int.{ints}
use Rattle.std.proofs.lemmas.Bool.{leb-true}
use Rattle.std.proofs.lemmas.Bool.Decides.{nat_tests}
use Rattle.qc_model.specs.Domains.{Values, values_within, values_outside, is_within, is_none_left, least_value, greatest_value}
use Rattle.qc_model.specs.Ranges.{range_of, point, product}
use Rattle.model_arguments.proofs.Values.{has_least, has_greatest}
use Rattle.model_arguments.proofs.Kept.{at_least, at_most, is_out_low, is_out_high, out_low, out_high, keeps, passes, was_left, some_of, low_end, high_end, same_end, ordered, inside, small_between}
use Rattle.qc_refuter.proofs.Domains.{some_left}
use Rattle.qc_refuter.specs.Met.{is_domain_left}
use Rattle.qc_refuter.proofs.Terms.{least_small, greatest_small}
use Rattle.prop_linear.specs.Tightening.{IsNear, IsTightening}
use Rattle.prop_linear.proofs.Spread.{near_up, near_down, far_up, far_down, same_up, same_down}

-- the ends of what is kept lie within the ends
pub end_kept_low : (lo hi : ℤ) (d : Values) → is_none_left (values_outside lo hi d) ≡ false → least_value d ≤ℤ least_value (values_outside lo hi d)
end_kept_low lo hi d n =
    let out = values_outside lo hi d in
    low_end d (least_value out) (was_left (λ v. not (is_within lo hi v)) d (least_value out) (has_least out n))

pub end_kept_high : (lo hi : ℤ) (d : Values) → is_none_left (values_outside lo hi d) ≡ false → greatest_value (values_outside lo hi d) ≤ℤ greatest_value d
end_kept_high lo hi d n =
    let out = values_outside lo hi d in
    high_end d (greatest_value out) (was_left (λ v. not (is_within lo hi v)) d (greatest_value out) (has_greatest out n))

-- a factor at_least 0: the values far at_least the least
pub cut_up : (p s q : ℕ) (d : Values) (lo : ℤ) → is_domain_left d ≡ true → p * q ≤ s → s < p * (q + 1) → lo ≡ least_value d +ℤ pos (q + 1) → lo ≤ℤ greatest_value d →
    IsTightening (pos p) s d lo (greatest_value d)
cut_up p s q d lo o m n e h =
    let low = least_value d in
    let high = greatest_value d in
    let n0 = some_left d o in
    let hl = has_least d n0 in
    let hh = has_greatest d n0 in
    let isin = is_within lo high in
    let isout = λ (v : ℤ). not (is_within lo high v) in
    let ins = values_within lo high d in
    let out = values_outside lo high d in
    let in_has = keeps isin d high (inside lo high high h (omega (arith, ints))) hh in
    let in_some = some_of ins high in_has in
    let below : low <ℤ lo = omega (arith, ints, e) in
    let out_has = keeps isout d low (is_out_low lo high low below) hl in
    let out_some = some_of out low out_has in
    let l_in = has_least ins in_some in
    let g_out = has_greatest out out_some in
    let l_same : least_value out ≡ low = same_end (least_value out) low (low_end out low out_has) (low_end d (least_value out) (was_left isout d (least_value out) (has_least out out_some))) in
    let g_low : greatest_value out <ℤ lo = out_low lo high (greatest_value out) (passes isout d (greatest_value out) g_out) (high_end d (greatest_value out) (was_left isout d (greatest_value out) g_out)) in
    let in_low : lo ≤ℤ least_value ins = at_least lo high (least_value ins) (passes isin d (least_value ins) l_in) in
    record {
      small_low = small_between low high lo (least_small d o) (greatest_small d o) (omega (arith, ints, e)) h;
      small_high = greatest_small d o;
      some = in_some;
      far = far_up p s q low high (least_value ins) (greatest_value ins) (ordered d n0) (ordered ins in_some) (omega (arith, ints, e, in_low)) n;
      left = out_some;
      same =
          ap (λ z. (product (point (pos p)) (range_of z (greatest_value out))).from) l_same
          ∙ sym (same_up p low high (greatest_value out) (ordered d n0) (omega (arith, ints, l_same, ordered out out_some)));
      near = near_up p s q (least_value out) (greatest_value out) (ordered out out_some) (omega (arith, ints, l_same, g_low, e)) m;
    }

-- a factor below 0: the values far below the greatest
pub cut_down : (p s q : ℕ) (d : Values) (hi : ℤ) → is_domain_left d ≡ true → suc p * q ≤ s → s < suc p * (q + 1) → hi +ℤ pos (q + 1) ≡ greatest_value d → least_value d ≤ℤ hi →
    IsTightening (negsuc p) s d (least_value d) hi
cut_down p s q d hi o m n e h =
    let low = least_value d in
    let high = greatest_value d in
    let n0 = some_left d o in
    let hl = has_least d n0 in
    let hh = has_greatest d n0 in
    let isin = is_within low hi in
    let isout = λ (v : ℤ). not (is_within low hi v) in
    let ins = values_within low hi d in
    let out = values_outside low hi d in
    let in_has = keeps isin d low (inside low hi low (omega (arith, ints)) h) hl in
    let in_some = some_of ins low in_has in
    let over : hi <ℤ high = omega (arith, ints, e) in
    let out_has = keeps isout d high (is_out_high low hi high over) hh in
    let out_some = some_of out high out_has in
    let g_in = has_greatest ins in_some in
    let l_out = has_least out out_some in
    let g_same : greatest_value out ≡ high = same_end (greatest_value out) high (high_end d (greatest_value out) (was_left isout d (greatest_value out) (has_greatest out out_some))) (high_end out high out_has) in
    let l_high : hi <ℤ least_value out = out_high low hi (least_value out) (passes isout d (least_value out) l_out) (low_end d (least_value out) (was_left isout d (least_value out) l_out)) in
    let in_high : greatest_value ins ≤ℤ hi = at_most low hi (greatest_value ins) (passes isin d (greatest_value ins) g_in) in
    record {
      small_low = least_small d o;
      small_high = small_between low high hi (least_small d o) (greatest_small d o) h (omega (arith, ints, e));
      some = in_some;
      far = far_down p s q low high (least_value ins) (greatest_value ins) (ordered d n0) (ordered ins in_some) (omega (arith, ints, e, in_high)) n;
      left = out_some;
      same =
          ap (λ z. (product (point (negsuc p)) (range_of (least_value out) z)).from) g_same
          ∙ sym (same_down p low (least_value out) high (ordered d n0) (omega (arith, ints, g_same, ordered out out_some)));
      near = near_down p s q (least_value out) (greatest_value out) (ordered out out_some) (omega (arith, ints, g_same, l_high, e)) m;
    }

-- by the sign of a factor
pub cut_above : (a : ℤ) (s q : ℕ) (d : Values) (lo hi : ℤ) → is_domain_left d ≡ true → pos 0 <ℤ a → unsigned_abs a * q ≤ s → s < unsigned_abs a * (q + 1) → lo ≡ least_value d +ℤ pos (q + 1) → hi ≡ greatest_value d → lo ≤ℤ hi →
    IsTightening a s d lo hi
cut_above (pos p) s q d lo hi o z m n e f h = subst (λ w. IsTightening (pos p) s d lo w) (sym f) (cut_up p s q d lo o m n e (omega (arith, ints, h, f)))
cut_above (negsuc p) s q d lo hi o z m n e f h = absurd (omega (arith, ints, z))

pub cut_below : (a : ℤ) (s q : ℕ) (d : Values) (lo hi : ℤ) → is_domain_left d ≡ true → a <ℤ pos 0 → unsigned_abs a * q ≤ s → s < unsigned_abs a * (q + 1) → lo ≡ least_value d → hi +ℤ pos (q + 1) ≡ greatest_value d → lo ≤ℤ hi →
    IsTightening a s d lo hi
cut_below (pos p) s q d lo hi o z m n e f h = absurd (omega (arith, ints, z))
cut_below (negsuc p) s q d lo hi o z m n e f h = subst (λ w. IsTightening (negsuc p) s d w hi) (sym e) (cut_down p s q d hi o m n f (omega (arith, ints, h, e)))

pub near_of : (a : ℤ) (s q : ℕ) (d : Values) → is_domain_left d ≡ true → unsigned_abs a * q ≤ s → greatest_value d ≤ℤ (least_value d +ℤ pos q) → IsNear a s d
near_of (pos p) s q d o m h = near_up p s q (least_value d) (greatest_value d) (ordered d (some_left d o)) h m
near_of (negsuc p) s q d o m h = near_down p s q (least_value d) (greatest_value d) (ordered d (some_left d o)) h m

-- where more goes over s, there are more steps
pub more_steps : (a m n s : ℕ) → a * m ≤ s → s < a * n → m < n
more_steps a m n s h k = by (leb n m) refl
  where
    by : (b : Bool) → leb n m ≡ b → m < n
    by true e =
        let l : a * n ≤ a * m = mul-le-mul_left a (leb-true n m e) in
        absurd (omega (arith, h, k, l))
    by false e = grind (arith, nat_tests)

pub near_zero : (s : ℕ) (d : Values) → is_domain_left d ≡ true → IsNear (pos 0) s d
near_zero s d o = near_up 0 s (nat_abs (greatest_value d -ℤ least_value d)) (least_value d) (greatest_value d) l (reach (least_value d) (greatest_value d) l) (omega arith)
  where
    l : least_value d ≤ℤ greatest_value d
    l = ordered d (some_left d o)

    reach : (a b : ℤ) → a ≤ℤ b → b ≤ℤ (a +ℤ pos (nat_abs (b -ℤ a)))
    reach a b h = omega (arith, ints)

pub zero_of : (a : ℤ) → int_lt (pos 0) a ≡ false → int_lt a (pos 0) ≡ false → a ≡ pos 0
zero_of a p n = grind (arith, ints)
