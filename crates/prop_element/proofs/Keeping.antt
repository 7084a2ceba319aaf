-- A variable and what it may keep.
use Rattle.std.proofs.Common.{◌≡◌, ◌<◌, true, not, length, sym, subst, arith, ℤ}
use Rattle.std.specs.Prelude.{◌≤ℤ◌, ◌<ℤ◌, int_lt, ◌-ℤ◌, ◌+ℤ◌, pos, negsuc}
use Rattle.std.proofs.lemmas.Int.{ints}
use Rattle.std.proofs.lemmas.Bool.{not_from_false, and_from}
use Rattle.qc_model.specs.declared.problem.VarId.{VarId}
use Rattle.qc_model.specs.Closed.{refutes_at}
use Rattle.qc_model.specs.Content.{Rule}
use Rattle.qc_model.specs.Domains.{Box, values_left, values_within, is_within, least_value, greatest_value}
use Rattle.qc_model.specs.Valid.{is_number}
use Rattle.model_arguments.proofs.Values.{has_least, has_greatest}
use Rattle.model_arguments.proofs.Kept.{some_of, keeps, over_low, under_high, small_of, lower, inside}
use Rattle.qc_refuter.proofs.Domains.{some_left, small_left}
use Rattle.qc_refuter.specs.Met.{is_domain_left}
use Rattle.prop_base.specs.Closed.{IsCut, keeps_at}
use Rattle.prop_element.specs.Hulls.{IsHull}

pub cut_below : (c : Rule) (box : Box) (x : VarId) (low high l h : ℤ) → x.0 < length box → is_domain_left (values_left box x.0) ≡ true → IsHull c box x.0 low high → l ≡ least_value (values_left box x.0) → h ≡ low -ℤ pos 1 → int_lt l low ≡ true →
    IsCut c box (record { x = x; lo = l; hi = h })
cut_below c box x low high l h p o u e f t0 =
    let m = lower l low t0 in
    let d = values_left box x.0 in
    let t = has_least d (some_left d o) in
    let s = subst (λ z. is_number z ≡ true) (sym e) (small_left d (least_value d) o t) in
    let n = some_of (values_within l h d) (least_value d) (keeps (is_within l h) d (least_value d) (inside l h (least_value d) (from l (least_value d) e) (upto (least_value d) l low h e f m)) t) in
    record {
      x = p;
      low = s;
      high = small_of h (down l low h (over_low l s) f m) (up low h (under_high low u.small_low) f);
      some = n;
      refuted = u.below l h n (less low h f);
    }
  where
    from : (l v : ℤ) → l ≡ v → l ≤ℤ v
    from l v e = omega (arith, ints, e)

    upto : (v l low h : ℤ) → l ≡ v → h ≡ low -ℤ pos 1 → l <ℤ low → v ≤ℤ h
    upto v l low h e f m = omega (arith, ints, e, f, m)

    down : (l low h : ℤ) → negsuc 999999999 ≤ℤ l → h ≡ low -ℤ pos 1 → l <ℤ low → negsuc 999999999 ≤ℤ h
    down l low h a f m = omega (arith, ints, a, f, m)

    up : (low h : ℤ) → low ≤ℤ pos 1000000000 → h ≡ low -ℤ pos 1 → h ≤ℤ pos 1000000000
    up low h a f = omega (arith, ints, a, f)

    less : (low h : ℤ) → h ≡ low -ℤ pos 1 → h <ℤ low
    less low h f = omega (arith, ints, f)

pub cut_above : (c : Rule) (box : Box) (x : VarId) (low high l h : ℤ) → x.0 < length box → is_domain_left (values_left box x.0) ≡ true → IsHull c box x.0 low high → h ≡ greatest_value (values_left box x.0) → l ≡ high +ℤ pos 1 → int_lt high h ≡ true →
    IsCut c box (record { x = x; lo = l; hi = h })
cut_above c box x low high l h p o u e f t0 =
    let m = lower high h t0 in
    let d = values_left box x.0 in
    let t = has_greatest d (some_left d o) in
    let s = subst (λ z. is_number z ≡ true) (sym e) (small_left d (greatest_value d) o t) in
    let n = some_of (values_within l h d) (greatest_value d) (keeps (is_within l h) d (greatest_value d) (inside l h (greatest_value d) (from (greatest_value d) h high l e f m) (upto (greatest_value d) h e)) t) in
    record {
      x = p;
      low = small_of l (down high l (over_low high u.small_high) f) (up h high l (under_high h s) f m);
      high = s;
      some = n;
      refuted = u.above l h n (more high l f);
    }
  where
    from : (v h high l : ℤ) → h ≡ v → l ≡ high +ℤ pos 1 → high <ℤ h → l ≤ℤ v
    from v h high l e f m = omega (arith, ints, e, f, m)

    upto : (v h : ℤ) → h ≡ v → v ≤ℤ h
    upto v h e = omega (arith, ints, e)

    down : (high l : ℤ) → negsuc 999999999 ≤ℤ high → l ≡ high +ℤ pos 1 → negsuc 999999999 ≤ℤ l
    down high l a f = omega (arith, ints, a, f)

    up : (h high l : ℤ) → h ≤ℤ pos 1000000000 → l ≡ high +ℤ pos 1 → high <ℤ h → l ≤ℤ pos 1000000000
    up h high l a f m = omega (arith, ints, a, f, m)

    more : (high l : ℤ) → l ≡ high +ℤ pos 1 → high <ℤ l
    more high l f = omega (arith, ints, f)

-- both ends lie within
pub kept_at : (c : Rule) (box : Box) (x : VarId) (low high l h : ℤ) → IsHull c box x.0 low high → l ≡ least_value (values_left box x.0) → h ≡ greatest_value (values_left box x.0) → low ≤ℤ l → h ≤ℤ high → keeps_at c box x.0 ≡ true
kept_at c box x low high l h u e f m n =
    let d = values_left box x.0 in
    let p = subst (λ z. low ≤ℤ z) e m in
    let q = subst (λ z. z ≤ℤ high) f n in
    and_from (not (refutes_at c box x.0 (least_value d))) (not (refutes_at c box x.0 (greatest_value d)))
    (not_from_false (refutes_at c box x.0 (least_value d)) (u.first p q))
    (not_from_false (refutes_at c box x.0 (greatest_value d)) (u.last p q))
