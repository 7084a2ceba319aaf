-- A variable and what it may keep.
use Rattle.std.proofs.Common.{◌≡◌, ◌∙◌, ◌<◌, true, length, sym, ap, subst, arith, ℤ}
use Rattle.std.specs.Prelude.{◌≤ℤ◌, ◌<ℤ◌, int_lt, int_le, ◌-ℤ◌, ◌+ℤ◌, pos, negsuc, FitsSigned}
use Rattle.std.proofs.lemmas.Int.{ints}
use Rattle.qc_model.specs.declared.problem.Arg.{Arg}
use Rattle.qc_model.specs.declared.problem.Arg.TheVariants.{Var}
use Rattle.qc_model.specs.declared.problem.VarId.{VarId}
use Rattle.qc_model.specs.Content.{Rule}
use Rattle.qc_model.specs.Domains.{Values, Box, values_left, values_within, is_within, least_value, greatest_value}
use Rattle.qc_model.specs.Refuted.{left_to}
use Rattle.qc_model.specs.Valid.{is_number}
use Rattle.model_arguments.proofs.Values.{has_least, has_greatest}
use Rattle.model_arguments.proofs.Kept.{some_of, keeps, over_low, under_high, small_of, lower, inside}
use Rattle.qc_refuter.proofs.Domains.{some_left, small_left}
use Rattle.qc_refuter.specs.Met.{is_domain_left, is_open}
use Rattle.prop_compare.proofs.Sides.{open_place}
use Rattle.prop_base.specs.Closed.{IsCut}
use Rattle.prop_arith.specs.declared.greater.Ends.{Ends}
use Rattle.prop_arith.specs.Greater.{IsHull, ends_left, misses_some}
use mir.Syntax.{w64}

pub cut_below : (c : Rule) (box : Box) (x : VarId) (low high l h : ℤ) → x.0 < length box → is_domain_left (values_left box x.0) ≡ true → IsHull c box x.0 low high → l ≡ least_value (values_left box x.0) → h ≡ low -ℤ pos 1 → int_lt l low ≡ true →
    IsCut c box (record { x = x; lo = l; hi = h })
cut_below c box x low high l h p o u e f t0 =
    let m = lower l low t0 in
    let d = values_left box x.0 in
    let t = has_least d (some_left d o) in
    let s = subst (λ z. is_number z ≡ true) (sym e) (small_left d (least_value d) o t) in
    let n = some_of (values_within l h d) (least_value d) (keeps (is_within l h) d (least_value d) (inside l h (least_value d) (from l (least_value d) e) (upto (least_value d) l low h e f m)) t) in
    record {
      x = p;
      low = s;
      high = small_of h (down l low h (over_low l s) f m) (up low h (under_high low u.small_low) f);
      some = n;
      refuted = u.below l h n (less low h f);
    }
  where
    from : (l v : ℤ) → l ≡ v → l ≤ℤ v
    from l v e = omega (arith, ints, e)

    upto : (v l low h : ℤ) → l ≡ v → h ≡ low -ℤ pos 1 → l <ℤ low → v ≤ℤ h
    upto v l low h e f m = omega (arith, ints, e, f, m)

    down : (l low h : ℤ) → negsuc 999999999 ≤ℤ l → h ≡ low -ℤ pos 1 → l <ℤ low → negsuc 999999999 ≤ℤ h
    down l low h a f m = omega (arith, ints, a, f, m)

    up : (low h : ℤ) → low ≤ℤ pos 1000000000 → h ≡ low -ℤ pos 1 → h ≤ℤ pos 1000000000
    up low h a f = omega (arith, ints, a, f)

    less : (low h : ℤ) → h ≡ low -ℤ pos 1 → h <ℤ low
    less low h f = omega (arith, ints, f)

pub cut_above : (c : Rule) (box : Box) (x : VarId) (low high l h : ℤ) → x.0 < length box → is_domain_left (values_left box x.0) ≡ true → IsHull c box x.0 low high → h ≡ greatest_value (values_left box x.0) → l ≡ high +ℤ pos 1 → int_lt high h ≡ true →
    IsCut c box (record { x = x; lo = l; hi = h })
cut_above c box x low high l h p o u e f t0 =
    let m = lower high h t0 in
    let d = values_left box x.0 in
    let t = has_greatest d (some_left d o) in
    let s = subst (λ z. is_number z ≡ true) (sym e) (small_left d (greatest_value d) o t) in
    let n = some_of (values_within l h d) (greatest_value d) (keeps (is_within l h) d (greatest_value d) (inside l h (greatest_value d) (from (greatest_value d) h high l e f m) (upto (greatest_value d) h e)) t) in
    record {
      x = p;
      low = small_of l (down high l (over_low high u.small_high) f) (up h high l (under_high h s) f m);
      high = s;
      some = n;
      refuted = u.above l h n (more high l f);
    }
  where
    from : (v h high l : ℤ) → h ≡ v → l ≡ high +ℤ pos 1 → high <ℤ h → l ≤ℤ v
    from v h high l e f m = omega (arith, ints, e, f, m)

    upto : (v h : ℤ) → h ≡ v → v ≤ℤ h
    upto v h e = omega (arith, ints, e)

    down : (high l : ℤ) → negsuc 999999999 ≤ℤ high → l ≡ high +ℤ pos 1 → negsuc 999999999 ≤ℤ l
    down high l a f = omega (arith, ints, a, f)

    up : (h high l : ℤ) → h ≤ℤ pos 1000000000 → l ≡ high +ℤ pos 1 → high <ℤ h → l ≤ℤ pos 1000000000
    up h high l a f m = omega (arith, ints, a, f, m)

    more : (high l : ℤ) → l ≡ high +ℤ pos 1 → high <ℤ l
    more high l f = omega (arith, ints, f)

-- numbers beside, and how far the ends are apart
pub fits_before : (v : ℤ) → is_number v ≡ true → FitsSigned w64 (v -ℤ pos 1)
fits_before v h = by v (over_low v h) (under_high v h)
  where
    by : (v : ℤ) → negsuc 999999999 ≤ℤ v → v ≤ℤ pos 1000000000 → FitsSigned w64 (v -ℤ pos 1)
    by v h k = grind (arith, ints)

pub fits_after : (v : ℤ) → is_number v ≡ true → FitsSigned w64 (v +ℤ pos 1)
fits_after v h = by v (over_low v h) (under_high v h)
  where
    by : (v : ℤ) → negsuc 999999999 ≤ℤ v → v ≤ℤ pos 1000000000 → FitsSigned w64 (v +ℤ pos 1)
    by v h k = grind (arith, ints)

fits_apart : (a b : ℤ) → is_number a ≡ true → is_number b ≡ true → FitsSigned w64 (a -ℤ b)
fits_apart a b h k = by a b (over_low a h) (under_high a h) (over_low b k) (under_high b k)
  where
    by : (a b : ℤ) → negsuc 999999999 ≤ℤ a → a ≤ℤ pos 1000000000 → negsuc 999999999 ≤ℤ b → b ≤ℤ pos 1000000000 → FitsSigned w64 (a -ℤ b)
    by a b h k l m = grind (arith, ints)

pub fits_width : (d : Values) (h l : ℤ) → is_domain_left d ≡ true → h ≡ greatest_value d → l ≡ least_value d → FitsSigned w64 (h -ℤ l)
fits_width d h l o e f =
    fits_apart h l
    (ap is_number e ∙ small_left d (greatest_value d) o (has_greatest d (some_left d o)))
    (ap is_number f ∙ small_left d (least_value d) o (has_least d (some_left d o)))

pub gap_read : (d : Values) (n h l : ℤ) → n ≡ pos (length d) → h ≡ greatest_value d → l ≡ least_value d → int_le n (h -ℤ l) ≡ misses_some d
gap_read d n h l e f g =
    ap (λ z. int_le z (h -ℤ l)) e
    ∙ (ap (λ z. int_le (pos (length d)) (z -ℤ l)) f
    ∙ ap (λ z. int_le (pos (length d)) (greatest_value d -ℤ z)) g)

-- values of an argument below what it may keep, and above
pub beyond_low : (c : Rule) (box : Box) (a : Arg) (x : VarId) (have keep : Ends) (h : ℤ) → is_open box a ≡ true → a ≡ Var x → have ≡ ends_left (left_to box a) → IsHull c box x.0 keep.least keep.greatest → h ≡ keep.least -ℤ pos 1 → int_lt have.least keep.least ≡ true →
    IsCut c box (record { x = x; lo = have.least; hi = h })
beyond_low c box a x have keep h o e f u g t =
    let p = subst (λ z. is_open box z ≡ true) e o in
    let l = ap (λ z. z.least) f ∙ ap (λ z. least_value (left_to box z)) e in
    cut_below c box x keep.least keep.greatest have.least h (open_place box x p) p u l g t

pub beyond_high : (c : Rule) (box : Box) (a : Arg) (x : VarId) (have keep : Ends) (l : ℤ) → is_open box a ≡ true → a ≡ Var x → have ≡ ends_left (left_to box a) → IsHull c box x.0 keep.least keep.greatest → l ≡ keep.greatest +ℤ pos 1 → int_lt keep.greatest have.greatest ≡ true →
    IsCut c box (record { x = x; lo = l; hi = have.greatest })
beyond_high c box a x have keep l o e f u g t =
    let p = subst (λ z. is_open box z ≡ true) e o in
    let h = ap (λ z. z.greatest) f ∙ ap (λ z. greatest_value (left_to box z)) e in
    cut_above c box x keep.least keep.greatest l have.greatest (open_place box x p) p u h g t
