-- Walks from value to value, from either end, to the first that passes; and values beyond a range.
use Rattle.std.proofs.Common.{◌≡◌, ◌<◌, Bool, true, false, not, Option, Some, None, refl, sym, subst, arith, ℤ}
use Rattle.std.specs.Prelude.{pos, negsuc, int_lt, ◌<ℤ◌, ◌≤ℤ◌, ◌+ℤ◌, ◌-ℤ◌, nat_abs, FitsSigned, IfNone, IfSome}
use Rattle.std.proofs.lemmas.Int.{ints}
use Rattle.qc_model.specs.Domains.{Values, has_value, is_within, least_value, greatest_value}
use Rattle.qc_model.specs.declared.problem.Set.TheVariants.{Range as SetRange}
use Rattle.model_arguments.proofs.Values.{has_least, has_greatest}
use Rattle.model_arguments.proofs.Bools.{clash}
use Rattle.model_arguments.proofs.Kept.{low_end, high_end, lower, reaches, through, apart, same_end, out_low, out_high, is_out_low, is_out_high, over_low, under_high}
use Rattle.fd_store.specs.Held.{values_from, values_up_to, least_of, greatest_of}
use Rattle.qc_refuter.specs.Met.{is_domain_left}
use Rattle.qc_refuter.proofs.Commons.{IsFrom, IsUpTo, from_some, from_none, up_to_some, up_to_none}
use Rattle.qc_refuter.proofs.Domains.{some_left, small_left}
use Rattle.qc_refuter.proofs.Walks.{IsWalked}
use Rattle.prop_element.specs.Members.{is_wanted, IsFirst, IsLast, NonePasses}
use mir.Syntax.{w64}

not_less : (a b : ℤ) → (b <ℤ a → ⊥) → a ≤ℤ b
not_less a b f = by (int_lt b a) refl
  where
    by : (t : Bool) → int_lt b a ≡ t → a ≤ℤ b
    by true h = absurd (f (lower b a h))
    by false h = reaches b a h

-- upwards
pub walked_first : (p : ℤ → Bool) (d : Values) (from v : ℤ) → IsWalked p d from → IsFrom d from v → p v ≡ true → IsFirst p d v
walked_first p d from v f n h = record {
  there = n.there;
  passes = h;
  all = λ u t k. n.all u t (not_less from u (λ l. clash (p u) k (f u t l)));
}

pub walked_none : (p : ℤ → Bool) (d : Values) (from : ℤ) → IsWalked p d from → None ≡ least_of (values_from from d) → NonePasses p d
walked_none p d from f n u t k = from_none d from u n t (not_less from u (λ l. clash (p u) k (f u t l)))

-- downwards: all values above v were tried, and none passes
abbrev pub IsWalkedDown : (ℤ → Bool) → Values → ℤ → Type 0
IsWalkedDown p d v = (w : ℤ) → has_value d w ≡ true → v <ℤ w → p w ≡ false

pub none_after : (p : ℤ → Bool) (d : Values) (v : ℤ) → v ≡ greatest_value d → IsWalkedDown p d v
none_after p d v e w h m = absurd (apart v w m (subst (λ z. w ≤ℤ z) (sym e) (high_end d w h)))

pub walked_down : (p : ℤ → Bool) (d : Values) (v w : ℤ) → IsWalkedDown p d v → IsUpTo d v w → p w ≡ false → IsWalkedDown p d (w -ℤ pos 1)
walked_down p d v w f n here u h m = by (int_lt v u) (lower v u) (λ e. same_end u w (n.all u h (reaches v u e)) (back u w m))
  where
    back : (u w : ℤ) → (w -ℤ pos 1) <ℤ u → w ≤ℤ u
    back u w m = omega (arith, ints, m)

    by : (b : Bool) → (b ≡ true → v <ℤ u) → (b ≡ false → u ≡ w) → p u ≡ false
    by true e q = f u h (e refl)
    by false e q = subst (λ z. p z ≡ false) (sym (q refl)) here

pub walk_down_smaller : (d : Values) (v w : ℤ) → is_domain_left d ≡ true → IsUpTo d v w → nat_abs ((w -ℤ pos 1) +ℤ pos 1000000001) < nat_abs (v +ℤ pos 1000000001)
walk_down_smaller d v w o n = smaller v w n.down (over_low w (small_left d w o n.there))
  where
    smaller : (v w : ℤ) → w ≤ℤ v → negsuc 999999999 ≤ℤ w → nat_abs ((w -ℤ pos 1) +ℤ pos 1000000001) < nat_abs (v +ℤ pos 1000000001)
    smaller v w h k = grind (arith, ints)

pub previous_fits : (d : Values) (v w : ℤ) → is_domain_left d ≡ true → IsUpTo d v w → FitsSigned w64 (w -ℤ pos 1)
previous_fits d v w o n = fits w (over_low w (small_left d w o n.there)) (under_high w (small_left d w o n.there))
  where
    fits : (w : ℤ) → negsuc 999999999 ≤ℤ w → w ≤ℤ pos 1000000000 → FitsSigned w64 (w -ℤ pos 1)
    fits w h k = grind (arith, ints)

pub walked_last : (p : ℤ → Bool) (d : Values) (up_to v : ℤ) → IsWalkedDown p d up_to → IsUpTo d up_to v → p v ≡ true → IsLast p d v
walked_last p d up_to v f n h = record {
  there = n.there;
  passes = h;
  all = λ u t k. n.all u t (not_less u up_to (λ l. clash (p u) k (f u t l)));
}

pub walked_down_none : (p : ℤ → Bool) (d : Values) (up_to : ℤ) → IsWalkedDown p d up_to → None ≡ greatest_of (values_up_to up_to d) → NonePasses p d
walked_down_none p d up_to f n u t k = up_to_none d up_to u n t (not_less u up_to (λ l. clash (p u) k (f u t l)))

-- beyond a range
pub beyond_first : (d : Values) (low high v : ℤ) → is_domain_left d ≡ true → v ≡ least_value d → int_lt v low ≡ true → IsFirst (is_wanted false (SetRange low high)) d v
beyond_first d low high v o e h = record {
  there = subst (λ z. has_value d z ≡ true) (sym e) (has_least d (some_left d o));
  passes = is_out_low low high v (lower v low h);
  all = λ u t k. subst (λ z. z ≤ℤ u) (sym e) (low_end d u t);
}

pub beyond_last : (d : Values) (low high v : ℤ) → is_domain_left d ≡ true → v ≡ greatest_value d → int_lt high v ≡ true → IsLast (is_wanted false (SetRange low high)) d v
beyond_last d low high v o e h = record {
  there = subst (λ z. has_value d z ≡ true) (sym e) (has_greatest d (some_left d o));
  passes = is_out_high low high v (lower high v h);
  all = λ u t k. subst (λ z. u ≤ℤ z) (sym e) (high_end d u t);
}

-- no value lies below the range: those that pass lie above it
above : (d : Values) (low high l next u : ℤ) → l ≡ least_value d → int_lt l low ≡ false → next ≡ high +ℤ pos 1 → has_value d u ≡ true → not (is_within low high u) ≡ true → next ≤ℤ u
above d low high l next u e h f t k = up high next u f (out_high low high u k (through low l u (reaches l low h) (subst (λ z. z ≤ℤ u) (sym e) (low_end d u t))))
  where
    up : (high next u : ℤ) → next ≡ high +ℤ pos 1 → high <ℤ u → next ≤ℤ u
    up high next u f h = omega (arith, ints, f, h)

below : (d : Values) (low high l next u : ℤ) → l ≡ greatest_value d → int_lt high l ≡ false → next ≡ low -ℤ pos 1 → has_value d u ≡ true → not (is_within low high u) ≡ true → u ≤ℤ next
below d low high l next u e h f t k = down low next u f (out_low low high u k (through u l high (subst (λ z. u ≤ℤ z) (sym e) (high_end d u t)) (reaches high l h)))
  where
    down : (low next u : ℤ) → next ≡ low -ℤ pos 1 → u <ℤ low → u ≤ℤ next
    down low next u f h = omega (arith, ints, f, h)

pub above_none : (d : Values) (low high l next : ℤ) (r : Option ℤ) → l ≡ least_value d → int_lt l low ≡ false → next ≡ high +ℤ pos 1 → r ≡ least_of (values_from next d) → IfNone r (NonePasses (is_wanted false (SetRange low high)) d)
above_none d low high l next None e h f n = λ u t k. from_none d next u n t (above d low high l next u e h f t k)
above_none d low high l next (Some v) e h f n = tt

pub above_some : (d : Values) (low high l next : ℤ) (r : Option ℤ) → l ≡ least_value d → int_lt l low ≡ false → next ≡ high +ℤ pos 1 → r ≡ least_of (values_from next d) → IfSome r (λ v. IsFirst (is_wanted false (SetRange low high)) d v)
above_some d low high l next None e h f n = tt
above_some d low high l next (Some v) e h f n =
    let m = from_some d next v n in
    record {
      there = m.there;
      passes = is_out_high low high v (over high next v f m.up);
      all = λ u t k. m.all u t (above d low high l next u e h f t k);
    }
  where
    over : (high next v : ℤ) → next ≡ high +ℤ pos 1 → next ≤ℤ v → high <ℤ v
    over high next v f h = omega (arith, ints, f, h)

pub below_none : (d : Values) (low high l next : ℤ) (r : Option ℤ) → l ≡ greatest_value d → int_lt high l ≡ false → next ≡ low -ℤ pos 1 → r ≡ greatest_of (values_up_to next d) → IfNone r (NonePasses (is_wanted false (SetRange low high)) d)
below_none d low high l next None e h f n = λ u t k. up_to_none d next u n t (below d low high l next u e h f t k)
below_none d low high l next (Some v) e h f n = tt

pub below_some : (d : Values) (low high l next : ℤ) (r : Option ℤ) → l ≡ greatest_value d → int_lt high l ≡ false → next ≡ low -ℤ pos 1 → r ≡ greatest_of (values_up_to next d) → IfSome r (λ v. IsLast (is_wanted false (SetRange low high)) d v)
below_some d low high l next None e h f n = tt
below_some d low high l next (Some v) e h f n =
    let m = up_to_some d next v n in
    record {
      there = m.there;
      passes = is_out_low low high v (under low next v f m.down);
      all = λ u t k. m.all u t (below d low high l next u e h f t k);
    }
  where
    under : (low next v : ℤ) → next ≡ low -ℤ pos 1 → v ≤ℤ next → v <ℤ low
    under low next v f h = omega (arith, ints, f, h)
