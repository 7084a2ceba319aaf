-- Where the dividend may be 0, the ends of the range of a remainder are reached.
use Rattle.std.proofs.Common.{◌≡◌, zero, suc, ◌<◌, Bool, true, false, ◌&&◌, cond, refl, sym, ap, ◌∙◌, arith, mod-eq_of_lt}
use Rattle.std.specs.Prelude.{ℤ, pos, negsuc, neg_ℤ, nat_abs, ◌-ℤ◌, int_le, int_rem}
use Rattle.std.specs.Ordering.{int_eq}
use Rattle.std.specs.Int.{int_min, int_max}
use Rattle.std.proofs.lemmas.Int.{ints, clamps}
use Rattle.std.proofs.lemmas.Bool.Decides.{Decides-int_eq}
use Rattle.std.proofs.lemmas.Bool.{and_from, and_parts}
use Rattle.qc_model.specs.Ranges.{Range, point, absolute, is_single_range, greatest_remainder, remainder_range}
use Rattle.qc_model.specs.Left.{is_zero_range}
use Rattle.qc_model.proofs.Sound.{differ}
use Rattle.model_table.specs.Spans.{LiesWithin, IsSpan, IsRemainderOf, ReachesEnds}
use Rattle.model_table.proofs.Sums.{same_number}
use Rattle.model_table.proofs.Remainders.{wide_ends}

-- a dividend smaller than the divisor is its own remainder
small_remainder : (n d : ℤ) → nat_abs n < nat_abs d → int_rem n d ≡ n
small_remainder (pos a) d h = ap pos (mod-eq_of_lt h)
small_remainder (negsuc a) d h = ap (λ m. neg_ℤ (pos m)) (mod-eq_of_lt h)

-- the end of the divisor whose absolute value is the greater
record IsFarEnd (d : ℤ) (b : Range) : Type 0 where
  member : LiesWithin d b
  not_zero : d ≡ pos 0 → ⊥
  far : greatest_remainder b ≡ pos (nat_abs d) -ℤ pos 1

far_end : (b : Range) → IsSpan b → is_zero_range b ≡ false → (d : ℤ) × IsFarEnd d b
far_end b s z = by (int_le (absolute b.from) (absolute b.to)) refl
  where
    no_zeros : b.from ≡ pos 0 → b.to ≡ pos 0 → ⊥
    no_zeros e f = differ (sym z ∙ and_from (int_eq b.from (pos 0)) (int_eq b.to (pos 0)) ((Decides-int_eq b.from (pos 0)).1 e) ((Decides-int_eq b.to (pos 0)).1 f))

    by : (t : Bool) → int_le (absolute b.from) (absolute b.to) ≡ t → (d : ℤ) × IsFarEnd d b
    by true e = (
      b.to,
      record {
        member = record { low = s; high = omega (arith, ints) };
        not_zero = λ q. no_zeros (omega (arith, ints)) q;
        far = omega (arith, ints, clamps);
      },
    )
    by false e = (
      b.from,
      record {
        member = record { low = omega (arith, ints); high = s };
        not_zero = λ q. omega (arith, ints);
        far = omega (arith, ints, clamps);
      },
    )

is_remainder : (a b : Range) (d n : ℤ) → IsFarEnd d b → LiesWithin n a → nat_abs n < nat_abs d → IsRemainderOf a b n
is_remainder a b d n f l h = (n, d, l, f.member, f.not_zero, sym (small_remainder n d h))

nonzero_abs : (d : ℤ) → (d ≡ pos 0 → ⊥) → 0 < nat_abs d
nonzero_abs (pos zero) n = absurd (n refl)
nonzero_abs (pos (suc d)) n = omega arith
nonzero_abs (negsuc d) n = omega arith

wide_reach : (a b : Range) (d : ℤ) → LiesWithin (pos 0) a → IsFarEnd d b → ReachesEnds (IsRemainderOf a b) (wide_ends a (greatest_remainder b))
wide_reach a b d z f = (low (int_le (pos 0) a.from) refl, high (int_le a.to (pos 0)) refl)
  where
    at_zero : IsRemainderOf a b (pos 0)
    at_zero = is_remainder a b d (pos 0) f z (nonzero_abs d f.not_zero)

    low : (t : Bool) → int_le (pos 0) a.from ≡ t → IsRemainderOf a b (cond t (pos 0) (int_max a.from (pos 0 -ℤ greatest_remainder b)))
    low true e = at_zero
    low false e = let p = nonzero_abs d f.not_zero in lower (greatest_remainder b) f.far p
      where
        lower : (m : ℤ) → m ≡ pos (nat_abs d) -ℤ pos 1 → 0 < nat_abs d → IsRemainderOf a b (int_max a.from (pos 0 -ℤ m))
        lower m q p =
            is_remainder a b d (int_max a.from (pos 0 -ℤ m)) f
            (record { low = omega (arith, ints, clamps); high = omega (arith, ints, clamps, z.high) })
            (omega (arith, ints, clamps))

    high : (t : Bool) → int_le a.to (pos 0) ≡ t → IsRemainderOf a b (cond t (pos 0) (int_min a.to (greatest_remainder b)))
    high true e = at_zero
    high false e = let p = nonzero_abs d f.not_zero in upper (greatest_remainder b) f.far p
      where
        upper : (m : ℤ) → m ≡ pos (nat_abs d) -ℤ pos 1 → 0 < nat_abs d → IsRemainderOf a b (int_min a.to m)
        upper m q p =
            is_remainder a b d (int_min a.to m) f
            (record { low = omega (arith, ints, clamps, z.low); high = omega (arith, ints, clamps) })
            (omega (arith, ints, clamps))

pub remainders_reach : (a b : Range) → LiesWithin (pos 0) a → IsSpan b → is_zero_range b ≡ false → ReachesEnds (IsRemainderOf a b) (remainder_range a b)
remainders_reach a b z s n = by (is_single_range a && is_single_range b) refl (far_end b s n)
  where
    lone : is_single_range b ≡ true → b.from ≡ pos 0 → ⊥
    lone e q = differ (sym n ∙ and_from (int_eq b.from (pos 0)) (int_eq b.to (pos 0)) ((Decides-int_eq b.from (pos 0)).1 q) ((Decides-int_eq b.to (pos 0)).1 (sym (same_number b.from b.to e) ∙ q)))

    own : IsSpan a → is_single_range b ≡ true → IsRemainderOf a b (int_rem a.from b.from)
    own t e = (a.from, b.from, record { low = omega (arith, ints); high = t }, record { low = omega (arith, ints); high = s }, lone e, refl)

    by : (t : Bool) → (is_single_range a && is_single_range b) ≡ t → ((d : ℤ) × IsFarEnd d b) → ReachesEnds (IsRemainderOf a b) (cond t (point (int_rem a.from b.from)) (wide_ends a (greatest_remainder b)))
    by true e f =
        let p = and_parts (is_single_range a) (is_single_range b) e in
        let o = own (omega (arith, ints, z.low, z.high)) p.1 in
        (o, o)
    by false e f = wide_reach a b f.0 z f.1
