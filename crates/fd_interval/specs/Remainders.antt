-- The span of the remainders of the members of two spans.
use Rattle.std.specs.Prelude.{◌≡◌, ◌≢◌, ℤ, pos, ◌-ℤ◌, int_rem, int_le, cond, Bool, ◌&&◌}
use Rattle.std.specs.Ordering.{int_eq}
use Rattle.std.specs.Int.{int_min, int_max}
use Rattle.fd_interval.specs.declared.span.Span.{Span}
use Rattle.fd_interval.specs.Spans.{IsIn, absolute}

-- n is the remainder of a member of a by a member of b other than 0
pub record IsRemainder (a b : Span) (n : ℤ) : Type 0 where
  pub dividend : ℤ
  pub divisor : ℤ
  pub dividend_in : IsIn a dividend
  pub divisor_in : IsIn b divisor
  pub nonzero : divisor ≢ pos 0
  pub is : n ≡ int_rem dividend divisor

-- it holds 0 alone
abbrev pub IsZero : Span → Type 0
IsZero s = (s.lo ≡ pos 0) × (s.hi ≡ pos 0)

-- it holds one number
abbrev pub is_single : Span → Bool
is_single s = int_eq s.lo s.hi

-- the greater absolute value of the ends, less one: no remainder by a member is farther from 0
abbrev pub farthest_remainder : Span → ℤ
farthest_remainder b = int_max (absolute b.lo) (absolute b.hi) -ℤ pos 1

-- how far the remainders may reach below 0 and above 0: no farther than the members of a, nor than
-- the divisors let them
abbrev pub lower_end : ℤ → ℤ → ℤ
lower_end lo far = cond (int_le (pos 0) lo) (pos 0) (int_max lo (pos 0 -ℤ far))

abbrev pub upper_end : ℤ → ℤ → ℤ
upper_end hi far = cond (int_le hi (pos 0)) (pos 0) (int_min hi far)

-- where the span of the remainders begins and where it ends: at the one remainder where both spans
-- hold one number
abbrev pub remainder_lo : Span → Span → ℤ
remainder_lo a b = cond (is_single a && is_single b) (int_rem a.lo b.lo) (lower_end a.lo (farthest_remainder b))

abbrev pub remainder_hi : Span → Span → ℤ
remainder_hi a b = cond (is_single a && is_single b) (int_rem a.lo b.lo) (upper_end a.hi (farthest_remainder b))
