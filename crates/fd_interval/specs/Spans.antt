-- What a span holds, and the least span that holds a set of numbers.
use Rattle.std.specs.Prelude.{◌≡◌, ℤ, pos, unsigned_abs, ◌≤ℤ◌, int_le, cond}
use Rattle.std.specs.Int.{int_min, int_max}
use Rattle.fd_interval.specs.declared.span.Span.{Span}

pub record IsBetween (lo hi n : ℤ) : Type 0 where
  pub from : lo ≤ℤ n
  pub to : n ≤ℤ hi

-- n is a member of the span
abbrev pub IsIn : Span → ℤ → Type 0
IsIn s n = IsBetween s.lo s.hi n

-- some number is a member of both
pub record ShareNumber (a b : Span) : Type 0 where
  pub number : ℤ
  pub in_a : IsIn a number
  pub in_b : IsIn b number

-- n is what the operation gives at a member of a and a member of b
pub record IsResult (operation : ℤ → ℤ → ℤ) (a b : Span) (n : ℤ) : Type 0 where
  pub left : ℤ
  pub right : ℤ
  pub left_in : IsIn a left
  pub right_in : IsIn b right
  pub is : n ≡ operation left right

abbrev pub absolute : ℤ → ℤ
absolute n = pos (unsigned_abs n)

-- n is a member of a without its sign
pub record IsAbsolute (a : Span) (n : ℤ) : Type 0 where
  pub member : ℤ
  pub member_in : IsIn a member
  pub is : n ≡ absolute member

-- where the absolute values of a span's members begin and where they end
abbrev pub absolute_lo : Span → ℤ
absolute_lo a = cond (int_le (pos 0) a.lo) a.lo (cond (int_le a.hi (pos 0)) (absolute a.hi) (pos 0))

abbrev pub absolute_hi : Span → ℤ
absolute_hi a = int_max (absolute a.lo) (absolute a.hi)

-- the span holds each of the numbers, and no smaller range of numbers does
pub record IsLeastSpan (IsOne : ℤ → Type 0) (s : Span) : Type 0 where
  pub holds : (n : ℤ) → IsOne n → IsIn s n
  pub least : (lo hi : ℤ) → ((n : ℤ) → IsOne n → IsBetween lo hi n) → (lo ≤ℤ s.lo) × (s.hi ≤ℤ hi)

-- the least and the greatest of four numbers
abbrev pub least_of_four : ℤ → ℤ → ℤ → ℤ → ℤ
least_of_four p q r s = int_min p (int_min q (int_min r s))

abbrev pub greatest_of_four : ℤ → ℤ → ℤ → ℤ → ℤ
greatest_of_four p q r s = int_max p (int_max q (int_max r s))
