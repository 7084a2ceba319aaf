-- The least spans of sums, of the smaller and the greater of two numbers and of absolute values.
use Rattle.std.proofs.Common.{refl, sym, subst, Bool, true, false, cond, int_le, ◌≡◌, ℤ, pos, ◌+ℤ◌, ◌≤ℤ◌, ◌<ℤ◌, neg_ℤ, arith}
use Rattle.std.specs.Int.{int_min, int_max}
use Rattle.std.proofs.lemmas.Int.{ints, clamps, by_lt_z}
use Rattle.fd_interval.specs.declared.span.Span.{Span}
use Rattle.fd_interval.specs.Spans.{IsIn, IsResult, IsAbsolute, IsLeastSpan, absolute, absolute_lo, absolute_hi}
use Rattle.fd_interval.proofs.Ends.{lo_in, hi_in, from_ends}

pub result_at : (f : ℤ → ℤ → ℤ) (a b : Span) (x y n : ℤ) → IsIn a x → IsIn b y → n ≡ f x y → IsResult f a b n
result_at f a b x y n p q e = record { left = x; right = y; left_in = p; right_in = q; is = e }

pub sum_is_least : (a b s : Span) → s.lo ≡ (a.lo +ℤ b.lo) → s.hi ≡ (a.hi +ℤ b.hi) → IsLeastSpan (IsResult ◌+ℤ◌ a b) s
sum_is_least a b s e f = from_ends (IsResult ◌+ℤ◌ a b) s
    (λ n r. record { from = omega (arith, ints); to = omega (arith, ints) })
    (result_at ◌+ℤ◌ a b a.lo b.lo s.lo (lo_in a) (lo_in b) e)
    (result_at ◌+ℤ◌ a b a.hi b.hi s.hi (hi_in a) (hi_in b) f)

pub smaller_is_least : (a b s : Span) → s.lo ≡ int_min a.lo b.lo → s.hi ≡ int_min a.hi b.hi → IsLeastSpan (IsResult int_min a b) s
smaller_is_least a b s e f = from_ends (IsResult int_min a b) s
    (λ n r. record { from = omega (arith, ints, clamps); to = omega (arith, ints, clamps) })
    (result_at int_min a b a.lo b.lo s.lo (lo_in a) (lo_in b) e)
    (result_at int_min a b a.hi b.hi s.hi (hi_in a) (hi_in b) f)

pub greater_is_least : (a b s : Span) → s.lo ≡ int_max a.lo b.lo → s.hi ≡ int_max a.hi b.hi → IsLeastSpan (IsResult int_max a b) s
greater_is_least a b s e f = from_ends (IsResult int_max a b) s
    (λ n r. record { from = omega (arith, ints, clamps); to = omega (arith, ints, clamps) })
    (result_at int_max a b a.lo b.lo s.lo (lo_in a) (lo_in b) e)
    (result_at int_max a b a.hi b.hi s.hi (hi_in a) (hi_in b) f)

absolute_at : (a : Span) (x n : ℤ) → IsIn a x → n ≡ absolute x → IsAbsolute a n
absolute_at a x n p e = record { member = x; member_in = p; is = e }

-- the ends of the absolute values, by comparisons alone
pub lo_is : (a : Span) (n : ℤ) → n ≡ int_max (int_max a.lo (neg_ℤ a.hi)) (pos 0) → n ≡ absolute_lo a
lo_is a n e = first (int_le (pos 0) a.lo) refl
  where
    second : a.lo <ℤ pos 0 → (t : Bool) → int_le a.hi (pos 0) ≡ t → n ≡ cond t (absolute a.hi) (pos 0)
    second p true q = omega (arith, ints, clamps, a.ordered)
    second p false q = omega (arith, ints, clamps, a.ordered)

    first : (t : Bool) → int_le (pos 0) a.lo ≡ t → n ≡ cond t a.lo (cond (int_le a.hi (pos 0)) (absolute a.hi) (pos 0))
    first true q = omega (arith, ints, clamps, a.ordered)
    first false q = second (omega (arith, ints)) (int_le a.hi (pos 0)) refl

pub hi_is : (a : Span) (n : ℤ) → n ≡ int_max a.hi (neg_ℤ a.lo) → n ≡ absolute_hi a
hi_is a n e = omega (arith, ints, clamps, a.ordered)

lowest : (a : Span) (n : ℤ) → n ≡ absolute_lo a → IsAbsolute a n
lowest a n e = first (int_le (pos 0) a.lo) refl e
  where
    second : a.lo <ℤ pos 0 → (t : Bool) → int_le a.hi (pos 0) ≡ t → n ≡ cond t (absolute a.hi) (pos 0) → IsAbsolute a n
    second p true q k = absolute_at a a.hi n (hi_in a) k
    second p false q k = absolute_at a (pos 0) n (record { from = omega (arith, ints); to = omega (arith, ints) }) k

    first : (t : Bool) → int_le (pos 0) a.lo ≡ t → n ≡ cond t a.lo (cond (int_le a.hi (pos 0)) (absolute a.hi) (pos 0)) → IsAbsolute a n
    first true q k = absolute_at a a.lo n (lo_in a) (omega (arith, ints))
    first false q k = second (omega (arith, ints)) (int_le a.hi (pos 0)) refl k

highest : (a : Span) (n : ℤ) → n ≡ absolute_hi a → IsAbsolute a n
highest a n e = by_lt_z (absolute a.lo) (absolute a.hi)
    (λ p. absolute_at a a.hi n (hi_in a) (omega (arith, ints, clamps)))
    (λ p. absolute_at a a.lo n (lo_in a) (omega (arith, ints, clamps)))

lower : (a : Span) (n m : ℤ) → n ≡ absolute_lo a → IsIn a m → n ≤ℤ absolute m
lower a n m e k = first (int_le (pos 0) a.lo) refl e
  where
    second : (t : Bool) → int_le a.hi (pos 0) ≡ t → n ≡ cond t (absolute a.hi) (pos 0) → n ≤ℤ absolute m
    second true q f = omega (arith, ints)
    second false q f = omega (arith, ints)

    first : (t : Bool) → int_le (pos 0) a.lo ≡ t → n ≡ cond t a.lo (cond (int_le a.hi (pos 0)) (absolute a.hi) (pos 0)) → n ≤ℤ absolute m
    first true q f = omega (arith, ints)
    first false q f = second (int_le a.hi (pos 0)) refl f

pub absolute_is_least : (a s : Span) → s.lo ≡ absolute_lo a → s.hi ≡ absolute_hi a → IsLeastSpan (IsAbsolute a) s
absolute_is_least a s e f = from_ends (IsAbsolute a) s
    (λ n r. record { from = subst (λ m. s.lo ≤ℤ m) (sym r.is) (lower a s.lo r.member e r.member_in); to = omega (arith, ints, clamps) })
    (lowest a s.lo e)
    (highest a s.hi f)
