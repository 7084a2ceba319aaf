-- Spans that meet; and that a span whose ends are both among some numbers, and which holds each of them, is their least span.
use Rattle.std.proofs.Common.{ℤ, ◌≤ℤ◌, arith}
use Rattle.std.proofs.lemmas.Int.{ints, by_lt_z}
use Rattle.fd_interval.specs.declared.span.Span.{Span}
use Rattle.fd_interval.specs.Spans.{IsIn, IsLeastSpan, ShareNumber}

pub lo_in : (s : Span) → IsIn s s.lo
lo_in s = record { from = omega (arith, ints); to = s.ordered }

pub hi_in : (s : Span) → IsIn s s.hi
hi_in s = record { from = s.ordered; to = omega (arith, ints) }

pub from_ends : (P : ℤ → Type 0) (s : Span) → ((n : ℤ) → P n → IsIn s n) → P s.lo → P s.hi → IsLeastSpan P s
from_ends P s holds lo hi = record {
  holds = holds;
  least = λ l h each. let p = each s.lo lo in let q = each s.hi hi in (p.from, q.to);
}

-- the greater of the lower ends is a member of both
pub meet : (a b : Span) → a.lo ≤ℤ b.hi → b.lo ≤ℤ a.hi → ShareNumber a b
meet a b p q = by_lt_z a.lo b.lo
    (λ r. record { number = b.lo; in_a = record { from = omega (arith, ints); to = q }; in_b = lo_in b })
    (λ r. record { number = a.lo; in_a = lo_in a; in_b = record { from = r; to = p } })
