-- Remainders of spans, as ranges of the table.
use Rattle.std.proofs.Common.{◌≡◌, Bool, true, false, ◌&&◌, ◌||◌, cond, refl, sym, ap, ◌∙◌, ℤ}
use Rattle.std.specs.Prelude.{pos}
use Rattle.std.specs.Ordering.{int_eq}
use Rattle.std.proofs.lemmas.Bool.Decides.{Decides-int_eq}
use Rattle.fd_interval.specs.declared.span.Span.{Span}
use Rattle.fd_interval.specs.Remainders.{remainder_lo, remainder_hi, is_single, IsZero}
use Rattle.qc_model.specs.Left.{is_zero_range}
use Rattle.qc_model.specs.Ranges.{range_of, point, ranges_miss, remainder_range}
use Rattle.qc_refuter.specs.Spanned.{range_in}

-- both ends chosen alike, as one range chosen
chosen : (s : Bool) (n lo hi : ℤ) → range_of (cond s n lo) (cond s n hi) ≡ cond s (point n) (range_of lo hi)
chosen true n lo hi = refl
chosen false n lo hi = refl

pub remainder_is : (a b s : Span) → s.lo ≡ remainder_lo a b → s.hi ≡ remainder_hi a b → range_in s ≡ remainder_range (range_in a) (range_in b)
remainder_is a b s e f = ap (λ z. range_of z s.hi) e ∙ (ap (range_of (remainder_lo a b)) f ∙ chosen (is_single a && is_single b) _ _ _)

-- whether a span holds 0 alone
pub zero_alone : (b : Span) → IsZero b → is_zero_range (range_in b) ≡ true
zero_alone b z = ap (λ v. int_eq v (pos 0) && int_eq b.hi (pos 0)) z.0 ∙ ap (λ v. int_eq v (pos 0)) z.1

pub not_alone : (b : Span) → (IsZero b → ⊥) → is_zero_range (range_in b) ≡ false
not_alone b n = by (int_eq b.lo (pos 0)) (int_eq b.hi (pos 0)) (Decides-int_eq b.lo (pos 0)).0 (Decides-int_eq b.hi (pos 0)).0
  where
    by : (x y : Bool) → (x ≡ true → b.lo ≡ pos 0) → (y ≡ true → b.hi ≡ pos 0) → (x && y) ≡ false
    by true true e f = absurd (n (e refl, f refl))
    by true false e f = refl
    by false y e f = refl

-- so what misses the remainders is what the table says
pub all_miss : (b : Span) (rest : Bool) → IsZero b → true ≡ (is_zero_range (range_in b) || rest)
all_miss b rest z = sym (ap (λ t. t || rest) (zero_alone b z))

pub some_miss : (a b c s : Span) (r : Bool) → (IsZero b → ⊥) → s.lo ≡ remainder_lo a b → s.hi ≡ remainder_hi a b → r ≡ ranges_miss (range_in s) (range_in c) →
    r ≡ (is_zero_range (range_in b) || ranges_miss (remainder_range (range_in a) (range_in b)) (range_in c))
some_miss a b c s r n e f h =
    h ∙ (ap (λ t. ranges_miss t (range_in c)) (remainder_is a b s e f) ∙ sym (ap (λ t. t || ranges_miss (remainder_range (range_in a) (range_in b)) (range_in c)) (not_alone b n)))
