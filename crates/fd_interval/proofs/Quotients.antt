-- The least span of the quotients, for divisors above 0, below 0 and on both sides.
use lib.IntN.{neg_ℤ-neg_ℤ}
use Rattle.std.proofs.Common.{◌≡◌, ◌≢◌, ◌∙◌, zero, suc, ℤ, pos, negsuc, ◌≤ℤ◌, ◌<ℤ◌, neg_ℤ, int_div, int_lt, Bool, true, false, cond, refl, sym, subst, arith}
use Rattle.std.specs.Int.{int_max}
use Rattle.std.proofs.lemmas.Int.{ints, clamps, by_lt_z}
use Rattle.fd_interval.specs.declared.span.Span.{Span}
use Rattle.fd_interval.specs.Spans.{IsIn, IsLeastSpan}
use Rattle.fd_interval.specs.Quotients.{IsQuotient, quotient_by_sign, least_positive}
use Rattle.fd_interval.proofs.Ends.{lo_in, hi_in, from_ends}
use Rattle.fd_interval.proofs.Divisors.{at_least, at_most, flip, no_farther, by_one, by_minus_one}

pub quotient_at : (a b : Span) (x y n : ℤ) → IsIn a x → IsIn b y → y ≢ pos 0 → n ≡ int_div x y → IsQuotient a b n
quotient_at a b x y n p q z e = record { dividend = x; divisor = y; dividend_in = p; divisor_in = q; nonzero = z; is = e }

-- every divisor is above 0
pub record IsPositive (b : Span) : Type 0 where
  pub no_negative : pos 0 ≤ℤ b.lo
  pub some : pos 0 <ℤ b.hi

least_positive_in : (b : Span) → IsPositive b → IsIn b (least_positive b)
least_positive_in b h = record { from = omega (arith, ints, clamps); to = omega (arith, ints, clamps, b.ordered) }

least_positive_above : (b : Span) → pos 0 <ℤ least_positive b
least_positive_above b = omega (arith, ints, clamps)

least_positive_below : (b : Span) (y : ℤ) → IsPositive b → IsIn b y → y ≢ pos 0 → least_positive b ≤ℤ y
least_positive_below b y h p z = omega (arith, ints, clamps)

above_zero : (y : ℤ) → pos 0 <ℤ y → y ≢ pos 0
above_zero y h e = absurd (omega (arith, ints))

pub quotients_ordered : (a b : Span) → IsPositive b → quotient_by_sign a.lo (least_positive b) b.hi ≤ℤ quotient_by_sign a.hi b.hi (least_positive b)
quotients_ordered a b h =
    let above = least_positive_above b in
    let in_b = least_positive_in b h in
    let same : least_positive b ≤ℤ least_positive b = omega (arith, ints) in
    let p = at_least a.lo (least_positive b) b.hi a.lo (least_positive b) (lo_in a).from above same in_b.to in
    let q = at_most a.hi (least_positive b) b.hi a.lo (least_positive b) a.ordered above same in_b.to in
    omega (arith, ints, p, q)

picked_lo : (a b : Span) (n : ℤ) → IsPositive b → n ≡ quotient_by_sign a.lo (least_positive b) b.hi → IsQuotient a b n
picked_lo a b n h = by (int_lt a.lo (pos 0))
  where
    by : (t : Bool) → n ≡ int_div a.lo (cond t (least_positive b) b.hi) → IsQuotient a b n
    by true e = quotient_at a b a.lo (least_positive b) n (lo_in a) (least_positive_in b h) (above_zero (least_positive b) (least_positive_above b)) e
    by false e = quotient_at a b a.lo b.hi n (lo_in a) (hi_in b) (above_zero b.hi h.some) e

picked_hi : (a b : Span) (n : ℤ) → IsPositive b → n ≡ quotient_by_sign a.hi b.hi (least_positive b) → IsQuotient a b n
picked_hi a b n h = by (int_lt a.hi (pos 0))
  where
    by : (t : Bool) → n ≡ int_div a.hi (cond t b.hi (least_positive b)) → IsQuotient a b n
    by true e = quotient_at a b a.hi b.hi n (hi_in a) (hi_in b) (above_zero b.hi h.some) e
    by false e = quotient_at a b a.hi (least_positive b) n (hi_in a) (least_positive_in b h) (above_zero (least_positive b) (least_positive_above b)) e

pub positive_is_least : (a b s : Span) → IsPositive b → s.lo ≡ quotient_by_sign a.lo (least_positive b) b.hi → s.hi ≡ quotient_by_sign a.hi b.hi (least_positive b) → IsLeastSpan (IsQuotient a b) s
positive_is_least a b s h e f = from_ends (IsQuotient a b) s (λ n q. subst (IsIn s) (sym q.is) (inside q.dividend q.divisor q.dividend_in q.divisor_in q.nonzero)) (picked_lo a b s.lo h e) (picked_hi a b s.hi h f)
  where
    inside : (x y : ℤ) → IsIn a x → IsIn b y → y ≢ pos 0 → IsIn s (int_div x y)
    inside x y p q z =
        let above = least_positive_above b in
        let from = least_positive_below b y h q z in
        record {
          from = subst (λ l. l ≤ℤ int_div x y) (sym e) (at_least a.lo (least_positive b) b.hi x y p.from above from q.to);
          to = subst (λ l. int_div x y ≤ℤ l) (sym f) (at_most a.hi (least_positive b) b.hi x y p.to above from q.to);
        }

-- the span of the opposite numbers
pub record IsOpposite (a o : Span) : Type 0 where
  pub lo : o.lo ≡ neg_ℤ a.hi
  pub hi : o.hi ≡ neg_ℤ a.lo

opposite_in : (a o : Span) (x : ℤ) → IsOpposite a o → IsIn a x → IsIn o (neg_ℤ x)
opposite_in a o x h p = record { from = omega (arith, ints, h.lo, h.hi); to = omega (arith, ints, h.lo, h.hi) }

opposite_back : (a o : Span) (x : ℤ) → IsOpposite a o → IsIn o x → IsIn a (neg_ℤ x)
opposite_back a o x h p = record { from = omega (arith, ints, h.lo, h.hi); to = omega (arith, ints, h.lo, h.hi) }

opposite_nonzero : (x : ℤ) → x ≢ pos 0 → neg_ℤ x ≢ pos 0
opposite_nonzero (pos zero) z e = z refl
opposite_nonzero (pos (suc n)) z e = absurd (omega (arith, ints))
opposite_nonzero (negsuc n) z e = absurd (omega (arith, ints))

flip_any : (x y : ℤ) → y ≢ pos 0 → int_div x y ≡ int_div (neg_ℤ x) (neg_ℤ y)
flip_any x y z = by_lt_z y (pos 0) (λ h. flip x y h)
    (λ h. let back : int_div (neg_ℤ x) (neg_ℤ y) ≡ int_div (neg_ℤ (neg_ℤ x)) (neg_ℤ (neg_ℤ y)) = flip (neg_ℤ x) (neg_ℤ y) (below y h z) in sym (back ∙ (λ i. int_div (neg_ℤ-neg_ℤ x i) (neg_ℤ-neg_ℤ y i))))
  where
    below : (y : ℤ) → pos 0 ≤ℤ y → y ≢ pos 0 → neg_ℤ y <ℤ pos 0
    below y h z = omega (arith, ints)

same_quotient : (a b o p : Span) (n : ℤ) → IsOpposite a o → IsOpposite b p → IsQuotient a b n → IsQuotient o p n
same_quotient a b o p n g h q = quotient_at o p (neg_ℤ q.dividend) (neg_ℤ q.divisor) n (opposite_in a o q.dividend g q.dividend_in) (opposite_in b p q.divisor h q.divisor_in) (opposite_nonzero q.divisor q.nonzero) (q.is ∙ flip_any q.dividend q.divisor q.nonzero)

same_back : (a b o p : Span) (n : ℤ) → IsOpposite a o → IsOpposite b p → IsQuotient o p n → IsQuotient a b n
same_back a b o p n g h q = quotient_at a b (neg_ℤ q.dividend) (neg_ℤ q.divisor) n (opposite_back a o q.dividend g q.dividend_in) (opposite_back b p q.divisor h q.divisor_in) (opposite_nonzero q.divisor q.nonzero) (q.is ∙ flip_any q.dividend q.divisor q.nonzero)

-- the opposites of both spans have the same quotients
pub negative_is_least : (a b o p s : Span) → IsOpposite a o → IsOpposite b p → IsLeastSpan (IsQuotient o p) s → IsLeastSpan (IsQuotient a b) s
negative_is_least a b o p s g h l = record {
  holds = λ n q. l.holds n (same_quotient a b o p n g h q);
  least = λ lo hi each. l.least lo hi (λ n q. each n (same_back a b o p n g h q));
}

-- with divisors on both sides of 0, the end of a that is farther from 0 is a quotient with either sign
pub both_is_least : (a b s : Span) (far : ℤ) → b.lo <ℤ pos 0 → pos 0 <ℤ b.hi → far ≡ int_max a.hi (neg_ℤ a.lo) → s.lo ≡ neg_ℤ far → s.hi ≡ far → IsLeastSpan (IsQuotient a b) s
both_is_least a b s far p q d e f = from_ends (IsQuotient a b) s
    (λ n k. subst (IsIn s) (sym k.is) (inside k.dividend k.divisor k.dividend_in))
    (by_lt_z a.hi (neg_ℤ a.lo)
    (λ h. quotient_at a b a.lo (pos 1) s.lo (lo_in a) one_in (λ z. absurd (omega (arith, ints))) (let g : s.lo ≡ a.lo = omega (arith, ints, clamps) in g ∙ sym (by_one a.lo)))
    (λ h. quotient_at a b a.hi (negsuc 0) s.lo (hi_in a) minus_one_in (λ z. absurd (omega (arith, ints))) (let g : s.lo ≡ neg_ℤ a.hi = omega (arith, ints, clamps) in g ∙ sym (by_minus_one a.hi))))
    (by_lt_z a.hi (neg_ℤ a.lo)
    (λ h. quotient_at a b a.lo (negsuc 0) s.hi (lo_in a) minus_one_in (λ z. absurd (omega (arith, ints))) (let g : s.hi ≡ neg_ℤ a.lo = omega (arith, ints, clamps) in g ∙ sym (by_minus_one a.lo)))
    (λ h. quotient_at a b a.hi (pos 1) s.hi (hi_in a) one_in (λ z. absurd (omega (arith, ints))) (let g : s.hi ≡ a.hi = omega (arith, ints, clamps) in g ∙ sym (by_one a.hi))))
  where
    one_in : IsIn b (pos 1)
    one_in = record { from = omega (arith, ints); to = omega (arith, ints) }

    minus_one_in : IsIn b (negsuc 0)
    minus_one_in = record { from = omega (arith, ints); to = omega (arith, ints) }

    inside : (x y : ℤ) → IsIn a x → IsIn s (int_div x y)
    inside x y h = let near = no_farther x y in record { from = omega (arith, ints, clamps, a.ordered); to = omega (arith, ints, clamps, a.ordered) }
