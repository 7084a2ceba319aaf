-- Both ends of the least span of the quotients are quotients of ends.
use Rattle.std.proofs.Common.{◌≡◌, ◌∙◌, inl, inr, List, [], ◌∷◌, ◌++◌, ℤ, pos, negsuc, ◌≤ℤ◌, ◌<ℤ◌, neg_ℤ, int_div, int_lt, Bool, true, false, cond, sym, ap, subst, arith}
use Rattle.std.specs.Int.{int_min, int_max}
use Rattle.std.proofs.lemmas.Int.{ints, clamps, by_lt_z}
use Rattle.fd_interval.specs.declared.span.Span.{Span}
use Rattle.fd_interval.specs.Quotients.{quotient_by_sign, least_positive, end_quotients}
use Rattle.fd_interval.proofs.Divisors.{flip, by_one, by_minus_one}
use Rattle.fd_interval.proofs.Quotients.{IsPositive, IsOpposite}
use Rattle.fd_interval.proofs.Listed.{IsAmong, quotients_by}

-- the greatest member below 0 of a span that reaches below 0
abbrev greatest_negative : Span → ℤ
greatest_negative b = int_min b.hi (negsuc 0)

-- the list by which sides of 0 have divisors
abbrev sides : Span → Span → Bool → Bool → List ℤ
sides a b t u = quotients_by a (cond t (b.lo ∷ greatest_negative b ∷ []) [] ++ cond u (least_positive b ∷ b.hi ∷ []) [])

on_sides : (a b : Span) (t u : Bool) (n : ℤ) → t ≡ int_lt b.lo (pos 0) → u ≡ int_lt (pos 0) b.hi → IsAmong n (sides a b t u) → IsAmong n (end_quotients a b)
on_sides a b t u n p q = subst (IsAmong n) (λ i. sides a b (p i) (q i))

-- divisors on both sides
minus_one_is : (b : Span) → pos 0 <ℤ b.hi → negsuc 0 ≡ greatest_negative b
minus_one_is b h = omega (arith, ints, clamps)

one_is : (b : Span) → b.lo <ℤ pos 0 → pos 1 ≡ least_positive b
one_is b h = omega (arith, ints, clamps)

pub both_lo : (a b : Span) (n : ℤ) → b.lo <ℤ pos 0 → pos 0 <ℤ b.hi → n ≡ neg_ℤ (int_max a.hi (neg_ℤ a.lo)) → IsAmong n (end_quotients a b)
both_lo a b n p q e = on_sides a b true true n (omega (arith, ints)) (omega (arith, ints)) (by_lt_z a.hi (neg_ℤ a.lo)
    (λ h. let g : n ≡ a.lo = omega (arith, ints, clamps) in inr (inr (inr (inr (inl (g ∙ sym (by_one a.lo) ∙ ap (int_div a.lo) (one_is b p)))))))
    (λ h. let g : n ≡ neg_ℤ a.hi = omega (arith, ints, clamps) in inr (inr (inr (inl (g ∙ sym (by_minus_one a.hi) ∙ ap (int_div a.hi) (minus_one_is b q)))))))

pub both_hi : (a b : Span) (n : ℤ) → b.lo <ℤ pos 0 → pos 0 <ℤ b.hi → n ≡ int_max a.hi (neg_ℤ a.lo) → IsAmong n (end_quotients a b)
both_hi a b n p q e = on_sides a b true true n (omega (arith, ints)) (omega (arith, ints)) (by_lt_z a.hi (neg_ℤ a.lo)
    (λ h. let g : n ≡ neg_ℤ a.lo = omega (arith, ints, clamps) in inr (inr (inl (g ∙ sym (by_minus_one a.lo) ∙ ap (int_div a.lo) (minus_one_is b q)))))
    (λ h. let g : n ≡ a.hi = omega (arith, ints, clamps) in inr (inr (inr (inr (inr (inl (g ∙ sym (by_one a.hi) ∙ ap (int_div a.hi) (one_is b p)))))))))

-- divisors above 0 alone
pub positive_lo : (a b : Span) (n : ℤ) → IsPositive b → n ≡ quotient_by_sign a.lo (least_positive b) b.hi → IsAmong n (end_quotients a b)
positive_lo a b n h e = on_sides a b false true n (omega (arith, ints, h.no_negative)) (omega (arith, ints, h.some)) (by (int_lt a.lo (pos 0)) e)
  where
    by : (t : Bool) → n ≡ int_div a.lo (cond t (least_positive b) b.hi) → IsAmong n (sides a b false true)
    by true e = inl e
    by false e = inr (inr (inl e))

pub positive_hi : (a b : Span) (n : ℤ) → IsPositive b → n ≡ quotient_by_sign a.hi b.hi (least_positive b) → IsAmong n (end_quotients a b)
positive_hi a b n h e = on_sides a b false true n (omega (arith, ints, h.no_negative)) (omega (arith, ints, h.some)) (by (int_lt a.hi (pos 0)) e)
  where
    by : (t : Bool) → n ≡ int_div a.hi (cond t b.hi (least_positive b)) → IsAmong n (sides a b false true)
    by true e = inr (inr (inr (inl e)))
    by false e = inr (inl e)

-- divisors below 0 alone, by the opposite spans
opposite_least : (b p : Span) → IsOpposite b p → least_positive p ≡ neg_ℤ (greatest_negative b)
opposite_least b p h = omega (arith, ints, clamps, h.lo)

below_zero : (b : Span) → greatest_negative b <ℤ pos 0
below_zero b = omega (arith, ints, clamps)

unflip : (x y x' y' : ℤ) → y <ℤ pos 0 → x' ≡ neg_ℤ x → y' ≡ neg_ℤ y → int_div x' y' ≡ int_div x y
unflip x y x' y' h e f = (λ i. int_div (e i) (f i)) ∙ sym (flip x y h)

pub negative_lo : (a b o p : Span) (n : ℤ) → IsOpposite a o → IsOpposite b p → b.lo <ℤ pos 0 → b.hi ≤ℤ pos 0 → n ≡ quotient_by_sign o.lo (least_positive p) p.hi → IsAmong n (end_quotients a b)
negative_lo a b o p n g h q r e = on_sides a b true false n (omega (arith, ints)) (omega (arith, ints)) (by (int_lt o.lo (pos 0)) e)
  where
    by : (t : Bool) → n ≡ int_div o.lo (cond t (least_positive p) p.hi) → IsAmong n (sides a b true false)
    by true e = inr (inr (inr (inl (e ∙ unflip a.hi (greatest_negative b) o.lo (least_positive p) (below_zero b) g.lo (opposite_least b p h)))))
    by false e = inr (inl (e ∙ unflip a.hi b.lo o.lo p.hi q g.lo h.hi))

pub negative_hi : (a b o p : Span) (n : ℤ) → IsOpposite a o → IsOpposite b p → b.lo <ℤ pos 0 → b.hi ≤ℤ pos 0 → n ≡ quotient_by_sign o.hi p.hi (least_positive p) → IsAmong n (end_quotients a b)
negative_hi a b o p n g h q r e = on_sides a b true false n (omega (arith, ints)) (omega (arith, ints)) (by (int_lt o.hi (pos 0)) e)
  where
    by : (t : Bool) → n ≡ int_div o.hi (cond t p.hi (least_positive p)) → IsAmong n (sides a b true false)
    by true e = inl (e ∙ unflip a.lo b.lo o.hi p.hi q g.hi h.hi)
    by false e = inr (inr (inl (e ∙ unflip a.lo (greatest_negative b) o.hi (least_positive p) (below_zero b) g.hi (opposite_least b p h))))
