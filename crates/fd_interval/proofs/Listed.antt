-- The least and the greatest of the quotients of ends are the ends of the least span.
use Rattle.std.proofs.Common.{◌≡◌, ◌≢◌, ◌⊎◌, inl, inr, List, [], ◌∷◌, ◌++◌, flat_map, ℤ, pos, negsuc, ◌≤ℤ◌, int_div, int_lt, Bool, true, false, cond, refl, sym, subst, arith}
use Rattle.std.specs.Int.{int_min}
use Rattle.std.proofs.lemmas.Int.{ints, clamps}
use Rattle.std.proofs.lemmas.Bool.{cases_cond}
use Rattle.fd_interval.specs.declared.span.Span.{Span}
use Rattle.fd_interval.specs.Spans.{IsIn, IsLeastSpan}
use Rattle.fd_interval.specs.Quotients.{IsQuotient, least_positive, negative_ends, positive_ends, end_quotients, least_from, least_listed, greatest_from, greatest_listed}
use Rattle.fd_interval.proofs.Ends.{lo_in, hi_in}
use Rattle.fd_interval.proofs.Quotients.{quotient_at}

-- n is on the list
abbrev pub IsAmong : ℤ → List ℤ → Type 0
IsAmong n [] = ⊥
IsAmong n (m ∷ ms) = (n ≡ m) ⊎ IsAmong n ms

-- the least of a list is on it, and no number of the list is below it
least_among : (n : ℤ) (ns : List ℤ) → IsAmong (least_from n ns) (n ∷ ns)
least_among n [] = inl refl
least_among n (m ∷ ms) = elim (cases_cond (int_lt (least_from m ms) n) (least_from m ms) n (least_from n (m ∷ ms)) refl) [
  | inl e ↦ inr (subst (λ x. IsAmong x (m ∷ ms)) (sym e) (least_among m ms))
  | inr e ↦ inl e
]

least_below : (x n : ℤ) (ns : List ℤ) → IsAmong x (n ∷ ns) → least_from n ns ≤ℤ x
least_below x n [] (inl e) = omega (arith, ints)
least_below x n [] (inr h) = absurd h
least_below x n (m ∷ ms) (inl e) = omega (arith, ints, clamps)
least_below x n (m ∷ ms) (inr h) = let k = least_below x m ms h in omega (arith, ints, clamps)

greatest_among : (n : ℤ) (ns : List ℤ) → IsAmong (greatest_from n ns) (n ∷ ns)
greatest_among n [] = inl refl
greatest_among n (m ∷ ms) = elim (cases_cond (int_lt (greatest_from m ms) n) n (greatest_from m ms) (greatest_from n (m ∷ ms)) refl) [
  | inl e ↦ inl e
  | inr e ↦ inr (subst (λ x. IsAmong x (m ∷ ms)) (sym e) (greatest_among m ms))
]

greatest_above : (x n : ℤ) (ns : List ℤ) → IsAmong x (n ∷ ns) → x ≤ℤ greatest_from n ns
greatest_above x n [] (inl e) = omega (arith, ints)
greatest_above x n [] (inr h) = absurd h
greatest_above x n (m ∷ ms) (inl e) = omega (arith, ints, clamps)
greatest_above x n (m ∷ ms) (inr h) = let k = greatest_above x m ms h in omega (arith, ints, clamps)

is_least : (m : ℤ) (ns : List ℤ) → IsAmong m ns → ((x : ℤ) → IsAmong x ns → m ≤ℤ x) → m ≡ least_listed ns
is_least m [] h each = absurd h
is_least m (n ∷ ns) h each = let p = each (least_from n ns) (least_among n ns) in let q = least_below m n ns h in omega (arith, ints, p, q)

is_greatest : (m : ℤ) (ns : List ℤ) → IsAmong m ns → ((x : ℤ) → IsAmong x ns → x ≤ℤ m) → m ≡ greatest_listed ns
is_greatest m [] h each = absurd h
is_greatest m (n ∷ ns) h each = let p = each (greatest_from n ns) (greatest_among n ns) in let q = greatest_above m n ns h in omega (arith, ints, p, q)

-- each number of the list is a member of the span other than 0
abbrev pub AreDivisors : Span → List ℤ → Type 0
AreDivisors b [] = Unit {0}
AreDivisors b (d ∷ ds) = IsIn b d × (d ≢ pos 0) × AreDivisors b ds

both_lists : (b : Span) (ds es : List ℤ) → AreDivisors b ds → AreDivisors b es → AreDivisors b (ds ++ es)
both_lists b [] es h k = k
both_lists b (d ∷ ds) es h k = (h.0, h.1, both_lists b ds es h.2 k)

-- the quotients of the ends of a by the divisors of a list
abbrev pub quotients_by : Span → List ℤ → List ℤ
quotients_by a ds = flat_map (λ d. int_div a.lo d ∷ int_div a.hi d ∷ []) ds

listed_quotient : (a b : Span) (ds : List ℤ) (n : ℤ) → AreDivisors b ds → IsAmong n (quotients_by a ds) → IsQuotient a b n
listed_quotient a b [] n h k = absurd k
listed_quotient a b (d ∷ ds) n h (inl e) = quotient_at a b a.lo d n (lo_in a) h.0 h.1 e
listed_quotient a b (d ∷ ds) n h (inr (inl e)) = quotient_at a b a.hi d n (hi_in a) h.0 h.1 e
listed_quotient a b (d ∷ ds) n h (inr (inr k)) = listed_quotient a b ds n h.2 k

negative_divisors : (b : Span) → AreDivisors b (negative_ends b)
negative_divisors b = by (int_lt b.lo (pos 0)) refl
  where
    by : (t : Bool) → int_lt b.lo (pos 0) ≡ t → AreDivisors b (cond t (b.lo ∷ int_min b.hi (negsuc 0) ∷ []) [])
    by true e = (lo_in b, (λ z. absurd (omega (arith, ints))), (record { from = omega (arith, ints, clamps, b.ordered); to = omega (arith, ints, clamps) }, (λ z. absurd (omega (arith, ints, clamps))), tt))
    by false e = tt

positive_divisors : (b : Span) → AreDivisors b (positive_ends b)
positive_divisors b = by (int_lt (pos 0) b.hi) refl
  where
    by : (t : Bool) → int_lt (pos 0) b.hi ≡ t → AreDivisors b (cond t (least_positive b ∷ b.hi ∷ []) [])
    by true e = (record { from = omega (arith, ints, clamps); to = omega (arith, ints, clamps, b.ordered) }, (λ z. absurd (omega (arith, ints, clamps))), (hi_in b, (λ z. absurd (omega (arith, ints))), tt))
    by false e = tt

end_quotient : (a b : Span) (n : ℤ) → IsAmong n (end_quotients a b) → IsQuotient a b n
end_quotient a b n k = listed_quotient a b (negative_ends b ++ positive_ends b) n (both_lists b (negative_ends b) (positive_ends b) (negative_divisors b) (positive_divisors b)) k

-- an end of the least span that is on the list is the list's least, or its greatest
pub lo_is_least : (a b s : Span) → IsLeastSpan (IsQuotient a b) s → IsAmong s.lo (end_quotients a b) → s.lo ≡ least_listed (end_quotients a b)
lo_is_least a b s l h = is_least s.lo (end_quotients a b) h (λ x k. let i = l.holds x (end_quotient a b x k) in i.from)

pub hi_is_greatest : (a b s : Span) → IsLeastSpan (IsQuotient a b) s → IsAmong s.hi (end_quotients a b) → s.hi ≡ greatest_listed (end_quotients a b)
hi_is_greatest a b s l h = is_greatest s.hi (end_quotients a b) h (λ x k. let i = l.holds x (end_quotient a b x k) in i.to)
