-- The quotients of the members of two spans, truncated towards 0.
use Rattle.std.specs.Prelude.{◌≡◌, ◌≢◌, ℤ, pos, negsuc, int_div, int_lt, cond, List, [], ◌∷◌, ◌++◌, flat_map}
use Rattle.std.specs.Int.{int_min, int_max}
use Rattle.fd_interval.specs.declared.span.Span.{Span}
use Rattle.fd_interval.specs.Spans.{IsIn}

-- n is the quotient of a member of a by a member of b other than 0
pub record IsQuotient (a b : Span) (n : ℤ) : Type 0 where
  pub dividend : ℤ
  pub divisor : ℤ
  pub dividend_in : IsIn a dividend
  pub divisor_in : IsIn b divisor
  pub nonzero : divisor ≢ pos 0
  pub is : n ≡ int_div dividend divisor

-- the quotient by one of two divisors, which the dividend's sign picks
abbrev pub quotient_by_sign : ℤ → ℤ → ℤ → ℤ
quotient_by_sign x if_negative otherwise = int_div x (cond (int_lt x (pos 0)) if_negative otherwise)

-- the least member above 0 of a span that reaches above 0
abbrev pub least_positive : Span → ℤ
least_positive s = int_max s.lo (pos 1)

-- the ends of the part of a span below 0, and of the part above 0
abbrev pub negative_ends : Span → List ℤ
negative_ends s = cond (int_lt s.lo (pos 0)) (s.lo ∷ int_min s.hi (negsuc 0) ∷ []) []

abbrev pub positive_ends : Span → List ℤ
positive_ends s = cond (int_lt (pos 0) s.hi) (least_positive s ∷ s.hi ∷ []) []

-- the quotients of the ends of a by the ends of both parts of b
abbrev pub end_quotients : Span → Span → List ℤ
end_quotients a b = flat_map (λ d. int_div a.lo d ∷ int_div a.hi d ∷ []) (negative_ends b ++ positive_ends b)

-- the least and the greatest number of a list, and 0 for the empty one
abbrev pub least_from : ℤ → List ℤ → ℤ
least_from n [] = n
least_from n (m ∷ ms) = int_min n (least_from m ms)

abbrev pub least_listed : List ℤ → ℤ
least_listed [] = pos 0
least_listed (n ∷ ns) = least_from n ns

abbrev pub greatest_from : ℤ → List ℤ → ℤ
greatest_from n [] = n
greatest_from n (m ∷ ms) = int_max n (greatest_from m ms)

abbrev pub greatest_listed : List ℤ → ℤ
greatest_listed [] = pos 0
greatest_listed (n ∷ ns) = greatest_from n ns
