-- The ends of what is left, and the limit of spans.
use Rattle.std.proofs.Common.{◌≡◌, ◌≤◌, ◌*◌, Bool, true, false, not, ◌&&◌, refl, subst, sym, arith, ℤ}
use Rattle.std.specs.Prelude.{◌*ℤ◌, ◌≤ℤ◌, unsigned_abs}
use Rattle.std.specs.List.{list_all}
use Rattle.std.proofs.lemmas.Int.{unsigned_abs-mul}
use Rattle.std.proofs.lemmas.Bool.{leb-true, and_from}
use Rattle.std.proofs.Math.Nat.{mul-le-mul}
use Rattle.fd_interval.specs.declared.span.Span.{Span}
use Rattle.fd_interval.specs.Limit.{IsWithinLimit}
use Rattle.qc_model.specs.Domains.{Values, is_none_left, is_ascending, least_value, greatest_value}
use Rattle.qc_model.specs.Valid.{is_number}
use Rattle.qc_model.proofs.Readable.{first, second}
use Rattle.qc_model.proofs.Sound.{hi_of}
use Rattle.model_arguments.proofs.Values.{has_least}
use Rattle.model_arguments.proofs.Kept.{among_of}
use Rattle.qc_refuter.specs.Met.{is_domain_left}
use Rattle.qc_refuter.specs.Spanned.{is_small}
use Rattle.qc_refuter.proofs.Terms.{least_small, greatest_small}

-- some value is left, so that the least isn't above the greatest
pub ends_ordered : (d : Values) → is_domain_left d ≡ true → least_value d ≤ℤ greatest_value d
ends_ordered d h =
    let p = first (not (is_none_left d) && is_ascending d) (list_all is_number d) h in
    hi_of (least_value d) d (among_of (least_value d) d (has_least d (some (is_none_left d) (first (not (is_none_left d)) (is_ascending d) p))))
  where
    some : (b : Bool) → not b ≡ true → b ≡ false
    some true e = cc
    some false e = refl

pub ends_small : (s : Span) (d : Values) → is_domain_left d ≡ true → s.lo ≡ least_value d → s.hi ≡ greatest_value d → is_small s ≡ true
ends_small s d h e f =
    and_from (is_number s.lo) (is_number s.hi)
    (subst (λ z. is_number z ≡ true) (sym e) (least_small d h))
    (subst (λ z. is_number z ≡ true) (sym f) (greatest_small d h))

number_abs : (a : ℤ) → is_number a ≡ true → unsigned_abs a ≤ 1000000000
number_abs a h = leb-true (unsigned_abs a) 1000000000 h

pub product_within : (a b : ℤ) → is_number a ≡ true → is_number b ≡ true → IsWithinLimit (a *ℤ b)
product_within a b h k =
    let m : unsigned_abs a * unsigned_abs b ≤ 1000000000 * 1000000000 = mul-le-mul (number_abs a h) (number_abs b k) in
    omega (arith, unsigned_abs-mul a b, m)

pub lo_small : (s : Span) → is_small s ≡ true → is_number s.lo ≡ true
lo_small s h = first (is_number s.lo) (is_number s.hi) h

pub hi_small : (s : Span) → is_small s ≡ true → is_number s.hi ≡ true
hi_small s h = second (is_number s.lo) (is_number s.hi) h
