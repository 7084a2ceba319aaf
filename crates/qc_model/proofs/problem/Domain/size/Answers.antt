use mir.Val.{SFits, Fits}
use lib.Dec.{T}
use lib.Signed.{non_neg}
use Rattle.std.proofs.Common.{w32, ◌≡◌, ◌+◌, ◌∙◌, sym, ap, subst, arith, true, w64, length, ℤ, ◌-ℤ◌, to_z, of_z}
use Rattle.std.specs.Prelude.{nat_abs}
use Rattle.std.proofs.lemmas.Int.{ints}
use Rattle.qc_model.specs.declared.problem.Domain.TheVariants.{Range}
use Rattle.qc_model.specs.Valid.{is_domain}
use Rattle.qc_model.specs.Domains.{domain_values}
use Rattle.qc_model.proofs.DomainValues.{Ends, range_size, ends_of}
use Rattle.qc_model.proofs.problem.Domain.size.Goals as goal

width : (low high : ℤ) → Ends low high → to_z w64 (of_z w64 (to_z w64 (of_z w64 high) -ℤ to_z w64 (of_z w64 low))) ≡ high -ℤ low
width low high r = omega (arith, ints, r.low_fits, r.high_fits)

-- the difference of a domain's ends fits
difference_fits : (low high : ℤ) → Ends low high → SFits w64 (to_z w64 (of_z w64 high) -ℤ to_z w64 (of_z w64 low))
difference_fits low high r = omega (arith, ints, r.low_fits, r.high_fits)

-- it isn't negative
not_negative : (low high : ℤ) → Ends low high → T (non_neg (high -ℤ low))
not_negative low high r = omega (arith, ints, r.rises)

-- with one more it fits 32 bits
width_fits : (low high : ℤ) → Ends low high → Fits w32 (nat_abs (high -ℤ low) + 1)
width_fits low high r = omega (arith, ints, r.low_fits, r.high_fits)

pub returns-in-Range : goal.returns-in-Range
returns-in-Range c =
    let low = c.in-Range.low in
    let high = c.in-Range.high in
    let valid : is_domain (Range low high) ≡ true = subst (λ d. is_domain d ≡ true) c.in-Range.is c.requires in
    ap (λ z. nat_abs z + 1) (width low high (ends_of low high valid))
    ∙ (range_size low high valid ∙ ap (λ d. length (domain_values d)) (sym c.in-Range.is))

pub overflow_sub-result : goal.overflow_sub-result
overflow_sub-result c = difference_fits c.in-Range.low c.in-Range.high (ends_of c.in-Range.low c.in-Range.high (subst (λ d. is_domain d ≡ true) c.in-Range.is c.requires))

pub overflow_cast-result : goal.overflow_cast-result
overflow_cast-result c =
    let ends : Ends c.in-Range.low c.in-Range.high = ends_of c.in-Range.low c.in-Range.high (subst (λ d. is_domain d ≡ true) c.in-Range.is c.requires) in
    rw (width c.in-Range.low c.in-Range.high ends) (not_negative c.in-Range.low c.in-Range.high ends, omega (arith, width_fits c.in-Range.low c.in-Range.high ends))

pub overflow_add-result : goal.overflow_add-result
overflow_add-result c =
    let ends : Ends c.in-Range.low c.in-Range.high = ends_of c.in-Range.low c.in-Range.high (subst (λ d. is_domain d ≡ true) c.in-Range.is c.requires) in
    rw (width c.in-Range.low c.in-Range.high ends) (width_fits c.in-Range.low c.in-Range.high ends)
