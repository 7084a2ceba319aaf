use Rattle.std.proofs.Common.{◌≡◌, ◌<◌, ◌≤◌, ◌^◌, ◌∙◌, ◌&&◌, List, [], ◌∷◌, Bool, sym, ap, subst, arith, true, false, w64, length, get_or, ℤ, ℕ, zero, suc, ◌+ℤ◌, pos, Some, to_z, of_z}
use Rattle.std.specs.Prelude.{slice_get, unsigned_abs}
use Rattle.std.specs.List.{list_all}
use Rattle.std.proofs.lemmas.Int.{ints}
use Rattle.std.proofs.lemmas.Bool.Decides.{nat_tests}
use Rattle.std.proofs.lemmas.Option.{slice_get-get_or}
use Rattle.qc_model.specs.declared.problem.Domain.TheVariants.{Range, Listed}
use Rattle.qc_model.specs.Valid.{is_domain, is_number}
use Rattle.qc_model.specs.Domains.{domain_values}
use Rattle.qc_model.proofs.DomainValues.{Ends, range_value, ends_of, domain_fits}
use Rattle.qc_model.proofs.problem.Domain.value_at.Goals as goal

moved : (low high : ℤ) (k : ℕ) → Ends low high → k < 2 ^ 32 → to_z w64 (of_z w64 (to_z w64 (of_z w64 low) +ℤ to_z w64 k)) ≡ low +ℤ pos k
moved low high k r h = omega (arith, ints, r.low_fits)

each_fits : (ns : List ℤ) (k : ℕ) → list_all is_number ns ≡ true → k < length ns → unsigned_abs (get_or ns k (pos 0)) ≤ 1000000000
each_fits [] k e h = absurd (omega arith)
each_fits (n ∷ ns) zero e h = small n (list_all is_number ns) e
  where
    small : (z : ℤ) (b : Bool) → (is_number z && b) ≡ true → unsigned_abs z ≤ 1000000000
    small z true e = grind (arith, nat_tests)
    small z false e = grind (arith, nat_tests)
each_fits (n ∷ ns) (suc k) e h = each_fits ns k (later (is_number n) (list_all is_number ns) e) (omega arith)
  where
    later : (a b : Bool) → (a && b) ≡ true → b ≡ true
    later true b e = e
    later false b e = cc

same : (z : ℤ) → unsigned_abs z ≤ 1000000000 → z ≡ to_z w64 (of_z w64 z)
same z h = omega (arith, ints)

listed_value : (ns : List ℤ) (k : ℕ) → list_all is_number ns ≡ true → k < length ns → slice_get ns k ≡ Some (to_z w64 (of_z w64 (get_or ns k (pos 0))))
listed_value ns k e h = slice_get-get_or ns k (pos 0) h ∙ ap Some (same (get_or ns k (pos 0)) (each_fits ns k e h))

pub returns-in-Range : goal.returns-in-Range
returns-in-Range c =
    let low = c.in-Range.low in
    let high = c.in-Range.field-1 in
    let k = c.args.k in
    let valid : is_domain (Range low high) ≡ true = subst (λ d. is_domain d ≡ true) c.in-Range.is c.requires.valid in
    let place : k < length (domain_values (Range low high)) = subst (λ d. k < length (domain_values d)) c.in-Range.is c.requires.place in
    ap (λ d. slice_get (domain_values d) k) c.in-Range.is
    ∙ (range_value low high k valid place ∙ ap Some (sym (moved low high k (ends_of low high valid) (omega (arith, c.ranges.k)))))

pub returns-in-Listed : goal.returns-in-Listed
returns-in-Listed c =
    let ns = c.in-Listed.numbers in
    let k = c.args.k in
    let valid : is_domain (Listed ns) ≡ true = subst (λ d. is_domain d ≡ true) c.in-Listed.is c.requires.valid in
    let place : k < length ns = subst (λ d. k < length (domain_values d)) c.in-Listed.is c.requires.place in
    ap (λ d. slice_get (domain_values d) k) c.in-Listed.is
    ∙ (listed_value ns k (domain_fits (Listed ns) valid) place
    ∙ ap (λ vs. Some (to_z w64 (of_z w64 (get_or vs k (pos 0))))) (sym c.items.ensures))
