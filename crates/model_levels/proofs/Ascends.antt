-- The values of a domain ascend.
use Rattle.std.proofs.Common.{◌≡◌, ℕ, zero, suc, Bool, true, false, ◌&&◌, cond, [], refl, ap, ◌∙◌, arith}
use Rattle.std.specs.Prelude.{ℤ, pos, ◌+ℤ◌, ◌-ℤ◌, nat_abs, int_lt, ◌+◌, nat_le, not}
use Rattle.std.proofs.lemmas.Int.{ints}
use Rattle.std.proofs.lemmas.Bool.{and_parts, true_from_ne_false}
use Rattle.qc_model.specs.declared.problem.Domain.{Domain}
use Rattle.qc_model.specs.declared.problem.Domain.TheVariants.{Bits, Range, Listed}
use Rattle.qc_model.specs.Lists.{numbers_from}
use Rattle.qc_model.specs.Domains.{domain_values, is_ascending, is_none_left}
use Rattle.qc_model.specs.Valid.{is_domain, is_listed, has_gap, width_of}
use Rattle.qc_model.proofs.Widths.{listed_ascends}

numbers_ascend : (low : ℤ) (n : ℕ) → is_ascending (numbers_from low n) ≡ true
numbers_ascend low zero = refl
numbers_ascend low (suc zero) = refl
numbers_ascend low (suc (suc n)) =
    ap (λ b. b && is_ascending (numbers_from (low +ℤ pos 1) (suc n))) (true_from_ne_false (int_lt low (low +ℤ pos 1)) (λ e. omega (arith, ints))) ∙ numbers_ascend (low +ℤ pos 1) (suc n)

pub domain_ascends : (d : Domain) → is_domain d ≡ true → is_ascending (domain_values d) ≡ true
domain_ascends Bits e = refl
domain_ascends (Range low high) e = by (int_lt high low)
  where
    by : (b : Bool) → is_ascending (cond b [] (numbers_from low (nat_abs (high -ℤ low) + 1))) ≡ true
    by true = refl
    by false = numbers_ascend low (nat_abs (high -ℤ low) + 1)
domain_ascends (Listed ns) e =
    let p = and_parts (not (is_none_left ns) && is_listed ns && has_gap ns) (nat_le (width_of ns) 1048576) e in
    let q = and_parts (not (is_none_left ns) && is_listed ns) (has_gap ns) p.0 in
    listed_ascends ns (and_parts (not (is_none_left ns)) (is_listed ns) q.0).1
