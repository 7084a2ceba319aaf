-- The values of a range by their places, and that each value of a domain is a number within the limits.
use Rattle.std.proofs.Common.{◌≡◌, ℕ, zero, suc, ◌+◌, ◌<◌, ◌≤◌, Bool, true, false, not, ◌&&◌, [], length, refl, sym, ap, ◌∙◌, subst, arith, ℤ, ◌+ℤ◌, ◌-ℤ◌, ◌≤ℤ◌, pos, Some, cond, add-one}
use Rattle.std.specs.Prelude.{slice_get, nat_abs, unsigned_abs, int_lt, int_le, nat_le}
use Rattle.std.specs.List.{list_all}
use Rattle.std.proofs.lemmas.Int.{ints}
use Rattle.std.proofs.lemmas.Bool.Decides.{nat_tests}
use Rattle.std.proofs.lemmas.Bool.{and_parts}
use Rattle.qc_model.specs.declared.problem.Domain.{Domain}
use Rattle.qc_model.specs.declared.problem.Domain.TheVariants.{Bits, Range, Listed}
use Rattle.qc_model.specs.Lists.{numbers_from}
use Rattle.qc_model.specs.Domains.{domain_values, is_none_left, is_ascending}
use Rattle.qc_model.specs.Valid.{is_number, is_range, is_domain, is_listed, has_gap, width_of}

pub length-numbers : (low : ℤ) (n : ℕ) → length (numbers_from low n) ≡ n
length-numbers low zero = refl
length-numbers low (suc n) = ap suc (length-numbers (low +ℤ pos 1) n)

pub get-numbers : (low : ℤ) (n k : ℕ) → k < n → slice_get (numbers_from low n) k ≡ Some (low +ℤ pos k)
get-numbers low zero k h = absurd (omega arith)
get-numbers low (suc n) zero h = ap Some (start low)
  where
    start : (low : ℤ) → low ≡ low +ℤ pos 0
    start low = omega (arith, ints)
get-numbers low (suc n) (suc k) h = get-numbers (low +ℤ pos 1) n k (omega arith) ∙ ap Some (next low k)
  where
    next : (low : ℤ) (k : ℕ) → (low +ℤ pos 1) +ℤ pos k ≡ low +ℤ pos (suc k)
    next low k = omega (arith, ints)

-- the ends of a range that passes
pub record Ends (low high : ℤ) : Type 0 where
  pub low_fits : unsigned_abs low ≤ 1000000000
  pub high_fits : unsigned_abs high ≤ 1000000000
  pub rises : low ≤ℤ high
  pub not_below : int_lt high low ≡ false

pub ends_of : (low high : ℤ) → is_domain (Range low high) ≡ true → Ends low high
ends_of low high e =
    let p = and_parts (is_range low high) _ e in
    let q = and_parts (is_number low && is_number high) (int_le low high) p.0 in
    let r = and_parts (is_number low) (is_number high) q.0 in
    record { low_fits = small low r.0; high_fits = small high r.1; rises = up low high q.1; not_below = not_down low high q.1 }
  where
    small : (z : ℤ) → is_number z ≡ true → unsigned_abs z ≤ 1000000000
    small z e = grind (arith, nat_tests)

    up : (a b : ℤ) → int_le a b ≡ true → a ≤ℤ b
    up a b e = grind (arith, ints)

    not_down : (a b : ℤ) → int_le a b ≡ true → int_lt b a ≡ false
    not_down a b e = grind (arith, ints)

pub range_values : (low high : ℤ) → is_domain (Range low high) ≡ true → domain_values (Range low high) ≡ numbers_from low (nat_abs (high -ℤ low) + 1)
range_values low high e = ap (λ b. cond b [] (numbers_from low (nat_abs (high -ℤ low) + 1))) (ends_of low high e).not_below

pub range_size : (low high : ℤ) → is_domain (Range low high) ≡ true → nat_abs (high -ℤ low) + 1 ≡ length (domain_values (Range low high))
range_size low high e = sym (ap length (range_values low high e) ∙ length-numbers low (nat_abs (high -ℤ low) + 1))

pub range_value : (low high : ℤ) (k : ℕ) → is_domain (Range low high) ≡ true → k < length (domain_values (Range low high)) →
    slice_get (domain_values (Range low high)) k ≡ Some (low +ℤ pos k)
range_value low high k e h =
    let n = nat_abs (high -ℤ low) + 1 in
    ap (λ vs. slice_get vs k) (range_values low high e) ∙ get-numbers low n k (subst (λ m. k < m) (sym (range_size low high e)) h)

numbers_fit : (low : ℤ) (n : ℕ) → low ≤ℤ pos 1000000000 → pos 0 ≤ℤ (low +ℤ pos 1000000000) → (low +ℤ pos n) ≤ℤ pos 1000000001 → list_all is_number (numbers_from low n) ≡ true
numbers_fit low zero a b c = refl
numbers_fit low (suc n) a b c =
    ap (λ t. t && list_all is_number (numbers_from (low +ℤ pos 1) n)) (fits low a b) ∙ rest n c (numbers_fit (low +ℤ pos 1) n)
  where
    fits : (z : ℤ) → z ≤ℤ pos 1000000000 → pos 0 ≤ℤ (z +ℤ pos 1000000000) → is_number z ≡ true
    fits z a b = grind (arith, nat_tests, ints)

    rest : (n : ℕ) → (low +ℤ pos (suc n)) ≤ℤ pos 1000000001 →
        ((low +ℤ pos 1) ≤ℤ pos 1000000000 → pos 0 ≤ℤ ((low +ℤ pos 1) +ℤ pos 1000000000) → ((low +ℤ pos 1) +ℤ pos n) ≤ℤ pos 1000000001 → list_all is_number (numbers_from (low +ℤ pos 1) n) ≡ true) →
        list_all is_number (numbers_from (low +ℤ pos 1) n) ≡ true
    rest zero c f = refl
    rest (suc n) c f = f (omega (arith, ints)) (omega (arith, ints)) (omega (arith, ints))

-- each value of a domain is a number within the limits
pub domain_fits : (d : Domain) → is_domain d ≡ true → list_all is_number (domain_values d) ≡ true
domain_fits Bits e = refl
domain_fits (Range low high) e =
    ap (list_all is_number) (range_values low high e)
    ∙ ends_fit low high (ends_of low high e)
  where
    ends_fit : (low high : ℤ) → Ends low high → list_all is_number (numbers_from low (nat_abs (high -ℤ low) + 1)) ≡ true
    ends_fit low high r = numbers_fit low (nat_abs (high -ℤ low) + 1) (omega (arith, ints, r.low_fits)) (omega (arith, ints, r.low_fits)) (omega (arith, ints, r.high_fits, r.rises))
domain_fits (Listed ns) e =
    let p = and_parts (not (is_none_left ns) && is_listed ns && has_gap ns) (nat_le (width_of ns) 1048576) e in
    let q = and_parts (not (is_none_left ns) && is_listed ns) (has_gap ns) p.0 in
    let r = and_parts (not (is_none_left ns)) (is_listed ns) q.0 in
    let s = and_parts (nat_le (length ns) 100000 && list_all is_number ns) (is_ascending ns) r.1 in
    (and_parts (nat_le (length ns) 100000) (list_all is_number ns) s.0).1

-- a domain has a value
pub domain_full : (d : Domain) → is_domain d ≡ true → is_none_left (domain_values d) ≡ false
domain_full Bits e = refl
domain_full (Range low high) e = ap is_none_left (range_values low high e) ∙ some (nat_abs (high -ℤ low))
  where
    some : (n : ℕ) → is_none_left (numbers_from low (n + 1)) ≡ false
    some n = rw add-one refl
domain_full (Listed ns) e =
    let p = and_parts (not (is_none_left ns) && is_listed ns && has_gap ns) (nat_le (width_of ns) 1048576) e in
    let q = and_parts (not (is_none_left ns) && is_listed ns) (has_gap ns) p.0 in
    not_none (is_none_left ns) (and_parts (not (is_none_left ns)) (is_listed ns) q.0).0
  where
    not_none : (b : Bool) → not b ≡ true → b ≡ false
    not_none true e = cc
    not_none false e = refl
