-- Domains that are ranges, and numbers that fit a word.
use Rattle.std.proofs.Common.{◌≡◌, ℕ, ◌+◌, ◌<◌, ◌≤◌, true, List, sym, ap, subst, ◌∙◌, arith, ℤ, Result, Ok, Err}
use Rattle.std.specs.Prelude.{pos, negsuc, ◌+ℤ◌, ◌-ℤ◌, ◌≤ℤ◌, nat_abs, unsigned_abs, nat_le, IfOk}
use Rattle.std.specs.declared.alloc.AllocError.{AllocError}
use Rattle.std.proofs.lemmas.Int.{to_z-of_z, ints}
use Rattle.std.proofs.lemmas.Bool.{and_parts}
use Rattle.std.proofs.lemmas.Bool.Decides.{nat_tests}
use mir.Val.{SFits, to_z, of_z}
use mir.Syntax.{w64}
use Rattle.qc_model.specs.Domains.{domain_values}
use Rattle.qc_model.specs.Lists.{numbers_from}
use Rattle.qc_model.specs.declared.problem.Domain.{Domain}
use Rattle.qc_model.specs.declared.problem.Domain.TheVariants.{Range}
use Rattle.qc_model.specs.Valid.{is_range, is_domain, domain_width}
use Rattle.qc_model.proofs.DomainValues.{ends_of, range_values}
use Rattle.fd_store.specs.declared.table.Cell.{Cell}
use Rattle.fd_store.specs.Added.{AddsCell}

pub fit_is : (z w : ℤ) → z ≡ w → SFits w64 w → to_z w64 (of_z w64 z) ≡ w
fit_is z w e fits = ap (λ u. to_z w64 (of_z w64 u)) e ∙ simp to_z-of_z

pub low_fits : (low high : ℤ) → is_domain (Range low high) ≡ true → SFits w64 low
low_fits low high e = omega (arith, ints, (ends_of low high e).low_fits)

pub high_fits : (low high : ℤ) → is_domain (Range low high) ≡ true → SFits w64 high
high_fits low high e = omega (arith, ints, (ends_of low high e).high_fits)

-- the ends of a range as an added cell needs them
pub record HasEnds (low high : ℤ) : Type 0 where
  pub least : negsuc 999999999 ≤ℤ low
  pub small : low ≤ℤ pos 1000000001
  pub rises : low ≤ℤ high
  pub close : high ≤ℤ (low +ℤ pos 1048575)
  pub most : high ≤ℤ pos 1000000000

pub range_ends : (low high : ℤ) → is_domain (Range low high) ≡ true → HasEnds low high
range_ends low high e =
    let r = ends_of low high e in
    let p = and_parts (is_range low high) (nat_le (nat_abs (high -ℤ low) + 1) 1048576) e in
    record { least = above low r.low_fits; small = below low r.low_fits; rises = r.rises; close = near low high r.rises p.1; most = up_to high r.high_fits }
  where
    above : (z : ℤ) → unsigned_abs z ≤ 1000000000 → negsuc 999999999 ≤ℤ z
    above z h = omega (arith, ints)

    below : (z : ℤ) → unsigned_abs z ≤ 1000000000 → z ≤ℤ pos 1000000001
    below z h = omega (arith, ints)

    up_to : (z : ℤ) → unsigned_abs z ≤ 1000000000 → z ≤ℤ pos 1000000000
    up_to z h = omega (arith, ints)

    near : (l h : ℤ) → l ≤ℤ h → nat_le (nat_abs (h -ℤ l) + 1) 1048576 ≡ true → h ≤ℤ (l +ℤ pos 1048575)
    near l h r p = omega (arith, ints, few (nat_abs (h -ℤ l)) p)
      where
        few : (n : ℕ) → nat_le (n + 1) 1048576 ≡ true → n ≤ 1048575
        few n p = grind (arith, nat_tests)

pub range_near : (low high : ℤ) → HasEnds low high → high ≤ℤ (low +ℤ pos 1048576)
range_near low high h = further low high h.close
  where
    further : (l h : ℤ) → h ≤ℤ (l +ℤ pos 1048575) → h ≤ℤ (l +ℤ pos 1048576)
    further l h c = omega (arith, ints)

-- so many values has a range whose greatest value stands k above the least
pub range_narrow : (low high : ℤ) (k : ℕ) → HasEnds low high → high ≡ low +ℤ pos k → k + 1 ≤ 1048576
range_narrow low high k h e = few low high k h.close e
  where
    few : (l h : ℤ) (k : ℕ) → h ≤ℤ (l +ℤ pos 1048575) → h ≡ l +ℤ pos k → k + 1 ≤ 1048576
    few l h k c e = omega (arith, ints)

pub range_high : (low high : ℤ) (k : ℕ) → HasEnds low high → high ≡ low +ℤ pos k → (low +ℤ pos (k + 1)) ≤ℤ pos 1000000001
range_high low high k h e = past low high k h.most e
  where
    past : (l h : ℤ) (k : ℕ) → h ≤ℤ pos 1000000000 → h ≡ l +ℤ pos k → (l +ℤ pos (k + 1)) ≤ℤ pos 1000000001
    past l h k m e = omega (arith, ints)

pub width_fits : (k : ℕ) → k + 1 ≤ 1048576 → k + 1 < 4294967296
width_fits k h = omega arith

pub some_width : (k : ℕ) → 0 < k + 1
some_width k = omega arith

pub range_adds : (words now : List ℕ) (c : Cell) (d : Domain) (low high base : ℤ) (k : ℕ) → d ≡ Range low high → is_domain d ≡ true → base ≡ low → high ≡ low +ℤ pos k →
    AddsCell words now c (k + 1) (numbers_from base (k + 1)) → AddsCell words now c (domain_width d) (domain_values d)
range_adds words now c d low high base k e v b h i =
    let far : nat_abs (high -ℤ low) ≡ k = omega (arith, ints) in
    let width : k + 1 ≡ domain_width d = sym (ap domain_width e ∙ ap (λ n. n + 1) far) in
    let values : numbers_from base (k + 1) ≡ domain_values d =
    ap (λ z. numbers_from z (k + 1)) b ∙ sym (ap domain_values e ∙ (range_values low high (sym (ap is_domain e) ∙ v) ∙ ap (λ n. numbers_from low (n + 1)) far)) in
    subst (λ n. AddsCell words now c n (domain_values d)) width (subst (AddsCell words now c (k + 1)) values i)

pub if_ok : (P Q : Cell → Type 0) (r : Result Cell AllocError) → ((c : Cell) → P c → Q c) → IfOk r P → IfOk r Q
if_ok P Q (Ok c) f i = f c i
if_ok P Q (Err e) f i = i

-- the values of a domain that is another one stand in the cell
pub adds_as : (words now : List ℕ) (r : Result Cell AllocError) (d e : Domain) → d ≡ e → IfOk r (λ c. AddsCell words now c (domain_width e) (domain_values e)) →
    IfOk r (λ c. AddsCell words now c (domain_width d) (domain_values d))
adds_as words now r d e is i = subst (λ f. IfOk r (λ c. AddsCell words now c (domain_width f) (domain_values f))) (sym is) i
