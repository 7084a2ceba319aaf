-- Numbers, byte by byte.
use Rattle.std.proofs.Common.{◌≡◌, refl, sym, ap, ◌∙◌, ℕ, ◌+◌, ◌-◌, ◌*◌, ◌^◌, ◌≤◌, ◌<◌, List, [], ◌∷◌, ◌++◌, Option, Some, cond, arith}
use Rattle.std.specs.Prelude.{nat_eq, pos}
use Rattle.std.proofs.Common.{le-leb}
use Rattle.std.proofs.lemmas.Bool.{eq-eqb}
use Rattle.proof_text.specs.Numerals.{SignedGoes}
use Rattle.proof_text.specs.declared.numeral.Signed.{Signed}
use Rattle.proof_text.specs.declared.numeral.Signed.TheVariants.{Zero}
use Rattle.proof_text.specs.declared.numeral.SignedNext.TheVariants.{Done as SignedDone}
use Rattle.std.specs.Fmt.{decimal}
use Rattle.std.proofs.lemmas.Bool.{ne_eqb}
use Rattle.std.proofs.lemmas.Fmt.{decimal_digit}
use Rattle.proof_text.specs.Symbols.{Symbol, digits, first_digit, next_digit}
use Rattle.proof_text.proofs.Digits.{decimal_value}
use Rattle.proof_text.proofs.Numbers.{first_is, next_is}

pub counted_first : (most end c v : ℕ) → 49 ≤ c → c ≤ 57 → 9 ≤ most → v ≡ c - 48 → (first_digit most end c ≡ Some (digits most v end ∷ [])) × (decimal v ≡ c ∷ []) × (1 ≤ v) × (v ≤ most)
counted_first most end c v low high le e =
    let within : c - 48 ≤ most = omega arith in
    let back : 48 + (c - 48) ≡ c = omega arith in (
      rw (e, first_is most end c low high within) refl,
      ap decimal e ∙ decimal_digit (c - 48) (omega arith) ∙ ap (λ (x : ℕ). x ∷ []) back,
      omega arith,
      omega arith,
    )

pub counted_more : (most v w end c : ℕ) → (c ≡ end → ⊥) → 48 ≤ c → c ≤ 57 → w ≡ 10 * v + (c - 48) → w ≤ most → 1 ≤ v → most ≤ 2 ^ 62
    → (cond (nat_eq c end) (Some []) (next_digit most v end c) ≡ Some (digits most w end ∷ [])) × (decimal w ≡ decimal v ++ c ∷ []) × ((1 ≤ w) × (w ≤ most))
counted_more most v w end c ne low high sum le one big =
    let le2 : 10 * v + (c - 48) ≤ most = omega arith in
    let lt2 : 10 * v + (c - 48) < 2 ^ 64 = omega arith in (
      rw (ne_eqb c end ne, sum, next_is most v end c low high le2) refl,
      ap decimal sum ∙ decimal_value v (c ∷ []) one (low, high, tt) lt2,
      (omega arith, le),
    )

ends_zero : (end : ℕ) (x y : Option (List Symbol)) → cond (nat_eq end end) x y ≡ x
ends_zero end x y = rw (eq-eqb end end refl) refl

pub zero_done : (most end b : ℕ) (s : Signed) → s ≡ Zero → b ≡ end → SignedGoes most end s b (SignedDone (pos 0))
zero_done most end b s is e = rw (is, e) (ends_zero end _ _, refl, sym (decimal_digit 0 (omega arith)), le-leb 0 most (omega arith))
