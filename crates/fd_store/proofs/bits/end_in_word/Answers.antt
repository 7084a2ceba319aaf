use Rattle.std.proofs.Common.{◌≡◌, ◌<◌, ◌-◌, ◌⊎◌, inl, inr, ℕ, arith}
use Rattle.std.specs.Prelude.{◌==◌, ◌&&◌}
use Rattle.std.specs.Int.{bit_at}
use Rattle.std.proofs.lemmas.Bool.Decides.{nat_tests}
use Rattle.std.proofs.lemmas.Nat.Bits.{bit_at-lt}
use lib.Count.{count_leading_zeros}
use Rattle.fd_store.specs.Places.{is_inside}
use Rattle.fd_store.proofs.Masks.{leading_none, leading_found}
use Rattle.fd_store.proofs.bits.end_in_word.Goals as goal

none_here : (x y e i : ℕ) → x < 2 → i < e → (y == 1) ≡ ((x == 1) && is_inside 0 e i) → y ≡ 0 → x ≡ 0
none_here x y e i l h q z = grind (arith, nat_tests)

found_here : (x y e i : ℕ) → (y == 1) ≡ ((x == 1) && is_inside 0 e i) → y ≡ 1 → (x ≡ 1) × (i < e)
found_here x y e i q z = grind (arith, nat_tests)

some_or_none : (n : ℕ) → (n ≡ 0) ⊎ (0 < n)
some_or_none n = grind arith

pub returns-clause-most : goal.returns-clause-most
returns-clause-most c =
    let n = 64 - count_leading_zeros 64 c.picked.result in
    elim (some_or_none n) [
      | inl z ↦ omega arith
      | inr h ↦
          let r = found_here (bit_at c.args.word (n - 1)) (bit_at c.picked.result (n - 1)) c.args.e (n - 1) (c.picked.ensures (n - 1) (omega arith)) (leading_found c.picked.result (omega arith) h) in
          omega (arith, r.1)
    ]

pub returns-clause-none : goal.returns-clause-none
returns-clause-none c = λ i h k.
    none_here (bit_at c.args.word i) (bit_at c.picked.result i) c.args.e i (bit_at-lt c.args.word i) k (c.picked.ensures i (omega (arith, k)))
    (leading_none c.picked.result i (omega arith) h)

pub returns-clause-found : goal.returns-clause-found
returns-clause-found c = λ h.
    let n = 64 - count_leading_zeros 64 c.picked.result in
    (found_here (bit_at c.args.word (n - 1)) (bit_at c.picked.result (n - 1)) c.args.e (n - 1) (c.picked.ensures (n - 1) (omega arith)) (leading_found c.picked.result (omega arith) h)).0
