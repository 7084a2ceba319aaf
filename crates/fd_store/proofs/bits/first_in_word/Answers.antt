use Rattle.std.proofs.Common.{◌≡◌, ◌<◌, ◌≤◌, ℕ, arith}
use Rattle.std.specs.Prelude.{◌==◌, ◌&&◌}
use Rattle.std.specs.Int.{bit_at}
use Rattle.std.proofs.lemmas.Bool.Decides.{nat_tests}
use Rattle.std.proofs.lemmas.Nat.Bits.{bit_at-lt}
use Rattle.std.proofs.lemmas.Nat.{trailing_le}
use Rattle.fd_store.specs.Places.{is_inside}
use Rattle.fd_store.proofs.Masks.{trailing_none, trailing_found}
use Rattle.fd_store.proofs.bits.first_in_word.Goals as goal

none_here : (x y a i : ℕ) → x < 2 → a ≤ i → i < 64 → (y == 1) ≡ ((x == 1) && is_inside a 64 i) → y ≡ 0 → x ≡ 0
none_here x y a i l h k e q = grind (arith, nat_tests)

found_here : (x y a i : ℕ) → (y == 1) ≡ ((x == 1) && is_inside a 64 i) → y ≡ 1 → (x ≡ 1) × (a ≤ i)
found_here x y a i e q = grind (arith, nat_tests)

pub returns-clause-from : goal.returns-clause-from
returns-clause-from c = λ h. (found_here (bit_at c.args.word _) _ c.args.a _ (c.picked.ensures _ h) (trailing_found c.picked.result (omega arith) h)).1

pub returns-clause-none : goal.returns-clause-none
returns-clause-none c = λ i h k.
    none_here (bit_at c.args.word i) (bit_at c.picked.result i) c.args.a i (bit_at-lt c.args.word i) h (omega (arith, trailing_le 64 c.picked.result, k))
    (c.picked.ensures i (omega (arith, trailing_le 64 c.picked.result, k))) (trailing_none c.picked.result i (omega arith) k)

pub returns-clause-found : goal.returns-clause-found
returns-clause-found c = λ h. (found_here (bit_at c.args.word _) _ c.args.a _ (c.picked.ensures _ h) (trailing_found c.picked.result (omega arith) h)).0
