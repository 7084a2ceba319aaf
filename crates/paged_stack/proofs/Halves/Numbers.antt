-- Facts about the sizes of blocks.
use Rattle.std.proofs.Common.{◌≡◌, ℕ, ◌+◌, ◌*◌, ◌/◌, ◌∙◌, arith}
use prog.Memory.{size, capped}
use prog.Capped.{capped_is}
use Rattle.paged_stack.specs.Blocks.{IsCapacity, block_type}

pub block_size : (n : ℕ) → IsCapacity n → capped (size (block_type n)) ≡ n + 32
block_size n fits =
    let sized : (n + 32) / 16 * 16 ≡ n + 32 = omega (arith, fits.0) in
    capped_is (size (block_type n)) (omega (arith, fits.1)) ∙ sized
