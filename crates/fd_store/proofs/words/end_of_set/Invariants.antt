use Rattle.std.proofs.Common.{◌≡◌, ℕ, ◌<◌, ◌≤◌, ◌+◌, ◌*◌, ◌/◌, false}
use Rattle.fd_store.specs.Places.{is_set}
use Rattle.fd_store.proofs.words.end_of_set.Given as goal

abbrev pub invariant-loop-w : goal.invariant-loop-w
invariant-loop-w l = record { within : l.w ≤ (l.e + 63) / 64; none : (p : ℕ) → 64 * l.w ≤ p → p < l.e → is_set l.words p ≡ false }

abbrev pub decreases-loop-w : goal.decreases-loop-w
decreases-loop-w l = l.w
