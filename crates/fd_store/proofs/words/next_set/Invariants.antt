use Rattle.std.proofs.Common.{◌≡◌, ℕ, ◌<◌, ◌≤◌, ◌*◌, false}
use Rattle.fd_store.specs.Places.{is_set}
use Rattle.fd_store.proofs.words.next_set.Given as goal

abbrev pub invariant-loop-w : goal.invariant-loop-w
invariant-loop-w l = (p : ℕ) → l.a ≤ p → p < 64 * l.w → is_set l.words p ≡ false
