use Rattle.std.proofs.Common.{◌≡◌, ◌≤◌, ◌+◌, ◌-◌, ◌*◌, max, min}
use Rattle.fd_store.specs.Places.{is_set, count_below}
use Rattle.fd_store.proofs.words.count_set.Given as goal

abbrev pub invariant-loop-w : goal.invariant-loop-w
invariant-loop-w l = record { few : l.n ≤ 64 * l.w; same : l.n ≡ count_below (λ k. is_set l.words (l.a + k)) (max l.a (min l.e (64 * l.w)) - l.a) }
