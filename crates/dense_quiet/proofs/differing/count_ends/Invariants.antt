use Rattle.std.proofs.Common.{◌≡◌, ℕ, ◌<◌, length, take, get_or}
use Rattle.std.specs.Prelude.{count_by}
use Rattle.dense_quiet.specs.Differing.{ends_at}
use Rattle.dense_quiet.proofs.differing.count_ends.Given as goal

abbrev pub invariant-loop-e : goal.invariant-loop-e
invariant-loop-e l = (k : ℕ) → k < length l.counts → get_or l.counts k 0 ≡ count_by (ends_at l.fn.low k) (take l.e-index l.ends)
