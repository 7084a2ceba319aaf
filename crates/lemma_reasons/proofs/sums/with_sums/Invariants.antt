use Rattle.std.proofs.Common.{◌≡◌, ◌≤◌, drop, length}
use Rattle.qc_model.specs.Ranges.{range_of}
use Rattle.lemma_reasons.specs.Terms.{with_all}
use Rattle.lemma_reasons.proofs.sums.with_sums.Given as goal

abbrev pub invariant-loop-n : goal.invariant-loop-n
invariant-loop-n l = record {
  within : l.n ≤ length l.given.sums.now;
  known : range_of l.known.from l.known.to ≡ with_all (drop l.n l.given.sums.now) l.given.c.0 (range_of l.beyond.from l.beyond.to) (range_of l.initial.known.from l.initial.known.to);
}

abbrev pub decreases-loop-n : goal.decreases-loop-n
decreases-loop-n l = l.n
