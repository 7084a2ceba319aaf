use Rattle.std.proofs.Common.{◌≡◌, ℕ, ◌<◌, ◌≤◌, get_or}
use Rattle.qc_refuter.specs.Full.{first_sum, IsWidest}
use Rattle.dense_quiet.proofs.differing.widest_of.Given as goal

abbrev pub invariant-loop-k : goal.invariant-loop-k
invariant-loop-k l = record {
  sum : l.sum ≡ first_sum l.initial.counts l.k;
  widest : IsWidest (first_sum l.initial.counts) l.k l.widest;
  each : (j : ℕ) → j < l.k → IsWidest (first_sum l.initial.counts) j (get_or l.counts j 0);
  later : (j : ℕ) → l.k ≤ j → get_or l.counts j 0 ≡ get_or l.initial.counts j 0;
}
