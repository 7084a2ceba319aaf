use Rattle.std.proofs.Common.{◌≡◌, ℕ, ℤ, ◌<◌, List, length, get_or}
use Rattle.qc_model.specs.Domains.{Values}
use Rattle.dense_quiet.specs.declared.differing.Ends.{Ends}
use Rattle.dense_quiet.specs.Differing.{StandsFor, HaveEnds, IsQuiet}
use Rattle.dense_quiet.proofs.differing.sight_of.Given as goal

abbrev pub invariant-loop-k : goal.invariant-loop-k
invariant-loop-k l = record {
  count : length l.counts ≡ length l.ends;
  quiet : (j : ℕ) → j < l.k → (z : Ends) (ds : List Values) (v : ℤ) → StandsFor (get_or l.ends j z).low v → HaveEnds ds l.ends → IsQuiet ds v;
}
