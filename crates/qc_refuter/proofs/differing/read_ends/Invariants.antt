use Rattle.std.proofs.Common.{◌≡◌, ℕ, ◌<◌, [], map, get_or}
use Rattle.qc_model.specs.Refuted.{left_to}
use Rattle.qc_refuter.specs.declared.stretches.Ends.{Ends}
use Rattle.qc_refuter.specs.Met.{seen}
use Rattle.qc_refuter.specs.Stretches.{AreEndsOf}
use Rattle.qc_refuter.proofs.differing.read_ends.Given as goal

abbrev pub invariant-loop-k : goal.invariant-loop-k
invariant-loop-k l = record {
  ends : (j : ℕ) (e : Ends) → j < l.k → AreEndsOf (get_or (map (left_to (seen l.view)) l.items) j []) (get_or l.ends j e);
  lows : (j : ℕ) (e : Ends) → j < l.k → get_or l.lows j 0 ≡ (get_or l.ends j e).low;
}
