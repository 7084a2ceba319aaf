use Rattle.std.proofs.Common.{◌≡◌, ℕ, true, false, length}
use Rattle.std.specs.Prelude.{get_or}
use Rattle.dense_alike.specs.Unseen.{SeesNone}
use Rattle.dense_alike.proofs.unseen.unseen_of.Given as goal

abbrev pub invariant-loop-i : goal.invariant-loop-i
invariant-loop-i l = record {
  count : length l.unseen.items ≡ l.i;
  each : (j : ℕ) → get_or l.unseen.items j false ≡ true → SeesNone l.problem j;
}
