use Rattle.std.proofs.Common.{◌≡◌, ◌≤◌, ◌<◌, ℕ, false}
use Rattle.std.specs.Prelude.{slice_get, Some}
use Rattle.qc_model.specs.Content.{Rule}
use Rattle.qc_model.specs.Refuted.{refuted_by}
use Rattle.dense_close.proofs.refuting.some_refuted.Given as goal

abbrev pub invariant-loop-k : goal.invariant-loop-k
invariant-loop-k l = (j : ℕ) (c : Rule) → l.task.span.first ≤ j → j < l.k → slice_get l.task.problem.now.constraints j ≡ Some c → refuted_by c l.store.box ≡ false
