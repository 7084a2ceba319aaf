use Rattle.std.proofs.Common.{◌≡◌, ◌≤◌, ◌<◌, ℕ, false}
use Rattle.std.specs.Prelude.{slice_get, Some}
use Rattle.qc_model.specs.Content.{Rule}
use Rattle.dense_close.specs.Answerless.{is_answerless}
use Rattle.dense_close.proofs.answerless.some_answerless.Given as goal

abbrev pub invariant-loop-k : goal.invariant-loop-k
invariant-loop-k l = (j : ℕ) (c : Rule) → l.fn.span.first ≤ j → j < l.k → slice_get l.levels.problem.now.constraints j ≡ Some c → is_answerless l.levels.problem.now l.number l.store.box c ≡ false
