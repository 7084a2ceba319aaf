use Rattle.std.proofs.Common.{◌≡◌, ◌<◌, ℕ, ℤ, true}
use Rattle.std.specs.Prelude.{slice_get, Some}
use Rattle.qc_model.specs.declared.problem.Arg.{Arg}
use Rattle.qc_model.specs.Refuted.{left_to}
use Rattle.dense_quiet.specs.Slack.{IsNear, is_taken}
use Rattle.dense_quiet.specs.Taking.{takes_of}
use Rattle.dense_quiet.proofs.slack.are_near.Given as goal

abbrev pub invariant-loop-k : goal.invariant-loop-k
invariant-loop-k l = (i : ℕ) (n : ℤ) (a : Arg) → i < l.k → slice_get l.factors i ≡ Some n → slice_get l.items i ≡ Some a → is_taken (takes_of l.fn.taking l.problem l.rule) a ≡ true → IsNear l.fn.s n (left_to l.store.box a)
