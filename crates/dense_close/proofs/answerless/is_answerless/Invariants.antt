use Rattle.std.proofs.Common.{◌≡◌, take, false}
use Rattle.std.specs.Prelude.{slice_get, Some}
use Rattle.std.specs.List.{list_any}
use Rattle.qc_model.specs.Content.{Rule}
use Rattle.model_arguments.specs.Written.{variable_numbers}
use Rattle.dense_close.specs.Answerless.{is_answerless_by}
use Rattle.dense_close.proofs.answerless.is_answerless.Given as goal

abbrev pub invariant-loop-x : goal.invariant-loop-x
invariant-loop-x l =
    (c : Rule) → slice_get l.levels.problem.now.constraints l.c.0 ≡ Some c → list_any (is_answerless_by l.levels.problem.now l.number l.store.box c) (variable_numbers (take l.x-index l.x-items)) ≡ false
