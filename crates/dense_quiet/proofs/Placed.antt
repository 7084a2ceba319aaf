-- Constraints on items of arrays that refute nothing that they may take.
use Rattle.std.proofs.Common.{◌≡◌, map, ap, ◌∙◌, arith}
use Rattle.qc_model.specs.Arguments.{fill, variables_of}
use Rattle.qc_model.specs.Content.{Rule}
use Rattle.qc_model.specs.Domains.{Box}
use Rattle.qc_model.specs.Left.{left_at}
use Rattle.qc_model.specs.Lists.{Distinct}
use Rattle.qc_model.specs.Meaning.{meaning_of, element}
use Rattle.qc_model.specs.Refuted.{left_to, refuted_as, refuted_by}
use Rattle.model_arguments.specs.Written.{arg_at, ints_at}
use Rattle.model_arguments.proofs.Written.{left_written, numbers_written}
use Rattle.dense_closing.specs.Takes.{Takes}
use Rattle.dense_quiet.specs.Quiet.{SparesTwo, misses_number}
use Rattle.dense_quiet.specs.Slack.{SparesTaken}
use Rattle.dense_quiet.proofs.OneEnd.{args_apart, spares_two}

pub element_is : (r : Rule) → meaning_of r.pred ≡ element → (at : Box) → refuted_by r at ≡ misses_number (ints_at r.args 1) (left_to at (arg_at r.args 0)) (left_to at (arg_at r.args 2))
element_is r e at =
    let ls = map (fill (left_to at)) r.args in
    ap (λ m. refuted_as m ls) e
    ∙ (ap (λ ns. misses_number ns (left_at ls 0) (left_at ls 2)) (numbers_written at r.args 1)
    ∙ (ap (λ z. misses_number (ints_at r.args 1) z (left_at ls 2)) (left_written at r.args 0) ∙ ap (λ z. misses_number (ints_at r.args 1) (left_to at (arg_at r.args 0)) z) (left_written at r.args 2)))

pub quiet_element : (takes : Takes) (r : Rule) (box : Box) → meaning_of r.pred ≡ element → Distinct (variables_of r.args) → SparesTwo (misses_number (ints_at r.args 1)) (takes r) (arg_at r.args 0) (arg_at r.args 2) box → SparesTaken takes r box
quiet_element takes r box e d s = spares_two (misses_number (ints_at r.args 1)) takes r box (arg_at r.args 0) (arg_at r.args 2) (element_is r e) (args_apart r.args 0 2 (omega arith) d) s
