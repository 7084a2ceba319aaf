use Rattle.std.proofs.Common.{sym, ap, ◌∙◌}
use Rattle.qc_play.specs.Shape.{plan_of, all_entries}
use Rattle.qc_play.specs.Play.{answers_of}
use Rattle.qc_play.specs.Sides.{has_entries}
use Rattle.qc_play.proofs.Shapes.{answer_is}
use Rattle.qc_play.proofs.side.plan_answers.Goals as goal

pub returns-in-Answer : goal.returns-in-Answer
returns-in-Answer c =
    c.some_plan.ensures ∙ (ap (λ es. has_entries (all_entries es)) c.items.ensures ∙ sym (ap (λ s. has_entries (answers_of s)) (ap plan_of c.in-Answer.is ∙ answer_is c.in-Answer.list)))
