use Rattle.std.proofs.Common.{◌∙◌, sym, ap}
use Rattle.qc_model.specs.declared.problem.Kind.TheVariants.{Forall}
use Rattle.qc_model.specs.Plan.{answer}
use Rattle.qc_play.specs.Shape.{all_entries}
use Rattle.qc_play.specs.Stuck.{nothing_answered}
use Rattle.qc_play.proofs.Shapes.{answer_is}
use Rattle.qc_play.proofs.alone.stuck_plan.Goals as goal

pub returns-in-Forall : goal.returns-in-Forall
returns-in-Forall c = answer_is c.new.result ∙ (ap (λ es. answer (all_entries es)) c.new.ensures ∙ sym (ap (nothing_answered Forall) c.in-Forall.is))
