use Rattle.std.proofs.Common.{◌∙◌, sym, ap}
use Rattle.qc_model.specs.declared.problem.Kind.TheVariants.{Exists}
use Rattle.qc_model.specs.Plan.{answer}
use Rattle.qc_play.specs.Shape.{all_replies}
use Rattle.qc_play.specs.Stuck.{nothing_answered}
use Rattle.qc_play.proofs.Shapes.{reply_is}
use Rattle.qc_play.proofs.alone.stuck_counter.Goals as goal

pub returns-in-Exists : goal.returns-in-Exists
returns-in-Exists c = reply_is c.new.result ∙ (ap (λ es. answer (all_replies es)) c.new.ensures ∙ sym (ap (nothing_answered Exists) c.in-Exists.is))
