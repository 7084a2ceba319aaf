use Rattle.std.proofs.Common.{◌≡◌, sym, ap, ◌∙◌, subst}
use Rattle.std.specs.Prelude.{MatchOption, Some, None}
use Rattle.qc_play.specs.Shape.{plan_of, all_entries}
use Rattle.qc_play.specs.Play.{answers_of, reply_to}
use Rattle.qc_play.proofs.Shapes.{answer_is}
use Rattle.qc_play.proofs.side.plan_reply.Goals as goal

pub returns-in-Answer : goal.returns-in-Answer
returns-in-Answer c =
    subst (λ l. MatchOption c.plan_among.result (reply_to c.args.tuple.now l ≡ None) (λ p. reply_to c.args.tuple.now l ≡ Some (plan_of p.now)))
    (ap all_entries c.items.ensures ∙ sym (ap answers_of (ap plan_of c.in-Answer.is ∙ answer_is c.in-Answer.list))) c.plan_among.ensures
