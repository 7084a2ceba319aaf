use Rattle.std.proofs.Common.{◌≡◌, sym, ap, ◌∙◌, subst}
use Rattle.std.specs.Prelude.{MatchOption, Some, None}
use Rattle.qc_play.specs.Shape.{tree_of_counter, all_replies}
use Rattle.qc_play.specs.Play.{answers_of, reply_to}
use Rattle.qc_play.proofs.Shapes.{reply_is}
use Rattle.qc_play.proofs.side.counter_reply.Goals as goal

pub returns-in-Reply : goal.returns-in-Reply
returns-in-Reply c =
    subst (λ l. MatchOption c.counter_among.result (reply_to c.args.tuple.now l ≡ None) (λ p. reply_to c.args.tuple.now l ≡ Some (tree_of_counter p.now)))
    (ap all_replies c.items.ensures ∙ sym (ap answers_of (ap tree_of_counter c.in-Reply.is ∙ reply_is c.in-Reply.list))) c.counter_among.ensures
