use Rattle.std.proofs.Common.{sym, ap, ◌∙◌}
use Rattle.qc_play.specs.Shape.{tree_of_counter, all_replies}
use Rattle.qc_play.specs.Play.{answers_of}
use Rattle.qc_play.specs.Sides.{has_entries}
use Rattle.qc_play.proofs.Shapes.{reply_is}
use Rattle.qc_play.proofs.side.counter_replies.Goals as goal

pub returns-in-Reply : goal.returns-in-Reply
returns-in-Reply c =
    c.some_counter.ensures ∙ (ap (λ es. has_entries (all_replies es)) c.items.ensures ∙ sym (ap (λ s. has_entries (answers_of s)) (ap tree_of_counter c.in-Reply.is ∙ reply_is c.in-Reply.list)))
