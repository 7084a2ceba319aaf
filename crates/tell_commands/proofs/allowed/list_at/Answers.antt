use Rattle.qecode_commands.proofs.Written.{Wrote-weaker}
use Rattle.tell_commands.proofs.allowed.list_at.Goals as goal

pub returns-in-AfterAll-clause-wrote : goal.returns-in-AfterAll-clause-wrote
returns-in-AfterAll-clause-wrote g c = Wrote-weaker _ _ _ _ c.finish.result _ _ (λ s t is. rw (c.in-AfterAll.is, is.0) is.1) c.finish.ensures.wrote

pub returns-in-LeftOver-clause-wrote : goal.returns-in-LeftOver-clause-wrote
returns-in-LeftOver-clause-wrote g c = Wrote-weaker _ _ _ _ c.finish-in-LeftOver.result _ _ (λ s t is. rw (c.in-LeftOver.is, is.0) is.1) c.finish-in-LeftOver.ensures.wrote

pub returns-in-Missing-clause-wrote : goal.returns-in-Missing-clause-wrote
returns-in-Missing-clause-wrote g c = Wrote-weaker _ _ _ _ c.turn_play_down.result _ _ (λ s t is. rw (c.in-Missing.is, is.0) is.1) c.turn_play_down.ensures.wrote

pub returns-in-NotAllowed-clause-wrote : goal.returns-in-NotAllowed-clause-wrote
returns-in-NotAllowed-clause-wrote g c =
    Wrote-weaker _ _ _ _ c.turn_play_down-in-NotAllowed.result _ _ (λ s t is. rw (c.in-NotAllowed.is, is.0) is.1) c.turn_play_down-in-NotAllowed.ensures.wrote
