use Rattle.std.proofs.Common.{◌∙◌, inl, inr, subst}
use Rattle.qecode_commands.proofs.Played.{moves_down}
use Rattle.qecode_commands.proofs.Written.{Wrote-weaker}
use Rattle.tell_commands.specs.Allowed.{ListsValues}
use Rattle.tell_commands.proofs.allowed.list_text.Goals as goal

pub returns-in-Ok-clause-wrote : goal.returns-in-Ok-clause-wrote
returns-in-Ok-clause-wrote g c =
    Wrote-weaker _ _ _ _ c.list_values.result _ _
    (λ s t h. inr (c.in-Ok.ensures.good, subst (λ vs. ListsValues c.args.problem.now c.args.most vs s t) (c.deref.ensures.value ∙ c.in-Ok.ensures.moves) h))
    c.list_values.ensures.wrote

pub returns-in-Err-clause-wrote : goal.returns-in-Err-clause-wrote
returns-in-Err-clause-wrote g c =
    Wrote-weaker _ _ _ _ c.turn_moves_down.result _ _ (λ s t is. inl (moves_down c.args.text.now c.in-Err.fault s t c.in-Err.ensures.why is)) c.turn_moves_down.ensures.wrote
