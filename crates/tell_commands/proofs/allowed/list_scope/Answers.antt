use Rattle.std.proofs.Common.{◌∙◌}
use Rattle.qecode_commands.proofs.Written.{Wrote-weaker}
use Rattle.tell_commands.proofs.allowed.list_scope.Goals as goal

pub returns-in-Ok-clause-wrote : goal.returns-in-Ok-clause-wrote
returns-in-Ok-clause-wrote g c =
    Wrote-weaker _ _ _ _ c.finish.result _ _ (λ s t is. rw is.0 (is.1 ∙ (c.deref.ensures.value ∙ c.in-Ok.ensures))) c.finish.ensures.wrote
