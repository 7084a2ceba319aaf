use Rattle.std.proofs.Common.{◌∙◌}
use Rattle.qecode_commands.proofs.Written.{Wrote-weaker}
use Rattle.part_commands.proofs.solve.tell_unknown.Goals as goal

pub returns-in-Ok-clause-wrote : goal.returns-in-Ok-clause-wrote
returns-in-Ok-clause-wrote g c =
    Wrote-weaker _ _ _ _ c.finish.result _ _ (λ s t is. rw is.0 (is.1 ∙ (c.as_slice.ensures.value ∙ c.in-Ok.ensures))) c.finish.ensures.wrote
