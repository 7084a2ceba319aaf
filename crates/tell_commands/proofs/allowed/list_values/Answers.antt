use Rattle.std.proofs.Common.{subst}
use Rattle.qecode_commands.proofs.Written.{Wrote-weaker}
use Rattle.tell_commands.specs.Allowed.{ListsPlace}
use Rattle.tell_commands.proofs.allowed.list_values.Goals as goal

pub returns-in-Ok-clause-wrote : goal.returns-in-Ok-clause-wrote
returns-in-Ok-clause-wrote g c =
    Wrote-weaker _ _ _ _ c.list_at.result _ _
    (λ s t h. subst (λ p. ListsPlace c.args.problem.now c.args.most p s t) c.in-Ok.ensures.place h) c.list_at.ensures.wrote
