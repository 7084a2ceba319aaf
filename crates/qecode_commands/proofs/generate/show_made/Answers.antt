use Rattle.std.proofs.Common.{subst}
use Rattle.qecode_commands.specs.Answers.{PrintsProblem}
use Rattle.qecode_commands.proofs.Written.{Wrote-weaker}
use Rattle.qecode_commands.proofs.generate.show_made.Goals as goal

pub returns-in-Ok-clause-wrote : goal.returns-in-Ok-clause-wrote
returns-in-Ok-clause-wrote g c =
    Wrote-weaker _ _ _ _ c.write_problem.result _ _ (λ s t h. subst (λ q. PrintsProblem q s t) c.in-Ok.ensures h) c.write_problem.ensures.wrote
