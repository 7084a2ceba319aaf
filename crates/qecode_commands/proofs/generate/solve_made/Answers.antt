use Rattle.std.proofs.Common.{subst}
use Rattle.qecode_commands.specs.Summaries.{SummarisesProblem}
use Rattle.qecode_commands.proofs.Written.{Wrote-weaker}
use Rattle.qecode_commands.proofs.generate.solve_made.Goals as goal

pub returns-in-Ok-clause-wrote : goal.returns-in-Ok-clause-wrote
returns-in-Ok-clause-wrote g c =
    Wrote-weaker _ _ _ _ c.solve_and_summarise.result _ _ (λ s t h. subst (λ q. SummarisesProblem q s t) c.in-Ok.ensures h) c.solve_and_summarise.ensures.wrote
