use Rattle.qecode_commands.proofs.Written.{Wrote-weaker}
use Rattle.qecode_commands.proofs.Certified.{solved}
use Rattle.qecode_commands.proofs.solve.solve_problem.Goals as goal

pub returns-in-Ok-clause-wrote : goal.returns-in-Ok-clause-wrote
returns-in-Ok-clause-wrote g c =
    Wrote-weaker _ _ _ _ c.write_flat.result _ _
    (solved c.args.problem.now c.args.turns c.in-Ok.flat.outcome c.in-Ok.flat.optimum c.in-Ok.flat.arena c.in-Ok.ensures.solution) c.write_flat.ensures.wrote
