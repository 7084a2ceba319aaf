use Rattle.qecode_commands.proofs.Written.{Wrote-weaker}
use Rattle.qecode_commands.proofs.Compared.{compared}
use Rattle.qecode_commands.proofs.gap.compare_games.Goals as goal

pub returns-in-Ok-clause-wrote : goal.returns-in-Ok-clause-wrote
returns-in-Ok-clause-wrote g c =
    let both = c.in-Ok.both in
    Wrote-weaker _ _ _ _ c.write_both.result _ _
    (compared c.args.best.now c.args.worst.now both.best.outcome both.worst.outcome both.best.optimum both.worst.optimum both.best.arena both.worst.arena _
    c.in-Ok.ensures.best c.in-Ok.ensures.worst c.in-Ok.ensures.lines) c.write_both.ensures.wrote
