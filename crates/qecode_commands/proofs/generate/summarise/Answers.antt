use Rattle.qecode_commands.proofs.Written.{Wrote-weaker}
use Rattle.qecode_commands.proofs.Summarised.{summarised}
use Rattle.qecode_commands.proofs.generate.summarise.Goals as goal

pub returns-in-Ok-clause-wrote : goal.returns-in-Ok-clause-wrote
returns-in-Ok-clause-wrote g c =
    Wrote-weaker _ _ _ _ c.write_summary.result _ _
    (summarised c.args.problem.now c.args.flat.now.outcome c.args.flat.now.optimum c.args.flat.now.arena _ c.requires (rw (c.as_bytes.ensures.value, c.as_str.ensures.value) c.in-Ok.ensures)) c.write_summary.ensures.wrote
