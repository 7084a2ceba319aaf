use Rattle.std.proofs.lemmas.Result.{IfOk-weaker}
use Rattle.qecode_commands.proofs.Compared.{lines_are}
use Rattle.qecode_commands.proofs.gap.outcome_lines.Goals as goal

pub returns : goal.returns
returns c =
    IfOk-weaker c.format.result _ _
    (λ text e. lines_are c.args.best.now.outcome c.args.worst.now.outcome c.args.best.now.optimum c.args.worst.now.optimum _ _ _
    c.in_ok-first.ensures c.in_ok-second.ensures (rw (c.as_str-best.ensures.value, c.as_str-worst.ensures.value) at e)) c.format.ensures.ok
