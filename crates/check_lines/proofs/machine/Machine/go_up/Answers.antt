use Rattle.std.proofs.Common.{subst, sym, Some}
use Rattle.check_lines.specs.Telling.{Tells}
use Rattle.check_lines.proofs.machine.Machine.go_up.Goals as goal

pub returns-in-Some-Next-clause-tells : goal.returns-in-Some-Next-clause-tells
returns-in-Some-Next-clause-tells c = λ n d es v p.
    let l = c.leave.ensures.left n d es v p in
    subst (λ q. Tells c.close_part.new.self (Some q)) (sym l.ledger) (c.close_part.ensures.tells n d l.outer l.seen l.part)
