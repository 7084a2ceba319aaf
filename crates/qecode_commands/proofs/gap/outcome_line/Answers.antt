use Rattle.std.proofs.Common.{◌≡◌, rules}
use Rattle.std.specs.Fmt.{signed_decimal}
use Rattle.std.proofs.lemmas.Result.{IfOk-weaker}
use Rattle.qecode_commands.proofs.gap.outcome_line.Goals as goal

pub returns-in-Some : goal.returns-in-Some
returns-in-Some c =
    let digits : c.format-digits.result.now ≡ signed_decimal c.in-Some.value = search rules in
    rw (c.in-True.is, c.in-Some.is) (IfOk-weaker c.format.result _ _ (λ text e. rw digits at e) c.format.ensures.ok)

pub returns-in-None : goal.returns-in-None
returns-in-None c = rw (c.in-True.is, c.in-None.is) c.format-in-None.ensures.ok

pub returns-in-False : goal.returns-in-False
returns-in-False c = rw c.in-False.is c.format-in-False.ensures.ok

pub returns-in-Open : goal.returns-in-Open
returns-in-Open c = rw c.in-Open.is c.format-in-Open.ensures.ok
