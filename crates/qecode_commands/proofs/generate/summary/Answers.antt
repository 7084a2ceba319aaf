use Rattle.std.proofs.Common.{◌≡◌, Some, None, rules}
use Rattle.std.specs.Fmt.{signed_decimal}
use Rattle.std.proofs.lemmas.Result.{IfOk-weaker}
use Rattle.proof_tree.specs.declared.tree.Outcome.TheVariants.{True, False, Open}
use Rattle.qecode_commands.proofs.Summarised.{summary_is}
use Rattle.qecode_commands.proofs.generate.summary.Goals as goal

pub returns-in-Some : goal.returns-in-Some
returns-in-Some c =
    let digits : c.format-digits.result.now ≡ signed_decimal c.in-Some.value = search rules in
    rw (c.in-True.is, c.in-Some.is) (IfOk-weaker c.format.result _ _
    (λ text e. summary_is c.args.problem.now True (Some c.in-Some.value) _ _ _ c.variables-variables.ensures c.constraints-constraints.ensures (rw digits at e)) c.format.ensures.ok)

pub returns-in-None : goal.returns-in-None
returns-in-None c =
    rw (c.in-True.is, c.in-None.is) (IfOk-weaker c.format-in-None.result _ _
    (λ text e. summary_is c.args.problem.now True None _ _ _ c.variables-variables.ensures c.constraints-constraints.ensures e) c.format-in-None.ensures.ok)

pub returns-in-False : goal.returns-in-False
returns-in-False c =
    rw c.in-False.is (IfOk-weaker c.format-in-False.result _ _
    (λ text e. summary_is c.args.problem.now False c.args.optimum _ _ _ c.variables-variables.ensures c.constraints-constraints.ensures e) c.format-in-False.ensures.ok)

pub returns-in-Open : goal.returns-in-Open
returns-in-Open c =
    rw c.in-Open.is (IfOk-weaker c.format-in-Open.result _ _
    (λ text e. summary_is c.args.problem.now (Open c.in-Open.turns) c.args.optimum _ _ _ c.variables-variables.ensures c.constraints-constraints.ensures e) c.format-in-Open.ensures.ok)
