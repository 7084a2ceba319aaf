use Rattle.std.proofs.Common.{sym}
use Rattle.prop_bool.specs.Literals.{literals}
use Rattle.prop_bool.proofs.Results.{closed_unfixed, head_holds, head_fails, unfixed_values}
use Rattle.prop_bool.proofs.Signs.{not_opposed}
use Rattle.prop_bool.proofs.disjunctions.when_unfixed.Goals as goal

pub returns-in-Holds : goal.returns-in-Holds
returns-in-Holds c =
    let box = c.args.store.now.box in
    let ls = literals c.args.plain.now c.args.negated.now in
    head_holds c.args.problem.now c.args.rule.now ls c.args.head c.requires.says box c.in-Var.x c.requires.asked (unfixed_values box c.args.head c.in-Var.x c.in-Var.is c.requires.unfixed) c.in-Var.is c.in-Holds.ensures

pub returns-in-Fails : goal.returns-in-Fails
returns-in-Fails c =
    let box = c.args.store.now.box in
    let ls = literals c.args.plain.now c.args.negated.now in
    head_fails c.args.problem.now c.args.rule.now ls c.args.head c.requires.says box c.in-Var.x c.requires.asked (unfixed_values box c.args.head c.in-Var.x c.in-Var.is c.requires.unfixed) c.in-Var.is c.in-Fails.ensures

pub returns-else-is_opposed_by : goal.returns-else-is_opposed_by
returns-else-is_opposed_by c =
    let box = c.args.store.now.box in
    let ls = literals c.args.plain.now c.args.negated.now in
    let u = c.in-Unfixed.ensures in
    closed_unfixed c.args.problem.now c.args.rule.now ls c.args.head c.requires.says box c.requires.asked c.requires.unfixed (not_opposed c.args.head c.args.plain.now c.args.negated.now (sym c.if-is_opposed_by.ensures)) u.0 u.1
