use Rattle.prop_bool.specs.Literals.{literals}
use Rattle.prop_bool.proofs.Results.{refuted_true, closed_true, last_found, unfixed_values}
use Rattle.prop_bool.proofs.disjunctions.when_true.Goals as goal

pub returns-in-Free : goal.returns-in-Free
returns-in-Free c =
    closed_true c.args.problem.now c.args.rule.now (literals c.args.plain.now c.args.negated.now) c.args.head c.requires.says c.args.store.now.box c.requires.asked c.requires.holds c.in-Free.ensures

pub returns-in-Lost : goal.returns-in-Lost
returns-in-Lost c =
    refuted_true c.args.problem.now c.args.rule.now (literals c.args.plain.now c.args.negated.now) c.args.head c.requires.says c.args.store.now.box c.requires.asked c.requires.holds c.in-Lost.ensures

pub returns-in-Var : goal.returns-in-Var
returns-in-Var c =
    let ls = literals c.args.plain.now c.args.negated.now in
    let p = c.in-Last.ensures in
    last_found c.args.problem.now c.args.rule.now ls c.args.head c.requires.says c.args.store.now.box c.in-Var.x c.requires.asked (unfixed_values c.args.store.now.box c.in-Last.literal c.in-Var.x c.in-Var.is p.unfixed) c.in-Last.literal c.requires.holds p c.in-Var.is
