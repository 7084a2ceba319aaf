use Rattle.std.proofs.Common.{subst, not}
use Rattle.prop_bool.specs.Findings.{IsFinding}
use Rattle.prop_bool.proofs.Removing.{lost_one}
use Rattle.prop_bool.proofs.acting.act.Goals as goal

pub returns-in_ok-lose-in-Loses-clause-answer : goal.returns-in_ok-lose-in-Loses-clause-answer
returns-in_ok-lose-in-Loses-clause-answer c =
    let r = c.args.asked.rule.now in
    let box = c.args.store.now.box in
    let f = subst (λ f. IsFinding f r box) c.in-Loses.is c.requires.found in
    let e = c.in_ok-lose-in-Loses.ensures in
    lost_one r box c.lose.new.store.box c.in-Loses.x (not c.in-Loses.value) c.args.steps.now c.lose.new.steps c.requires.fits.full f.2 e.content e.grown
