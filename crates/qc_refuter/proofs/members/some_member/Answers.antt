use Rattle.std.proofs.Common.{◌∙◌}
use Rattle.qc_model.specs.Refuted.{left_to}
use Rattle.qc_refuter.specs.Met.{seen}
use Rattle.qc_refuter.proofs.Listed.{set_met, asked_inside, asked_outside, asked_of_none}
use Rattle.qc_refuter.proofs.members.some_member.Goals as goal

pub some_inside-requires-clause-set : goal.some_inside-requires-clause-set
some_inside-requires-clause-set c = set_met (seen c.args.view.now) c.args.args.now 1 c.in-Some.set.now c.requires.met c.in-Some.ensures

pub some_outside-requires-clause-set : goal.some_outside-requires-clause-set
some_outside-requires-clause-set c = set_met (seen c.args.view.now) c.args.args.now 1 c.in-Some.set.now c.requires.met c.in-Some.ensures

pub returns-in-None : goal.returns-in-None
returns-in-None c =
    let box = seen c.args.view.now in
    asked_of_none box c.args.args.now (left_to box c.args.arg) c.args.wanted c.in-None.ensures c.requires.open

pub returns-then-wanted : goal.returns-then-wanted
returns-then-wanted c =
    let box = seen c.args.view.now in
    c.some_inside.ensures ∙ asked_inside box c.args.args.now c.in-Some.set.now (left_to box c.args.arg) c.args.wanted c.in-Some.ensures c.if-wanted.true

pub returns-else-wanted : goal.returns-else-wanted
returns-else-wanted c =
    let box = seen c.args.view.now in
    c.some_outside.ensures ∙ asked_outside box c.args.args.now c.in-Some.set.now (left_to box c.args.arg) c.args.wanted c.in-Some.ensures c.if-wanted.false
