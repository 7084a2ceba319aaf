use Rattle.std.proofs.Common.{◌∙◌, false, refl}
use Rattle.qc_model.specs.Refuted.{left_to}
use Rattle.qc_refuter.proofs.Listed.{set_met, asked_outside, asked_of_none}
use Rattle.prop_entailed.proofs.members.some_other.Goals as goal

pub some_outside-requires-clause-set : goal.some_outside-requires-clause-set
some_outside-requires-clause-set c = set_met c.args.store.now.box c.args.args.now 1 c.in-Some.set.now c.requires.met c.in-Some.ensures

pub returns-in-None : goal.returns-in-None
returns-in-None c =
    let box = c.args.store.now.box in
    asked_of_none box c.args.args.now (left_to box c.args.arg) false c.in-None.ensures c.requires.open

pub returns-in-Some : goal.returns-in-Some
returns-in-Some c =
    let box = c.args.store.now.box in
    c.some_outside.ensures ∙ asked_outside box c.args.args.now c.in-Some.set.now (left_to box c.args.arg) false c.in-Some.ensures refl
