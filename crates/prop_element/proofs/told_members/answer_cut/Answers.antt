use Rattle.std.proofs.Common.{true, false}
use Rattle.prop_element.proofs.Told.{answer_there, answer_goes, both_stay}
use Rattle.prop_element.proofs.told_members.answer_cut.Goals as goal

pub refutes_in-requires-clause-x : goal.refutes_in-requires-clause-x
refutes_in-requires-clause-x c = answer_there c.args.store.now.box c.args.x c.requires.both

pub returns-then-refutes_in-clause-some : goal.returns-then-refutes_in-clause-some
returns-then-refutes_in-clause-some c =
    answer_goes c.args.rule.now c.args.store.now.box c.args.x true c.refutes_in.result c.requires.both c.refutes_in.ensures c.if-refutes_in.true

pub returns-then-refutes_in-2-clause-some : goal.returns-then-refutes_in-2-clause-some
returns-then-refutes_in-2-clause-some c =
    answer_goes c.args.rule.now c.args.store.now.box c.args.x false c.refutes_in-2.result c.requires.both c.refutes_in-2.ensures c.if-refutes_in-2.true

pub returns-clause-none : goal.returns-clause-none
returns-clause-none c =
    both_stay c.args.rule.now c.args.store.now.box c.args.x c.refutes_in.result c.refutes_in-2.result c.requires.asked.full c.requires.both c.requires.none c.refutes_in.ensures c.if-refutes_in.false c.refutes_in-2.ensures c.if-refutes_in-2.false
