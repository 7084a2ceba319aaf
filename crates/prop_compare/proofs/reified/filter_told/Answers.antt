use Rattle.std.proofs.Common.{rules, true, false}
use Rattle.std.proofs.lemmas.Int.{to_z-of_z}
use mir.Val.{SFits}
use mir.Syntax.{w64}
use Rattle.qc_model.specs.Refuted.{left_to}
use Rattle.prop_compare.proofs.Decided.{one_truth}
use Rattle.prop_compare.proofs.Told.{fixed_pair, fixed_tested}
use Rattle.prop_compare.proofs.reified.filter_told.Goals as goal

pub compare-requires-clause-pair : goal.compare-requires-clause-pair
compare-requires-clause-pair c =
    let box = c.args.store.now.box in
    let t = c.requires.telling in
    let low_fits : SFits w64 c.least.result = search rules in
    let told = one_truth (left_to box c.args.r) c.least.result true c.in_default.ensures.none t.truth c.least.ensures (simp to_z-of_z at c.if-least-gt0.true) in
    fixed_pair c.args.asked.problem.now c.args.asked.rule.now box c.args.comparison c.args.a c.args.b c.args.r true t told

pub compare-requires-clause-tested : goal.compare-requires-clause-tested
compare-requires-clause-tested c =
    let box = c.args.store.now.box in
    let t = c.requires.telling in
    let low_fits : SFits w64 c.least.result = search rules in
    let told = one_truth (left_to box c.args.r) c.least.result true c.in_default.ensures.none t.truth c.least.ensures (simp to_z-of_z at c.if-least-gt0.true) in
    fixed_tested c.args.asked.problem.now c.args.asked.rule.now box c.args.comparison c.args.a c.args.b c.args.r true t told

pub contrast-requires-clause-pair : goal.contrast-requires-clause-pair
contrast-requires-clause-pair c =
    let box = c.args.store.now.box in
    let t = c.requires.telling in
    let low_fits : SFits w64 c.least.result = search rules in
    let told = one_truth (left_to box c.args.r) c.least.result false c.in_default.ensures.none t.truth c.least.ensures (simp to_z-of_z at c.if-least-gt0.false) in
    fixed_pair c.args.asked.problem.now c.args.asked.rule.now box c.args.comparison c.args.a c.args.b c.args.r false t told

pub contrast-requires-clause-tested : goal.contrast-requires-clause-tested
contrast-requires-clause-tested c =
    let box = c.args.store.now.box in
    let t = c.requires.telling in
    let low_fits : SFits w64 c.least.result = search rules in
    let told = one_truth (left_to box c.args.r) c.least.result false c.in_default.ensures.none t.truth c.least.ensures (simp to_z-of_z at c.if-least-gt0.false) in
    fixed_tested c.args.asked.problem.now c.args.asked.rule.now box c.args.comparison c.args.a c.args.b c.args.r false t told
