use Rattle.std.proofs.Common.{subst}
use Rattle.prop_compare.specs.Compared.{IsTested}
use Rattle.prop_compare.specs.Telling.{refuting}
use Rattle.prop_compare.specs.declared.comparing.Comparison.{Comparison}
use Rattle.prop_compare.proofs.comparing.compare.Goals as goal

pub equal-requires-clause-tested : goal.equal-requires-clause-tested
equal-requires-clause-tested c =
    let P : Comparison → Type 0 = λ k. IsTested c.args.asked.rule.now c.args.store.now.box c.args.a c.args.b (refuting k) in
    subst P c.in-Equal.is c.requires.tested

pub different-requires-clause-tested : goal.different-requires-clause-tested
different-requires-clause-tested c =
    let P : Comparison → Type 0 = λ k. IsTested c.args.asked.rule.now c.args.store.now.box c.args.a c.args.b (refuting k) in
    subst P c.in-Different.is c.requires.tested

pub ordered-requires-clause-tested : goal.ordered-requires-clause-tested
ordered-requires-clause-tested c =
    let P : Comparison → Type 0 = λ k. IsTested c.args.asked.rule.now c.args.store.now.box c.args.a c.args.b (refuting k) in
    subst P c.in-AtMost.is c.requires.tested

pub ordered-requires-in-Below-clause-tested : goal.ordered-requires-in-Below-clause-tested
ordered-requires-in-Below-clause-tested c =
    let P : Comparison → Type 0 = λ k. IsTested c.args.asked.rule.now c.args.store.now.box c.args.a c.args.b (refuting k) in
    subst P c.in-Below.is c.requires.tested
