use Rattle.std.proofs.Common.{subst}
use Rattle.prop_compare.specs.Compared.{IsTested}
use Rattle.prop_compare.specs.Telling.{entailing}
use Rattle.prop_compare.specs.declared.comparing.Comparison.{Comparison}
use Rattle.prop_compare.proofs.Sides.{pair_flipped}
use Rattle.prop_compare.proofs.comparing.contrast.Goals as goal

pub different-requires-clause-tested : goal.different-requires-clause-tested
different-requires-clause-tested c =
    let P : Comparison → Type 0 = λ k. IsTested c.args.asked.rule.now c.args.store.now.box c.args.a c.args.b (entailing k) in
    subst P c.in-Equal.is c.requires.tested

pub equal-requires-clause-tested : goal.equal-requires-clause-tested
equal-requires-clause-tested c =
    let P : Comparison → Type 0 = λ k. IsTested c.args.asked.rule.now c.args.store.now.box c.args.a c.args.b (entailing k) in
    subst P c.in-Different.is c.requires.tested

pub ordered-requires-clause-pair : goal.ordered-requires-clause-pair
ordered-requires-clause-pair c = pair_flipped c.args.asked.problem.now c.args.asked.rule.now c.args.store.now.box c.args.a c.args.b c.requires.pair

pub ordered-requires-clause-tested : goal.ordered-requires-clause-tested
ordered-requires-clause-tested c other f =
    let P : Comparison → Type 0 = λ k. IsTested c.args.asked.rule.now c.args.store.now.box c.args.a c.args.b (entailing k) in
    (subst P c.in-AtMost.is c.requires.tested) other (λ k h l. f k l h)

pub ordered-requires-in-Below-clause-pair : goal.ordered-requires-in-Below-clause-pair
ordered-requires-in-Below-clause-pair c = pair_flipped c.args.asked.problem.now c.args.asked.rule.now c.args.store.now.box c.args.a c.args.b c.requires.pair

pub ordered-requires-in-Below-clause-tested : goal.ordered-requires-in-Below-clause-tested
ordered-requires-in-Below-clause-tested c other f =
    let P : Comparison → Type 0 = λ k. IsTested c.args.asked.rule.now c.args.store.now.box c.args.a c.args.b (entailing k) in
    (subst P c.in-Below.is c.requires.tested) other (λ k h l. f k l h)
