use Rattle.std.proofs.Common.{subst, take, ◌+◌, ◌++◌, [], ◌∷◌}
use Rattle.prop_bool.specs.declared.literals.Standing.TheVariants.{Holds}
use Rattle.prop_bool.specs.Findings.{StandsAny}
use Rattle.prop_bool.specs.Literals.{is_truth_at, literals}
use Rattle.prop_bool.proofs.Adding.{outcome_next, holding_more, literal_there}
use Rattle.prop_bool.proofs.outcomes.outcome_of.Goals as goal

pub with_another-outcome-requires : goal.with_another-outcome-requires
with_another-outcome-requires c =
    literal_there (is_truth_at c.args.store.now.box) (literals c.args.plain.now c.args.negated.now) c.loop-k.k c.literal_at-literal.result c.requires.truths c.literal_at-literal.ensures

pub returns-in-Holds : goal.returns-in-Holds
returns-in-Holds c =
    let box = c.args.store.now.box in
    let ls = literals c.args.plain.now c.args.negated.now in
    let l = c.literal_at-literal.result in
    let p = c.with_another-outcome.ensures (take c.loop-k.k ls) c.loop-k.invariant in
    holding_more box ls (c.loop-k.k + 1)
    (outcome_next Holds box ls c.loop-k.k l c.literal_at-literal.ensures (subst (λ s. StandsAny s box (take c.loop-k.k ls ++ l ∷ [])) c.in-Holds.is p))

pub loop-k-preserved : goal.loop-k-preserved
loop-k-preserved c =
    let box = c.args.store.now.box in
    let ls = literals c.args.plain.now c.args.negated.now in
    let l = c.literal_at-literal.result in
    let p = c.with_another-outcome.ensures (take c.loop-k.k ls) c.loop-k.invariant in
    outcome_next c.with_another-outcome.result box ls c.loop-k.k l c.literal_at-literal.ensures p
