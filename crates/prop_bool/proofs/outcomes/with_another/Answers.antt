use Rattle.std.proofs.Common.{subst}
use Rattle.prop_bool.specs.Findings.{StandsAny}
use Rattle.prop_bool.proofs.Adding.{outcome_holds, outcome_fails, outcome_held, outcome_unfixed, outcome_first}
use Rattle.prop_bool.proofs.outcomes.with_another.Goals as goal

pub returns-in-Holds : goal.returns-in-Holds
returns-in-Holds c = λ ls h. outcome_holds c.args.store.now.box ls c.args.literal c.in-Holds.ensures

pub returns-in-Fails : goal.returns-in-Fails
returns-in-Fails c = λ ls h. outcome_fails c.args.outcome c.args.store.now.box ls c.args.literal c.in-Fails.ensures h

pub returns-in-Holds-outcome : goal.returns-in-Holds-outcome
returns-in-Holds-outcome c =
    λ ls h. outcome_held c.args.store.now.box ls c.args.literal (subst (λ s. StandsAny s c.args.store.now.box ls) c.in-Holds-outcome.is h)

pub returns-in-Fails-outcome : goal.returns-in-Fails-outcome
returns-in-Fails-outcome c =
    λ ls h. outcome_first c.args.store.now.box ls c.args.literal c.in-Unfixed.ensures (subst (λ s. StandsAny s c.args.store.now.box ls) c.in-Fails-outcome.is h)

pub returns-in-Unfixed-outcome : goal.returns-in-Unfixed-outcome
returns-in-Unfixed-outcome c =
    λ ls h. outcome_unfixed c.args.store.now.box ls c.args.literal c.in-Unfixed.ensures (subst (λ s. StandsAny s c.args.store.now.box ls) c.in-Unfixed-outcome.is h)
