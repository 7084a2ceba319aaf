use Rattle.std.proofs.Common.{sym, subst}
use Rattle.prop_bool.specs.Findings.{IsChance}
use Rattle.prop_bool.proofs.Adding.{chance_holds, chance_first, chance_other}
use Rattle.prop_bool.proofs.chances.with_literal.Goals as goal

pub returns-in-Holds : goal.returns-in-Holds
returns-in-Holds c = λ ls h. chance_holds c.args.store.now.box ls c.args.literal c.in-Holds.ensures

pub returns-in-Lost : goal.returns-in-Lost
returns-in-Lost c =
    λ ls h. chance_first c.args.store.now.box ls c.args.literal c.in-Unfixed.ensures (subst (λ s. IsChance s c.args.store.now.box ls) c.in-Lost.is h)

pub returns-else-is_same : goal.returns-else-is_same
returns-else-is_same c =
    λ ls h. chance_other c.args.store.now.box ls c.in-Last.last c.args.literal (subst (λ s. IsChance s c.args.store.now.box ls) c.in-Last.is h) c.in-Unfixed.ensures (sym c.if-is_same.ensures)
