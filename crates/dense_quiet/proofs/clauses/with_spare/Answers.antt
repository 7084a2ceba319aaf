use Rattle.std.proofs.Common.{◌∙◌, sym, subst}
use Rattle.dense_quiet.specs.Clauses.{IsSpare, FoundTells}
use Rattle.dense_quiet.proofs.ClauseLaws.{two_spare}
use Rattle.dense_quiet.proofs.clauses.with_spare.Goals as goal

pub returns-else-is_same : goal.returns-else-is_same
returns-else-is_same c =
    let r = c.args.rule.now in
    let box = c.args.store.now.box in
    let one : IsSpare r box c.in-Spare.other = subst (λ f. FoundTells f r box) c.in-Spare.is c.requires.found in
    two_spare r box c.requires.meaning c.in-Spare.other c.args.item one c.requires.spare (sym c.is_same.ensures ∙ c.if-is_same.false)
