use Rattle.lemma_reasons.proofs.Asking.{asked}
use Rattle.lemma_reasons.proofs.reasons.rule_shows.Goals as goal

pub is_falsified-requires : goal.is_falsified-requires
is_falsified-requires c =
    asked c.args.aim.now.problem.now c.args.store.now.box c.args.c.0 c.constraint-rule.result.now c.known.ensures.constraints c.requires c.constraint-rule.ensures
