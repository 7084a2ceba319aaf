use Rattle.lemma_reasons.proofs.Asking.{asked}
use Rattle.lemma_reasons.proofs.kept.is_entailed.Goals as goal

pub is_rule_entailed-requires-clause-asked : goal.is_rule_entailed-requires-clause-asked
is_rule_entailed-requires-clause-asked c =
    asked c.args.problem.now c.args.store.now.box c.args.c.0 c.constraint.result.now c.known.ensures.constraints c.requires.left c.constraint.ensures
