use Rattle.lemma_reasons.proofs.Asking.{asked}
use Rattle.lemma_reasons.proofs.kept.is_kept.Goals as goal

pub is_rule_entailed-requires-clause-asked : goal.is_rule_entailed-requires-clause-asked
is_rule_entailed-requires-clause-asked c =
    asked c.args.aim.now.problem.now c.args.store.now.box c.args.c.0 c.constraint-rule.result.now c.known.ensures.constraints c.requires.left c.constraint-rule.ensures

pub entailed_by_sums-requires : goal.entailed_by_sums-requires
entailed_by_sums-requires c =
    asked c.args.aim.now.problem.now c.args.store.now.box c.args.c.0 c.constraint-rule.result.now c.known.ensures.constraints c.requires.left c.constraint-rule.ensures
