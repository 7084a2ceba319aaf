use Rattle.lemma_reasons.proofs.Asking.{asked}
use Rattle.lemma_reasons.proofs.kept.is_refuted.Goals as goal

pub refutes-requires-clause-asked : goal.refutes-requires-clause-asked
refutes-requires-clause-asked c rule e = asked c.args.aim.now.problem.now c.args.store.now.box c.args.c.0 rule c.known.ensures.constraints c.requires.left e

pub refuted_by_sums-requires : goal.refuted_by_sums-requires
refuted_by_sums-requires c =
    asked c.args.aim.now.problem.now c.args.store.now.box c.args.c.0 c.constraint-rule.result.now c.known.ensures.constraints c.requires.left c.constraint-rule.ensures
