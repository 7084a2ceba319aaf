use Rattle.qc_refuter.proofs.Ready.{rule_met}
use Rattle.lemma_reasons.proofs.picked.entailed_by_index.Goals as goal

pub entailed_by_index_met-requires : goal.entailed_by_index_met-requires
entailed_by_index_met-requires c =
    rule_met c.args.problem.now c.args.store.now.box c.known.ensures.domains c.requires.declared c.requires.full c.args.rule.now c.requires.rule
