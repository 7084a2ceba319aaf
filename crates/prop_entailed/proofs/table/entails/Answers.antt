use Rattle.qc_refuter.proofs.Ready.{rule_met}
use Rattle.prop_entailed.proofs.table.entails.Goals as goal

pub entailed_plainly-requires-clause-met : goal.entailed_plainly-requires-clause-met
entailed_plainly-requires-clause-met c =
    rule_met c.args.problem.now c.args.store.now.box c.known.ensures.domains c.requires.declared c.requires.full c.args.rule.now c.requires.rule
