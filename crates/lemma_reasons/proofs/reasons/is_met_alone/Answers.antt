use Rattle.std.proofs.Common.{arith}
use Rattle.lemma_reasons.proofs.Asking.{variable_open}
use Rattle.lemma_reasons.proofs.reasons.is_met_alone.Goals as goal

pub covers-requires : goal.covers-requires
covers-requires c = variable_open c.args.problem.now c.args.store.now.box c.args.literal.x.0 c.known.ensures.domains c.requires (omega arith)
