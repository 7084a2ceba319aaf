use Rattle.lemma_ground.proofs.Asking.{asked}
use Rattle.lemma_ground.proofs.filtered.ask.Goals as goal

pub filter-requires-clause-asked : goal.filter-requires-clause-asked
filter-requires-clause-asked c = λ rule e. asked c.args.problem.now c.args.store.now.box c.args.c.0 rule c.known.ensures c.requires.declared c.requires.full e
