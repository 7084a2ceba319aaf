use Rattle.lemma_ground.proofs.Asking.{asked}
use Rattle.lemma_ground.proofs.boxes.Boxes.refutes.Goals as goal

pub refutes-requires-clause-asked : goal.refutes-requires-clause-asked
refutes-requires-clause-asked c =
    λ rule e. asked c.self.inside.problem.now c.self.inside.store.box c.args.c.0 rule c.known.ensures c.self.invariant.whole.declared c.self.invariant.whole.full e
