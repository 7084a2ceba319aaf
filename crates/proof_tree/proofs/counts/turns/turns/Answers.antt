use Rattle.proof_tree.specs.Shape.{tree_of}
use Rattle.proof_tree.proofs.CountsByCases.{few_turns}
use Rattle.proof_tree.proofs.counts.turns.turns.Goals as goal

pub node_turns-requires : goal.node_turns-requires
node_turns-requires c = few_turns (tree_of c.args.node.now) c.requires.few
