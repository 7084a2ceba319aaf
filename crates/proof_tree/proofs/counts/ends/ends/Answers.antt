use Rattle.proof_tree.specs.Shape.{tree_of}
use Rattle.proof_tree.proofs.CountsByCases.{few_ends}
use Rattle.proof_tree.proofs.counts.ends.ends.Goals as goal

pub node_ends-requires : goal.node_ends-requires
node_ends-requires c = few_ends (tree_of c.args.node.now) c.requires.few
