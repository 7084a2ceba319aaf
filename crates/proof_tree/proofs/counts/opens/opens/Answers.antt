use Rattle.proof_tree.specs.Shape.{tree_of}
use Rattle.proof_tree.proofs.CountsByCases.{few_opens}
use Rattle.proof_tree.proofs.counts.opens.opens.Goals as goal

pub node_opens-requires : goal.node_opens-requires
node_opens-requires c = few_opens (tree_of c.args.node.now) c.requires.few
