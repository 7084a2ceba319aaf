use Rattle.std.proofs.Common.{[]}
use Rattle.proof_text.specs.Symbols.{node}
use Rattle.proof_text.proofs.Openings.{opened}
use Rattle.proof_text.proofs.letters.open_node.Goals as goal

pub returns : goal.returns
returns c = opened c.args.version c.args.nesting (node c.args.version c.args.nesting) [] c.args.byte c.node_letter.result c.requires c.node_letter.ensures
