use Rattle.proof_tree.specs.Shape.{tree_of}
use Rattle.proof_text.proofs.LinesRead.{certificate_written}
use Rattle.proof_text.proofs.write.write_cert.Goals as goal

pub returns : goal.returns
returns c =
    certificate_written c.args.cert.now.version c.args.cert.now.outcome c.args.cert.now.optimum (tree_of c.args.cert.now.root) c.new-out.result.items c.put_version.new.out.items c.put_outcome.new.out.items c.put_node.new.out.items
    c.new-out.ensures.items c.in_ok-put_version.ensures c.in_ok-put_outcome.ensures c.in_ok-put_node.ensures
