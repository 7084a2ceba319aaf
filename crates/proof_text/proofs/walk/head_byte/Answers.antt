use Rattle.proof_text.proofs.Walking.{head_more, head_chosen, head_whole}
use Rattle.proof_text.proofs.walk.head_byte.Goals as goal

pub returns-in-More-clause-goes : goal.returns-in-More-clause-goes
returns-in-More-clause-goes c = head_more c.args.tree.now c.args.front c.in-More.front c.args.byte (c.in-More.ensures c.args.tree.now.version)

pub returns-in-Chosen-clause-goes : goal.returns-in-Chosen-clause-goes
returns-in-Chosen-clause-goes c = head_chosen c.args.tree.now c.in-Chosen.version c.args.front c.args.byte (c.in-Chosen.ensures c.args.tree.now.version)

pub returns-in-More-clause-fits : goal.returns-in-More-clause-fits
returns-in-More-clause-fits c =
    let goes = c.in-More.ensures c.args.tree.now.version in
    goes.2

pub returns-in-Whole-clause-goes : goal.returns-in-Whole-clause-goes
returns-in-Whole-clause-goes c = head_whole c.args.tree.now c.args.front c.args.byte c.in-Whole.outcome c.in-Whole.optimum (c.in-Whole.ensures c.args.tree.now.version)
