use Rattle.proof_text.proofs.Walking.{next_case}
use Rattle.proof_text.proofs.walk.open_after.Goals as goal

pub returns-clause-opens : goal.returns-clause-opens
returns-clause-opens c =
    let t = c.args.tree.now in
    let i = c.in-Some in
    next_case t.version t.nesting i.level t.levels.marks c.args.byte c.open_branch.result (i.ensures.same t.version) (i.ensures.open t.version) c.open_branch.ensures
