use Rattle.proof_text.proofs.WholeLines.{branch_reads}
use Rattle.proof_text.proofs.whole_line.branch.Goals as goal

pub returns : goal.returns
returns c =
    let o = c.in-Ok.ensures.ok in
    branch_reads c.in-Ok.x c.args.text.now c.in-Some.rest.now c.in-Ok.rest.now c.in-Some.ensures o.0 o.1
