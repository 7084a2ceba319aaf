use Rattle.proof_text.proofs.WholeLines.{horizon_reads}
use Rattle.proof_text.proofs.whole_line.horizon.Goals as goal

pub returns : goal.returns
returns c =
    let o = c.in-Ok.ensures.ok in
    horizon_reads c.in-Ok.k c.args.text.now c.in-Some.rest.now c.in-Ok.rest.now c.in-Some.ensures o.0 o.1 o.2
