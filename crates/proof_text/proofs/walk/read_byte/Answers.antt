use Rattle.std.proofs.Common.{sym, subst}
use Rattle.proof_text.specs.declared.walk.At.{At}
use Rattle.proof_text.specs.Readings.{GoesOn}
use Rattle.proof_text.specs.Walks.{reading_of}
use Rattle.proof_text.proofs.walk.read_byte.Goals as goal

pub returns-in-Line-clause-goes : goal.returns-in-Line-clause-goes
returns-in-Line-clause-goes c =
    let t = c.args.tree.now in
    let went = c.line_byte.result in
    subst (λ (at : At). GoesOn (reading_of t at) c.args.byte (reading_of t went.0) went.1) (sym c.in-Line.is) (c.line_byte.ensures.goes t)
