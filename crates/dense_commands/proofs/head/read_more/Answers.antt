use Rattle.std.proofs.Common.{rules, arith}
use Rattle.qc_io.specs.declared.shelf.Failed.{Failed}
use Rattle.qc_io.proofs.Front.{front_filled}
use Rattle.dense_commands.proofs.head.read_more.Goals as goal

pub returns-in-Ok-clause-front : goal.returns-in-Ok-clause-front
returns-in-Ok-clause-front g c = λ front.
    front_filled Failed _ c.args.head.now c.read_at.new.into _ c.args.filled c.in-Ok.count (omega (arith, c.requires)) (search rules) front c.in-Ok.ensures.bytes
