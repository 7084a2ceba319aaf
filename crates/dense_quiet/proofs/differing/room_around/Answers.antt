use Rattle.std.proofs.Common.{◌-◌, arith}
use Rattle.qc_refuter.specs.Full.{held}
use Rattle.dense_quiet.proofs.LeftAlone.{ends_around, ends_after}
use Rattle.dense_quiet.proofs.differing.room_around.Goals as goal

pub returns-then-e-low-2-clause-alone : goal.returns-then-e-low-2-clause-alone
returns-then-e-low-2-clause-alone c = λ z ds v d s a w. ends_around ds v d c.args.low c.args.e c.args.rooms.now c.args.last s a w (omega arith) (omega arith)

pub returns-clause-alone : goal.returns-clause-alone
returns-clause-alone c = λ z ds v d s a w.
    ends_after ds v d c.args.low c.args.e c.args.rooms.now c.args.last (c.args.e.high - c.args.low) c.room_before-room.result s a w (c.room_before-room.ensures.room (held ds v) w.widest) (omega arith) (omega arith)
