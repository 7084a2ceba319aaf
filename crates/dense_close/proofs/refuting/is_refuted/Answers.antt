use Rattle.dense_close.proofs.Cuts.{asked}
use Rattle.dense_close.proofs.Remembered.{settled_stands}
use Rattle.std.proofs.Common.{sym}
use Rattle.dense_close.proofs.refuting.is_refuted.Goals as goal

pub refutes-requires-clause-asked : goal.refutes-requires-clause-asked
refutes-requires-clause-asked c = λ r e. asked c.args.task.now.problem.now c.known.ensures c.args.store.now.box c.requires.declared c.requires.full c.args.c.0 r e

pub returns-then-is_settled : goal.returns-then-is_settled
returns-then-is_settled c = λ r e.
    (let t = c.args.task.now in
    sym (settled_stands t.taking t.problem.now c.known.ensures c.args.memory.now c.args.store.now.box c.requires.declared c.requires.full (c.requires.seen c.if-seen.true) c.args.c.0 r e (c.is_settled.ensures.settled c.if-is_settled.true) (c.is_settled.ensures.some c.if-is_settled.true r e)))
