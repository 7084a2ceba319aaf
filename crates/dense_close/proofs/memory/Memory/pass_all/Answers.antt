use Rattle.dense_close.proofs.Remembered.{settled_more}
use Rattle.dense_close.proofs.memory.Memory.pass_all.Goals as goal

pub returns : goal.returns
returns c =
    let t = c.args.task.now in
    let i = c.loop-k.invariant in
    λ box d p keeps. settled_more t.taking t.problem.now c.known.ensures t.span.first t.span.end c.args.self.now c.loop-k.self box d p keeps i.seen i.count i.flags
