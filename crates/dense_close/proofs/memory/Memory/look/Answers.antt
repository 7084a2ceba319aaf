use Rattle.std.proofs.Common.{◌<◌, ◌+◌}
use Rattle.dense_close.proofs.Remembered.{below_next, seen_more}
use Rattle.dense_close.proofs.memory.Memory.look.Goals as goal

pub next_unseen-x-requires-in-loop-x-clause-before : goal.next_unseen-x-requires-in-loop-x-clause-before
next_unseen-x-requires-in-loop-x-clause-before c =
    let t = c.args.task.now in
    let x = c.loop-x.x in
    seen_more t.taking t.problem.now t.index.now t.index_is (λ y. y < x) (λ y. y < x + 1) x c.loop-x.self c.look_at.new.self c.args.store.now.box c.loop-x.invariant.seen c.look_at.ensures (below_next x)
