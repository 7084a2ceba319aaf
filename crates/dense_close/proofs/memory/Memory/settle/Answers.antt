use Rattle.std.proofs.Common.{sym, subst}
use Rattle.dense_close.specs.Memory.{Memory, IsMemory}
use Rattle.dense_close.proofs.Kept.{stamped}
use Rattle.dense_close.proofs.memory.Memory.settle.Goals as goal

pub returns : goal.returns
returns c =
    let t = c.args.task.now in
    let v = c.self.inside in
    λ box d p keeps.
    stamped t.taking t.problem.now (record { seen = v.seen.items; pending = v.pending.items; at = v.at }) c.args.at
    (subst (λ (m : Memory). IsMemory t.taking t.problem.now m) (sym c.self.view_is) (c.pass_all.ensures box d p keeps))
