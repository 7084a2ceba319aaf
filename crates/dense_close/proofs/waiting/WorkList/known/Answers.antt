use Rattle.std.proofs.Common.{ap, length, arith}
use Rattle.dense_close.proofs.Room.{most, length_both}
use Rattle.dense_close.proofs.waiting.WorkList.known.Goals as goal

pub returns : goal.returns
returns c =
    let here = c.self.inside in
    omega (arith, here.early.ok.0, here.late.ok.0, length_both here.early.items here.late.items, c.self.invariant.few, most here.marks.items, ap (λ w. length w.marks) c.self.view_is, ap (λ w. length w.queue) c.self.view_is)
