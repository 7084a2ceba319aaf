use Rattle.std.proofs.Common.{◌≤◌, sym, subst, length, arith}
use Rattle.dense_close.specs.Memory.{Memory, IsAsSeen}
use Rattle.dense_close.proofs.Found.{inside_exist}
use Rattle.dense_close.proofs.Remembered.{settled_awake, closed_keeps, box_before}
use Rattle.dense_close.proofs.closer.close_all.Goals as goal

pub clear-requires-clause-exist : goal.clear-requires-clause-exist
clear-requires-clause-exist c =
    let t = c.args.task.now in
    let h = c.settle-closed.ensures.list in
    inside_exist t.span.first t.span.end _ c.settle-closed.new.list.queue (subst (λ n. t.span.end ≤ n) (sym h.count) t.span_is.within) h.inside

pub settle-closed-requires-clause-settled : goal.settle-closed-requires-clause-settled
settle-closed-requires-clause-settled c =
    let t = c.args.task.now in
    let g = t.problem.now in
    let m = c.present.result.now in
    let seen = subst (λ (m : Memory). IsAsSeen (length g.variables) t.taking g m c.args.remains.now.box) (sym c.present.ensures) c.begin.ensures.seen in
    settled_awake t.taking g c.known.ensures t.span.first t.span.end m c.wake_pending.new.list c.args.remains.now.box c.requires.declared seen c.wake_pending.ensures.woken

pub end-requires-clause-keeps : goal.end-requires-clause-keeps
end-requires-clause-keeps c =
    let t = c.args.task.now in
    closed_keeps t.taking t.problem.now c.known.ensures t.from t.stop t.span.first t.span.end c.args.remains.now.box c.settle-closed.new.remains.box c.requires.declared t.span_is c.if-closed.ensures.answer

pub end-requires-clause-at : goal.end-requires-clause-at
end-requires-clause-at c = omega (arith, c.mark-at.ensures, c.settle-closed.ensures.past.longer)

pub end-requires-clause-seen : goal.end-requires-clause-seen
end-requires-clause-seen c =
    let t = c.args.task.now in
    let g = t.problem.now in
    subst (λ box. IsAsSeen (length g.variables) t.taking g c.begin.new.self.present box) (sym (box_before c.args.remains.now c.settle-closed.new.remains c.settle-closed.ensures.past c.mark-at.result.at c.mark-at.ensures)) c.begin.ensures.seen
