use Rattle.dense_close.proofs.AtMost.{item_own, cut_narrows}
use Rattle.dense_close.proofs.Narrowed.{others_told}
use Rattle.dense_close.proofs.Own.{own_within}
use Rattle.dense_close.proofs.bounding.bound_variable.Goals as goal

pub cut_far-requires-clause-x : goal.cut_far-requires-clause-x
cut_far-requires-clause-x c =
    let r = c.constraint.result.now in
    let at = c.requires.place r c.constraint.ensures in
    own_within c.args.task.now.problem.now c.known.ensures c.args.c.0 r c.args.remains.now.box c.constraint.ensures c.requires.declared c.args.x.0 (item_own r.args 1 at.place c.args.x at.item)

pub returns-then-cut_far-clause-narrowed : goal.returns-then-cut_far-clause-narrowed
returns-then-cut_far-clause-narrowed c =
    let t = c.args.task.now in
    let r = c.constraint.result.now in
    let at = c.requires.place r c.constraint.ensures in
    cut_narrows t.taking t.problem.now t.from t.stop t.span.first t.span.end c.args.c.0 c.args.x.0 r c.args.remains.now.box c.cut_far.new.remains.box t.span_is c.requires.inside c.constraint.ensures (item_own r.args 1 at.place c.args.x at.item)
    (c.requires.taken r c.constraint.ensures) c.cut_far.ensures.cut

pub returns-then-cut_far-clause-others : goal.returns-then-cut_far-clause-others
returns-then-cut_far-clause-others c =
    let t = c.args.task.now in
    others_told t.taking t.problem.now t.index.now t.span.first t.span.end c.args.c.0 c.args.x.0 c.args.list.now c.wake_others.new.list c.args.remains.now.box c.cut_far.new.remains.box t.index_is c.cut_far.ensures.cut c.wake_others.ensures.kept c.wake_others.ensures.woken c.requires.others
