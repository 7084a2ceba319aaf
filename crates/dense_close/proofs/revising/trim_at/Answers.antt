use Rattle.std.proofs.Common.{◌≡◌, ◌<◌, subst}
use Rattle.fd_store.specs.Held.{count_left}
use Rattle.dense_close.specs.Cutting.{HasCut}
use Rattle.dense_close.proofs.Trimmed.{trimmed, untrimmed}
use Rattle.dense_close.proofs.Narrowed.{others_woken}
use Rattle.dense_close.proofs.Own.{own_within}
use Rattle.dense_close.proofs.revising.trim_at.Goals as goal

pub cut_advised-requires-clause-x : goal.cut_advised-requires-clause-x
cut_advised-requires-clause-x c =
    let r = c.constraint.result.now in
    own_within c.args.task.now.problem.now c.known.ensures c.args.c.0 r c.args.remains.now.box c.constraint.ensures c.requires.declared c.args.x.0 (c.requires.own r c.constraint.ensures)

pub returns-then-cut_advised-clause-others : goal.returns-then-cut_advised-clause-others
returns-then-cut_advised-clause-others c =
    let t = c.args.task.now in
    others_woken t.taking t.problem.now t.index.now t.span.first t.span.end c.args.c.0 c.args.x.0 c.args.queue.now c.wake.new.list c.args.remains.now.box c.cut_advised.new.remains.box t.index_is c.cut_advised.ensures.cut c.wake.ensures.kept c.wake.ensures.woken c.requires.others

pub returns-then-cut_advised-clause-looked : goal.returns-then-cut_advised-clause-looked
returns-then-cut_advised-clause-looked c =
    let t = c.args.task.now in
    let r = c.constraint.result.now in
    let less : count_left c.cut_advised.new.remains.box < count_left c.args.remains.now.box = subst (λ b. HasCut b c.args.remains.now.box c.cut_advised.new.remains.box) c.if-cut_advised.true c.cut_advised.ensures.gone in
    trimmed t.taking t.problem.now t.index.now t.span.first t.span.end c.args.c.0 c.args.x.0 r c.args.queue.now c.wake.new.list c.args.remains.now.box c.cut_advised.new.remains.box t.index_is c.constraint.ensures (c.requires.own r c.constraint.ensures) c.requires.inside c.wake.ensures.kept c.wake.ensures.woken less

pub returns-clause-looked : goal.returns-clause-looked
returns-clause-looked c =
    let t = c.args.task.now in
    let now = c.cut_advised.new.remains.box in
    let same : now ≡ c.args.remains.now.box = subst (λ b. HasCut b c.args.remains.now.box now) c.if-cut_advised.false c.cut_advised.ensures.gone in
    untrimmed t.taking t.problem.now c.args.c.0 c.args.queue.now c.args.remains.now.box now same
