use Rattle.std.proofs.Common.{◌≡◌, ◌<◌, subst}
use Rattle.qc_model.specs.Domains.{declared_box}
use Rattle.fd_store.specs.Held.{count_left}
use Rattle.dense_close.specs.Cutting.{HasCut}
use Rattle.dense_close.proofs.Looked.{looked_cut, looked_spared}
use Rattle.dense_close.proofs.Narrowed.{others_woken}
use Rattle.dense_close.proofs.Own.{own_within}
use Rattle.dense_close.proofs.revising.revise_at.Goals as goal

pub cut_ends-requires-clause-x : goal.cut_ends-requires-clause-x
cut_ends-requires-clause-x c =
    let r = c.constraint.result.now in
    own_within c.args.task.now.problem.now c.known.ensures c.args.c.0 r c.args.remains.now.box c.constraint.ensures c.requires.declared c.args.x.0 (c.requires.own r c.constraint.ensures)

pub returns-then-cut_ends-clause-others : goal.returns-then-cut_ends-clause-others
returns-then-cut_ends-clause-others c =
    let t = c.args.task.now in
    others_woken t.taking t.problem.now t.index.now t.span.first t.span.end c.args.c.0 c.args.x.0 c.args.list.now c.wake.new.list c.args.remains.now.box c.cut_ends.new.remains.box t.index_is c.cut_ends.ensures.cut c.wake.ensures.kept c.wake.ensures.woken c.requires.others

pub returns-then-cut_ends-clause-looked : goal.returns-then-cut_ends-clause-looked
returns-then-cut_ends-clause-looked c full =
    let t = c.args.task.now in
    let r = c.constraint.result.now in
    let less : count_left c.cut_ends.new.remains.box < count_left c.args.remains.now.box = subst (λ b. HasCut b c.args.remains.now.box c.cut_ends.new.remains.box) c.if-cut_ends.true c.cut_ends.ensures.gone in
    looked_cut t.taking t.problem.now t.index.now t.span.first t.span.end c.args.c.0 c.args.x.0 r c.args.list.now c.wake.new.list c.args.remains.now.box c.cut_ends.new.remains.box t.index_is c.constraint.ensures (c.requires.own r c.constraint.ensures) c.requires.inside c.wake.ensures.kept c.wake.ensures.woken less

pub returns-clause-looked : goal.returns-clause-looked
returns-clause-looked c full =
    let t = c.args.task.now in
    let r = c.constraint.result.now in
    let now = c.cut_ends.new.remains.box in
    let same : now ≡ c.args.remains.now.box = subst (λ b. HasCut b c.args.remains.now.box now) c.if-cut_ends.false c.cut_ends.ensures.gone in
    let d = c.cut_ends.ensures.cut.fewer (declared_box t.problem.now) c.requires.declared in
    looked_spared t.taking t.problem.now c.known.ensures c.args.c.0 c.args.x.0 c.args.list.now c.args.remains.now.box now d full
    (own_within t.problem.now c.known.ensures c.args.c.0 r now c.constraint.ensures d c.args.x.0 (c.requires.own r c.constraint.ensures)) same
    (c.cut_ends.ensures.least c.if-cut_ends.false full) (c.cut_ends.ensures.greatest c.if-cut_ends.false full)
