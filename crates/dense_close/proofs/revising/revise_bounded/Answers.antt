use Rattle.std.proofs.Common.{◌≡◌, ◌<◌, subst}
use Rattle.fd_store.specs.Held.{count_left}
use Rattle.dense_close.specs.Cutting.{HasCut}
use Rattle.dense_close.proofs.Looked.{settled_all, settled_roomy}
use Rattle.dense_close.proofs.revising.revise_bounded.Goals as goal

pub returns-then-bound_all-clause-answer : goal.returns-then-bound_all-clause-answer
returns-then-bound_all-clause-answer c =
    let t = c.args.task.now in
    let r = c.constraint.result.now in
    let now = c.bound_all.new.remains.box in
    let list = c.bound_all.new.list in
    let less : count_left now < count_left c.args.remains.now.box = subst (λ b. HasCut b c.args.remains.now.box now) c.if-bound_all.true c.bound_all.ensures.gone in (
      c.bound_all.ensures.full,
      less,
      settled_all t.taking t.problem.now t.span.first t.span.end c.args.c.0 list now c.bound_all.ensures.others (settled_roomy t.taking t.problem.now c.args.c.0 r list now c.constraint.ensures (c.bound_all.ensures.spares r c.constraint.ensures)),
    )

pub returns-else-bound_all-clause-answer : goal.returns-else-bound_all-clause-answer
returns-else-bound_all-clause-answer c =
    let t = c.args.task.now in
    let r = c.constraint.result.now in
    let now = c.bound_all.new.remains.box in
    let list = c.bound_all.new.list in
    let same : now ≡ c.args.remains.now.box = subst (λ b. HasCut b c.args.remains.now.box now) c.if-bound_all.false c.bound_all.ensures.gone in (
      same,
      c.bound_all.ensures.listed c.if-bound_all.false,
      settled_all t.taking t.problem.now t.span.first t.span.end c.args.c.0 list now c.bound_all.ensures.others (settled_roomy t.taking t.problem.now c.args.c.0 r list now c.constraint.ensures (c.bound_all.ensures.spares r c.constraint.ensures)),
    )
