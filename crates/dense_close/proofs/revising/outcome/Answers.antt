use Rattle.std.proofs.Common.{◌∙◌, sym}
use Rattle.dense_close.proofs.Cuts.{asked}
use Rattle.dense_close.proofs.Looked.{settled_all, settled_stable, lost_by}
use Rattle.dense_close.proofs.revising.outcome.Goals as goal

pub refutes-requires-clause-asked : goal.refutes-requires-clause-asked
refutes-requires-clause-asked c = λ r e. asked c.args.task.now.problem.now c.known.ensures c.args.store.now.box c.requires.declared c.requires.full c.args.c.0 r e

pub returns-then-look-2 : goal.returns-then-look-2
returns-then-look-2 c = λ r was box e h.
    let t = c.args.task.now in (
      h.same c.if-look.false,
      h.listed c.if-look.false,
      settled_all t.taking t.problem.now t.span.first t.span.end c.args.c.0 c.args.list.now c.args.store.now.box c.requires.others
          (settled_stable t.taking t.problem.now c.args.c.0 r c.args.list.now c.args.store.now.box e (h.spared c.if-look.false r e) (h.stands c.if-look-2.true c.if-look.false r e)),
    )

pub returns-then-refutes : goal.returns-then-refutes
returns-then-refutes c = λ r was box e h.
    let t = c.args.task.now in
    lost_by t.taking t.problem.now c.known.ensures t.from t.stop t.span.first t.span.end c.args.c.0 r c.args.store.now.box t.span_is c.requires.inside e c.requires.declared (c.requires.some r e) (sym (c.refutes.ensures r e) ∙ c.if-refutes.true)

pub returns-else-refutes : goal.returns-else-refutes
returns-else-refutes c = λ r was box e h.
    let t = c.args.task.now in (
      h.same c.if-look.false,
      h.listed c.if-look.false,
      settled_all t.taking t.problem.now t.span.first t.span.end c.args.c.0 c.args.list.now c.args.store.now.box c.requires.others
          (settled_stable t.taking t.problem.now c.args.c.0 r c.args.list.now c.args.store.now.box e (h.spared c.if-look.false r e) (sym (c.refutes.ensures r e) ∙ c.if-refutes.false)),
    )
