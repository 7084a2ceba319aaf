use Rattle.std.proofs.Common.{◌∙◌, sym, arith}
use Rattle.lemma_reasons.proofs.Rows.{one_more_scope, scopes_hold, scopes_fail}
use Rattle.lemma_reasons.proofs.spans.goes_on.Goals as goal

pub loop-j-preserved : goal.loop-j-preserved
loop-j-preserved c =
    let a = c.args.aim.now in
    one_more_scope a.problem.now a.lemma.now c.args.store.now.box c.args.from c.loop-j.j c.loop-j.invariant (sym c.passes.ensures ∙ c.if-not-passes.false)

pub returns-then-not-passes : goal.returns-then-not-passes
returns-then-not-passes c =
    let a = c.args.aim.now in
    scopes_fail a.problem.now a.lemma.now c.args.store.now.box c.args.from c.args.stop c.loop-j.j (omega arith) (omega arith) (sym c.passes.ensures ∙ c.if-not-passes.true)

pub returns : goal.returns
returns c =
    let a = c.args.aim.now in
    scopes_hold a.problem.now a.lemma.now c.args.store.now.box c.args.from c.args.stop c.loop-j.j (omega arith) c.loop-j.invariant
