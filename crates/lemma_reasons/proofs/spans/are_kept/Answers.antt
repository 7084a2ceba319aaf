use Rattle.std.proofs.Common.{arith}
use Rattle.lemma_reasons.proofs.Rows.{span_fails, span_holds, one_more_kept}
use Rattle.lemma_reasons.proofs.spans.are_kept.Goals as goal

pub loop-k-preserved : goal.loop-k-preserved
loop-k-preserved c =
    let a = c.args.aim.now in
    one_more_kept a.problem.now a.lemma.now c.args.store.now.box c.args.span.first c.loop-k.k c.is_kept.result c.loop-k.invariant c.is_kept.ensures c.if-not-is_kept.false

pub returns-then-not-is_kept : goal.returns-then-not-is_kept
returns-then-not-is_kept c =
    let a = c.args.aim.now in
    span_fails a.problem.now a.lemma.now c.args.store.now.box c.args.span.first c.args.span.end c.loop-k.k c.is_kept.result (omega arith) (omega arith) c.requires.within c.is_kept.ensures c.if-not-is_kept.true

pub returns : goal.returns
returns c =
    let a = c.args.aim.now in
    span_holds a.problem.now a.lemma.now c.args.store.now.box c.args.span.first c.args.span.end c.loop-k.k (omega arith) c.loop-k.invariant
