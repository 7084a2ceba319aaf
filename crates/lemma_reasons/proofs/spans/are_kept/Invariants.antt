use Rattle.lemma_reasons.proofs.Rows.{AllKept}
use Rattle.lemma_reasons.proofs.spans.are_kept.Given as goal

abbrev pub invariant-loop-k : goal.invariant-loop-k
invariant-loop-k l = AllKept l.aim.problem.now l.aim.lemma.now l.store.box l.fn.span.first l.k
