use Rattle.lemma_reasons.proofs.Rows.{WinnersKept}
use Rattle.lemma_reasons.proofs.spans.goes_on.Given as goal

abbrev pub invariant-loop-j : goal.invariant-loop-j
invariant-loop-j l = WinnersKept l.aim.problem.now l.aim.lemma.now l.store.box l.from l.j
