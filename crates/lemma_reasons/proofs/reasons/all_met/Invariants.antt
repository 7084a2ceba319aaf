use Rattle.std.proofs.Common.{◌≡◌, drop}
use Rattle.std.specs.List.{list_all}
use Rattle.lemma_list.specs.Reasons.{is_met}
use Rattle.lemma_reasons.specs.Answering.{answered_by}
use Rattle.lemma_reasons.proofs.reasons.all_met.Given as goal

abbrev pub invariant-loop-k : goal.invariant-loop-k
invariant-loop-k l = list_all (is_met (answered_by l.problem l.answers) l.literals l.store.box) (drop l.k l.literals) ≡ list_all (is_met (answered_by l.problem l.answers) l.literals l.store.box) l.literals
