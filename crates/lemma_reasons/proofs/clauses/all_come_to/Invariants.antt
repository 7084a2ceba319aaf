use Rattle.std.proofs.Common.{◌≡◌, drop}
use Rattle.std.specs.List.{list_all}
use Rattle.lemma_list.specs.Reasons.{comes_to}
use Rattle.lemma_reasons.specs.Answering.{answered_by}
use Rattle.lemma_reasons.proofs.clauses.all_come_to.Given as goal

abbrev pub invariant-loop-item : goal.invariant-loop-item
invariant-loop-item l = list_all (comes_to (answered_by l.problem l.answers) l.store.box l.others l.number) (drop l.item-index l.items) ≡ list_all (comes_to (answered_by l.problem l.answers) l.store.box l.others l.number) l.items
