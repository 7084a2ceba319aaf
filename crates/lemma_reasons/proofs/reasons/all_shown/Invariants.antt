use Rattle.std.proofs.Common.{◌≡◌, drop}
use Rattle.std.specs.List.{list_all}
use Rattle.lemma_list.specs.Sums.{is_sum_shown}
use Rattle.lemma_reasons.proofs.reasons.all_shown.Given as goal

abbrev pub invariant-loop-sum : goal.invariant-loop-sum
invariant-loop-sum l = list_all (is_sum_shown l.aim.problem.now l.aim.lemma.now l.before l.store.box) (drop l.sum-index l.sums) ≡ list_all (is_sum_shown l.aim.problem.now l.aim.lemma.now l.before l.store.box) l.sums
