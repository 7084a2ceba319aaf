use Rattle.std.proofs.Common.{◌≡◌, drop}
use Rattle.std.specs.List.{list_all}
use Rattle.qc_refuter.specs.Met.{lefts}
use Rattle.lemma_list.specs.Entailment.{is_settled}
use Rattle.lemma_reasons.proofs.kept.are_settled.Given as goal

abbrev pub invariant-loop-argument : goal.invariant-loop-argument
invariant-loop-argument l = list_all is_settled (lefts l.store.box (drop l.argument-index l.args)) ≡ list_all is_settled (lefts l.store.box l.args)
