use Rattle.std.proofs.Common.{◌≡◌, drop}
use Rattle.std.specs.List.{list_any}
use Rattle.qc_model.specs.Domains.{values_left}
use Rattle.lemma_list.specs.Literals.{meets}
use Rattle.lemma_reasons.proofs.literals.some_meets.Given as goal

abbrev pub invariant-loop-literal : goal.invariant-loop-literal
invariant-loop-literal l = list_any (meets (drop l.literal-index l.literals) l.x.0) (values_left l.store.box l.x.0) ≡ list_any (meets l.literals l.x.0) (values_left l.store.box l.x.0)
