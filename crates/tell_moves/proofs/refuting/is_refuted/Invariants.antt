use Rattle.std.proofs.Common.{◌≡◌, drop}
use Rattle.std.specs.List.{list_any}
use Rattle.qc_model.specs.Domains.{box_within}
use Rattle.qc_model.specs.Refuted.{refuted_by}
use Rattle.tell_moves.proofs.refuting.is_refuted.Given as goal

abbrev pub invariant-loop-rule : goal.invariant-loop-rule
invariant-loop-rule l =
    list_any (λ c. refuted_by c (box_within l.store.box l.x.0 l.v l.v)) (drop l.rule-index l.rules) ≡ list_any (λ c. refuted_by c (box_within l.store.box l.x.0 l.v l.v)) l.rules
