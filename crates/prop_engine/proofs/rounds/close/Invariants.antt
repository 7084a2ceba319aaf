use Rattle.std.proofs.Common.{◌≡◌, true, false}
use Rattle.qc_model.specs.Domains.{has_empty, declared_box, is_sub_box}
use Rattle.prop_base.specs.Pruning.{IsPruning, total}
use Rattle.prop_engine.specs.Closing.{has_constraint}
use Rattle.prop_engine.proofs.rounds.close.Given as goal

abbrev pub invariant-loop : goal.invariant-loop
invariant-loop g l = record {
  pruning : IsPruning (has_constraint l.cons) l.problem l.initial.store l.store l.initial.steps l.steps;
  declared : is_sub_box l.store.box (declared_box l.problem) ≡ true;
  full : has_empty l.store.box ≡ false;
}

abbrev pub decreases-loop : goal.decreases-loop
decreases-loop g l = total l.store.box
