use Rattle.std.proofs.Common.{◌≡◌, ◌<◌, ◌≤◌, length, take, true, false}
use Rattle.qc_model.specs.Closed.{keeps_ends}
use Rattle.qc_model.specs.Domains.{has_empty, declared_box, is_sub_box}
use Rattle.prop_base.specs.Pruning.{IsPruning}
use Rattle.prop_engine.specs.Closing.{has_constraint, EachRule}
use Rattle.prop_engine.proofs.rounds.run_round.Given as goal

abbrev pub invariant-loop-c : goal.invariant-loop-c
invariant-loop-c g l = record {
  pruning : IsPruning (has_constraint l.cons) l.problem l.initial.store l.store l.initial.steps l.steps;
  declared : is_sub_box l.store.box (declared_box l.problem) ≡ true;
  longer : length l.initial.steps ≤ length l.steps;
  full : has_empty l.store.box ≡ false;
  kept : l.changed ≡ false → EachRule (has_constraint (take l.c-index l.cons)) l.problem (keeps_ends l.store.box);
  grown : l.changed ≡ true → length l.initial.steps < length l.steps;
}
