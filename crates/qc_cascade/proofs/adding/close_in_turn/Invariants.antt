use Rattle.std.proofs.Common.{◌≡◌, ◌≤◌, ◌+◌, ◌-◌, ℕ, length, drop, true, false}
use Rattle.qc_model.specs.Closed.{keeps_ends}
use Rattle.qc_model.specs.Domains.{has_empty, is_sub_box, declared_box}
use Rattle.prop_base.specs.Pruning.{IsPruning, total}
use Rattle.prop_engine.specs.Closing.{EachRule, is_between}
use Rattle.prop_engine.specs.Watching.{IsReady, WasKept, changed_by}
use Rattle.qc_cascade.specs.Adding.{is_either}
use Rattle.qc_cascade.proofs.adding.close_in_turn.Given as goal

abbrev pub invariant-loop-changed : goal.invariant-loop-changed
invariant-loop-changed g l = record {
  ready : IsReady l.problem l.engine;
  pruning : IsPruning (is_either l.fn.behind l.fn.settled) l.problem l.initial.store l.store l.initial.steps l.steps;
  declared : is_sub_box l.store.box (declared_box l.problem) ≡ true;
  full : has_empty l.store.box ≡ false;
  since : l.since ≤ length l.steps;
  due : l.due.end ≤ length l.problem.constraints;
  other : l.other.end ≤ length l.problem.constraints;
  either : (k : ℕ) → is_either l.due l.other k ≡ is_either l.fn.behind l.fn.settled k;
  earlier : WasKept (is_between l.due.first l.due.end) l.problem (changed_by (drop l.since l.steps)) l.store.box;
  kept : EachRule (is_between l.other.first l.other.end) l.problem (keeps_ends l.store.box);
}

abbrev pub decreases-loop-changed : goal.decreases-loop-changed
decreases-loop-changed g l = total l.store.box + (length l.steps - l.since)
