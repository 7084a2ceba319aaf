use Rattle.std.proofs.Common.{◌+◌, ◌≤◌, drop}
use Rattle.text_resolve.specs.Names.{declared}
use Rattle.text_resolve.specs.Draft.{constraint_of}
use Rattle.text_resolve.proofs.Walked.{Walked}
use Rattle.text_resolve.proofs.draft.constraints_of.Given as goal

abbrev pub invariant-loop-item : goal.invariant-loop-item
invariant-loop-item l = record {
  room : l.counts.scopes + l.counts.variables + l.counts.aggregates ≤ l.item-index;
  walked : Walked (constraint_of l.names.text.now (declared l.names.text.now l.names.items.now)) l.names.items.now (drop l.item-index l.names.items.now) l.counts l.constraints.items;
}
