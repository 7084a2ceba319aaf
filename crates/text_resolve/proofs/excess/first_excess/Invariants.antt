use Rattle.std.proofs.Common.{◌≡◌, ◌≤◌, drop}
use Rattle.text_resolve.specs.Excess.{first_excess}
use Rattle.text_resolve.proofs.excess.first_excess.Given as goal

abbrev pub invariant-loop-item : goal.invariant-loop-item
invariant-loop-item l = record {
  few_scopes : l.scopes ≤ 64;
  few_variables : l.variables ≤ 500;
  few_aggregates : l.aggregates ≤ 255;
  few_constraints : l.constraints ≤ 20000;
  same : first_excess l.text l.scopes l.variables l.aggregates l.constraints (drop l.item-index l.items) ≡ first_excess l.text 0 0 0 0 l.items;
}
