use Rattle.std.proofs.Common.{◌+◌, ◌≤◌, drop, bytes_eq}
use Rattle.indexmap.specs.IndexMap.{get_by}
use Rattle.text_resolve.proofs.Table.{Knows}
use Rattle.text_resolve.proofs.names.Names.new.Given as goal

abbrev pub invariant-loop-item : goal.invariant-loop-item
invariant-loop-item l = record {
  room : l.counts.scopes + l.counts.variables + l.counts.aggregates ≤ l.item-index;
  knows : Knows l.text l.items (drop l.item-index l.items) l.counts (λ name. get_by (λ k. bytes_eq name k.now) l.table);
}
