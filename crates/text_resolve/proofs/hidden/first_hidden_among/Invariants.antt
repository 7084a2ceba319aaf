use Rattle.std.proofs.Common.{◌≡◌, ◌+◌, ◌≤◌, drop}
use Rattle.text_resolve.specs.Owned.{owned, owned_from}
use Rattle.text_resolve.specs.Names.{declared}
use Rattle.text_resolve.specs.Hidden.{first_hidden}
use Rattle.text_resolve.proofs.hidden.first_hidden_among.Given as goal

abbrev pub invariant-loop-item : goal.invariant-loop-item
invariant-loop-item l = record {
  room : l.counts.scopes + l.counts.variables + l.counts.aggregates ≤ l.item-index;
  within : l.counts.owner ≤ l.counts.scopes;
  same : first_hidden l.names.text.now (declared l.names.text.now l.names.items.now) l.kinds (owned_from l.counts.scopes l.counts.owner (drop l.item-index l.names.items.now))
      ≡ first_hidden l.names.text.now (declared l.names.text.now l.names.items.now) l.kinds (owned l.names.items.now);
}
