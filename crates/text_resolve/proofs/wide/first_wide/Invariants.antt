use Rattle.std.proofs.Common.{◌≡◌, ◌≤◌, drop}
use Rattle.text_resolve.specs.Numbers.{first_wide}
use Rattle.text_resolve.proofs.wide.first_wide.Given as goal

abbrev pub invariant-loop-item : goal.invariant-loop-item
invariant-loop-item l = record {
  within : l.total ≤ 4194304;
  same : first_wide l.total (drop l.item-index l.items) ≡ first_wide 0 l.items;
}
