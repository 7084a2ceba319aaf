use Rattle.std.proofs.Common.{◌≡◌, take}
use Rattle.tell_moves.specs.Stands.{StandsIn}
use Rattle.tell_moves.proofs.first.stand.Given as goal

abbrev pub invariant-loop-k : goal.invariant-loop-k
invariant-loop-k l = record {
  stands : StandsIn l.problem (take l.k l.values) l.walk.remains.box;
  values : l.walk.values.items ≡ take l.k l.values;
  listing : l.walk.listing ≡ l.initial.walk.listing;
}
