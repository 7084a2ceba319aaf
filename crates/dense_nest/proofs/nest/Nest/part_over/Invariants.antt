use Rattle.std.proofs.Common.{◌≡◌, true, length}
use Rattle.dense_nest.specs.Telling.{game_of}
use Rattle.dense_nest.specs.Goes.{InPart}
use Rattle.dense_nest.specs.Ends.{PartEnds}
use Rattle.dense_nest.proofs.nest.Nest.part_over.Given as goal

abbrev pub invariant-loop-k : goal.invariant-loop-k
invariant-loop-k l = record {
  part : InPart l.self;
  ends : PartEnds l.fn.self l.self true;
  same : game_of l.self ≡ game_of l.fn.self;
}

abbrev pub decreases-loop-k : goal.decreases-loop-k
decreases-loop-k l = length l.self.open
