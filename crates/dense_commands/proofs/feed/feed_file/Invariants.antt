use Rattle.std.proofs.Common.{◌≡◌, ◌<◌, ◌≤◌, ◌-◌, length}
use Rattle.qc_io.specs.Counts.{RoseBy}
use Rattle.dense_commands.specs.Fed.{FedTo}
use Rattle.dense_commands.proofs.feed.feed_file.Given as goal

abbrev pub invariant-loop-at : goal.invariant-loop-at
invariant-loop-at g l = record {
  fed : FedTo (g.S.Shelf.told l.fn.shelf l.name) l.at (g.C.ByteChecker.is_checking l.checker);
  ready : g.C.ByteChecker.is_ready l.checker;
  same : g.C.ByteChecker.game l.checker ≡ g.C.ByteChecker.game l.fn.checker;
  read : g.C.ByteChecker.read l.checker ≤ l.at;
  piece : 0 < length l.piece;
  faults : g.S.Shelf.faults l.shelf ≡ g.S.Shelf.faults l.fn.shelf;
  given : RoseBy l.at (g.S.Shelf.given l.fn.shelf) (g.S.Shelf.given l.shelf);
  stays : g.S.Shelf.told l.shelf ≡ g.S.Shelf.told l.fn.shelf;
  same_end : l.end ≡ 1073741825;
  within : l.at ≤ 1073741825;
}

abbrev pub decreases-loop-at : goal.decreases-loop-at
decreases-loop-at g l = l.end - l.at
