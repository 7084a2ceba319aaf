use Rattle.std.proofs.Common.{◌≤◌, ◌-◌, length, take}
use Rattle.qc_play.specs.Listing.{IsListing}
use Rattle.qc_play.proofs.read.read_lines.Given as goal

abbrev pub invariant-loop-at : goal.invariant-loop-at
invariant-loop-at l = record {
  within : l.at ≤ length l.text;
  listing : IsListing l.listing (take l.at l.text);
}

abbrev pub decreases-loop-at : goal.decreases-loop-at
decreases-loop-at l = length l.text - l.at
