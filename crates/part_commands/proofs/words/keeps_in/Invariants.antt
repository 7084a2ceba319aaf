use Rattle.std.proofs.Common.{◌≡◌, ◌≤◌, ◌-◌, ℕ, List, drop, map, length}
use Rattle.part_commands.specs.Words.{rest_asked}
use Rattle.part_commands.specs.View.{keeps_seen, before_all, AreRanges}
use Rattle.part_commands.proofs.words.keeps_in.Given as goal

-- the keeps so far stand before what the words that are left ask for
abbrev pub invariant-keeps : goal.invariant-keeps
invariant-keeps l = record {
  within : l.at ≤ length l.words;
  ranges : AreRanges l.keeps.items;
  fronts : (name : List ℕ) → rest_asked name (map (λ w. w.now) l.words) ≡ before_all (keeps_seen l.keeps.items) (rest_asked name (map (λ w. w.now) (drop l.at l.words)));
}

abbrev pub decreases-keeps : goal.decreases-keeps
decreases-keeps l = length l.words - l.at
