use Rattle.std.proofs.Common.{◌≡◌, ◌≤◌}
use Rattle.proof_tree.specs.declared.tree.Version.{Version}
use Rattle.proof_text.specs.Nesting.{open_branches}
use Rattle.proof_text.proofs.levels.Levels.deepest.Given as goal

abbrev pub invariant-loop-at : goal.invariant-loop-at
invariant-loop-at l = record {
  same : (v : Version) → open_branches v l.self.marks l.fn.level ≡ open_branches v l.self.marks l.at;
  high : l.at ≤ l.fn.level;
}

abbrev pub decreases-loop-at : goal.decreases-loop-at
decreases-loop-at l = l.at
