use Rattle.std.proofs.Common.{◌≡◌, ◌++◌, drop, map}
use Rattle.qdimacs.specs.Content.{variables_of}
use Rattle.qdimacs.specs.Refusals.{block_of}
use Rattle.qdimacs.proofs.draft.variables_of.Given as goal

abbrev pub invariant-loop-i : goal.invariant-loop-i
invariant-loop-i l = l.variables.items ++ variables_of l.i (map block_of (drop l.i l.blocks)) ≡ variables_of 0 (map block_of l.blocks)
