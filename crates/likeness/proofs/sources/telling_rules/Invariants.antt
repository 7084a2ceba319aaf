use Rattle.std.proofs.Common.{◌≡◌, map, take}
use Rattle.std.specs.Prelude.{filter}
use Rattle.std.specs.Borrow.{Bor}
use Rattle.qc_model.specs.Content.{Rule}
use Rattle.likeness.specs.Seeing.{tells}
use Rattle.likeness.proofs.sources.telling_rules.Given as goal

abbrev pub invariant-loop-k : goal.invariant-loop-k
invariant-loop-k l = map (λ (r : Bor Rule). r.now) l.rules.items ≡ filter tells (take l.k l.problem.constraints)
