-- What a gatherer keeps between pieces, and hands on.
use Rattle.std.specs.Prelude.{◌≡◌, ⊤, Option, Some, None, List, ℤ}
use Rattle.dense_check.specs.declared.line.Line.{Line}
use Rattle.dense_check.specs.Telling.{IsGathered}
use Rattle.dense_judge.specs.declared.gather.Gather.{Gather}
use Rattle.dense_judge.specs.Gathered.{LineSoFar}

-- the line that has begun, if one has, with the values of its tuple that are kept
abbrev pub Keeps : Gather → Option LineSoFar → Type 0
Keeps g None = g.begun ≡ None
Keeps g (Some p) = (g.begun ≡ Some p.line) × IsGathered g.values p.tuple

-- a line that is whole is handed on, and its values are kept
abbrev pub Hands : Option Line → List ℤ → Option LineSoFar → Type 0
Hands None vs None = ⊤
Hands None vs (Some p) = ⊥
Hands (Some l) vs None = ⊥
Hands (Some l) vs (Some p) = (l ≡ p.line) × IsGathered vs p.tuple
