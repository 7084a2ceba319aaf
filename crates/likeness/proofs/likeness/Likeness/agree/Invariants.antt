use Rattle.std.proofs.Common.{◌≡◌, ◌<◌, ℕ}
use Rattle.std.specs.Prelude.{IsTrue, slice_index_or, pos}
use Rattle.proof_alike.specs.Alike.{is_looked_at}
use Rattle.likeness.proofs.likeness.Likeness.agree.Given as goal

abbrev pub invariant-loop-x : goal.invariant-loop-x
invariant-loop-x l = (x : ℕ) → x < l.x → IsTrue (is_looked_at l.self l.level.number x) → slice_index_or l.kept x (pos 0) ≡ slice_index_or l.here x (pos 0)
