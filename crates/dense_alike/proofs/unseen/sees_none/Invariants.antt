use Rattle.std.proofs.Common.{◌≡◌, ◌<◌, ℕ, false}
use Rattle.proof_alike.specs.Alike.{is_seen}
use Rattle.dense_alike.proofs.unseen.sees_none.Given as goal

abbrev pub invariant-loop-k : goal.invariant-loop-k
invariant-loop-k l = (x : ℕ) → x < l.k → is_seen l.reads l.i.0 x ≡ false
