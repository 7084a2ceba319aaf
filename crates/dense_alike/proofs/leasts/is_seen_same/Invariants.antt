use Rattle.std.proofs.Common.{◌≡◌, ◌||◌, not, true}
use Rattle.std.specs.Prelude.{pos, slice_index_or}
use Rattle.std.specs.Ordering.{int_eq}
use Rattle.proof_alike.specs.Alike.{is_seen}
use Rattle.dense_tree.specs.Alike.{each_below}
use Rattle.dense_alike.proofs.leasts.is_seen_same.Given as goal

abbrev pub invariant-loop-k : goal.invariant-loop-k
invariant-loop-k l = each_below l.k (λ x. not (is_seen l.reads l.i.0 x) || int_eq (slice_index_or l.here x (pos 0)) (slice_index_or l.there x (pos 0))) ≡ true
