use Rattle.std.proofs.Common.{◌≡◌, ◌+◌, true, take, drop, length}
use Rattle.qc_model.specs.Domains.{Box, has_empty, is_sub_box}
use Rattle.fd_store.specs.Held.{Follows}
use Rattle.dense_tree.specs.Tuples.{are_of}
use Rattle.dense_box.specs.Taking.{taken_from}
use Rattle.dense_box.proofs.taking.take_values.Given as goal

abbrev pub invariant-loop-k : goal.invariant-loop-k
invariant-loop-k l = record {
  content : taken_from (l.from + l.k) (drop l.k l.values) l.remains.box ≡ taken_from l.from l.values l.fn.remains.box;
  left : are_of (drop (l.from + l.k) (take l.stop l.remains.box)) (drop l.k l.values) ≡ true;
  long : length l.remains.box ≡ length l.fn.remains.box;
  full : has_empty l.remains.box ≡ has_empty l.fn.remains.box;
  past : Follows l.fn.remains l.remains;
  fewer : (large : Box) → is_sub_box l.fn.remains.box large ≡ true → is_sub_box l.remains.box large ≡ true;
}
