use Rattle.std.proofs.Common.{◌≡◌, ◌||◌, not, true}
use Rattle.qc_model.specs.Domains.{is_single, values_left}
use Rattle.dense_tree.specs.Alike.{each_below, is_read}
use Rattle.dense_alike.proofs.leasts.is_read_once.Given as goal

abbrev pub invariant-loop-k : goal.invariant-loop-k
invariant-loop-k l = each_below l.k (λ x. not (is_read l.reads l.i.0 x) || is_single (values_left l.store.box x)) ≡ true
