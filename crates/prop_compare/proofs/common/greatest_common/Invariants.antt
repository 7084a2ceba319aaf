use Rattle.std.specs.Prelude.{◌+ℤ◌, pos, nat_abs}
use Rattle.qc_model.specs.Refuted.{left_to}
use Rattle.qc_refuter.proofs.Commons.{IsWalkedBack}
use Rattle.prop_compare.proofs.common.greatest_common.Given as goal

abbrev pub invariant-loop-w : goal.invariant-loop-w
invariant-loop-w l = IsWalkedBack (left_to l.store.box l.a) (left_to l.store.box l.b) l.v

abbrev pub decreases-loop-w : goal.decreases-loop-w
decreases-loop-w l = nat_abs (l.v +ℤ pos 1000000000)
