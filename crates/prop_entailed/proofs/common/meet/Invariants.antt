use Rattle.std.specs.Prelude.{◌-ℤ◌, pos, nat_abs}
use Rattle.qc_model.specs.Refuted.{left_to}
use Rattle.qc_refuter.proofs.Commons.{IsWalkedTo}
use Rattle.prop_entailed.proofs.common.meet.Given as goal

abbrev pub invariant-loop-w : goal.invariant-loop-w
invariant-loop-w l = IsWalkedTo (left_to l.store.box l.a) (left_to l.store.box l.b) l.v

abbrev pub decreases-loop-w : goal.decreases-loop-w
decreases-loop-w l = nat_abs (pos 1000000000 -ℤ l.v)
