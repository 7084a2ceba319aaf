use Rattle.std.specs.Prelude.{◌+ℤ◌, pos, nat_abs}
use Rattle.std.proofs.Common.{false}
use Rattle.qc_model.specs.Refuted.{left_to}
use Rattle.prop_element.specs.Members.{is_wanted}
use Rattle.prop_element.proofs.Beyond.{IsWalkedDown}
use Rattle.prop_element.proofs.others.last_unlisted.Given as goal

abbrev pub invariant-loop-v : goal.invariant-loop-v
invariant-loop-v l = IsWalkedDown (is_wanted false l.set) (left_to l.store.box l.a) l.up_to

abbrev pub decreases-loop-v : goal.decreases-loop-v
decreases-loop-v l = nat_abs (l.up_to +ℤ pos 1000000001)
