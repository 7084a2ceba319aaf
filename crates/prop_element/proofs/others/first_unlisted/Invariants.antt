use Rattle.std.specs.Prelude.{◌-ℤ◌, pos, nat_abs}
use Rattle.std.proofs.Common.{false}
use Rattle.qc_model.specs.Refuted.{left_to}
use Rattle.qc_refuter.proofs.Walks.{IsWalked}
use Rattle.prop_element.specs.Members.{is_wanted}
use Rattle.prop_element.proofs.others.first_unlisted.Given as goal

abbrev pub invariant-loop-v : goal.invariant-loop-v
invariant-loop-v l = IsWalked (is_wanted false l.set) (left_to l.store.box l.a) l.from

abbrev pub decreases-loop-v : goal.decreases-loop-v
decreases-loop-v l = nat_abs (pos 1000000001 -ℤ l.from)
