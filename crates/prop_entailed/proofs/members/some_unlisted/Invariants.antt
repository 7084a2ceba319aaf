use Rattle.std.specs.Prelude.{◌-ℤ◌, pos, nat_abs, not}
use Rattle.qc_model.specs.Domains.{set_has}
use Rattle.qc_model.specs.Refuted.{left_to}
use Rattle.qc_refuter.proofs.Walks.{IsWalked}
use Rattle.prop_entailed.proofs.members.some_unlisted.Given as goal

abbrev pub invariant-loop-v : goal.invariant-loop-v
invariant-loop-v l = IsWalked (λ w. not (set_has l.set w)) (left_to l.store.box l.arg) l.from

abbrev pub decreases-loop-v : goal.decreases-loop-v
decreases-loop-v l = nat_abs (pos 1000000001 -ℤ l.from)
