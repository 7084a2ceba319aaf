use Rattle.std.proofs.Common.{◌≡◌, true, false, ℤ}
use Rattle.std.specs.Prelude.{int_lt, int_le, nat_abs, pos, negsuc, ◌-ℤ◌}
use Rattle.qc_model.specs.Domains.{has_value, values_left}
use Rattle.search_joint.specs.Narrowed.{IsNarrowed}
use Rattle.search_joint.proofs.narrowing.keep_shared.Given as goal

abbrev pub invariant-loop-v : goal.invariant-loop-v
invariant-loop-v l = record {
  narrowed : IsNarrowed l.x.0 l.initial.store l.store;
  below : (v : ℤ) → has_value (values_left l.store.box l.x.0) v ≡ true → int_lt v l.at ≡ true → has_value (values_left l.to.box l.x.0) v ≡ true;
  same : l.is_cut ≡ false → l.store.box ≡ l.initial.store.box;
  from : int_le (negsuc 999999999) l.at ≡ true;
  upto : int_le l.at (pos 1000000001) ≡ true;
}

abbrev pub decreases-loop-v : goal.decreases-loop-v
decreases-loop-v l = nat_abs (pos 1000000001 -ℤ l.at)
