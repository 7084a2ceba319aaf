use Rattle.std.proofs.Common.{◌≡◌, ◌<◌, ℕ, false, get_or}
use Rattle.std.specs.Prelude.{pos}
use Rattle.qc_model.specs.Domains.{has_value}
use Rattle.qc_model.specs.Refuted.{left_to}
use Rattle.prop_element.proofs.members.first_listed.Given as goal

abbrev pub invariant-loop-k : goal.invariant-loop-k
invariant-loop-k l = (j : ℕ) → j < l.k → has_value (left_to l.store.box l.a) (get_or l.numbers j (pos 0)) ≡ false
