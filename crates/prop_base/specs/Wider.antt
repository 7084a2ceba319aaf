-- Ranges that grow at one end.
use Rattle.std.specs.Prelude.{ℕ, Bool, true, false, pos, ◌+ℤ◌, ◌-ℤ◌}
use Rattle.qc_model.specs.Content.{Rule}
use Rattle.qc_model.specs.Domains.{Box, box_within}
use Rattle.qc_model.specs.Refuted.{refuted_by}
use Rattle.prop_base.specs.declared.cuts.Cut.{Cut}

-- the range with n numbers more, after it or before it
abbrev pub wider : Bool → Cut → ℕ → Cut
wider true k n = record { x = k.x; lo = k.lo; hi = k.hi +ℤ pos n }
wider false k n = record { x = k.x; lo = k.lo -ℤ pos n; hi = k.hi }

-- the constraint refutes the box in which x keeps this range alone
abbrev pub refutes_range : Rule → Box → Cut → Bool
refutes_range c box k = refuted_by c (box_within box k.x.0 k.lo k.hi)
