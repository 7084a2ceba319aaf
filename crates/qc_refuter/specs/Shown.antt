-- What is known of the ends that a view keeps.
use Rattle.std.specs.Prelude.{◌≡◌, IsFalse}
use Rattle.qc_model.specs.Domains.{Values, is_none_left, least_value, greatest_value}
use Rattle.qc_refuter.specs.declared.shown.Ends.{Ends}

-- the ends are those of the values, where there are any
abbrev pub HasEnds : Ends → Values → Type 0
HasEnds e vs = IsFalse (is_none_left vs) → (e.least ≡ least_value vs) × (e.greatest ≡ greatest_value vs)
