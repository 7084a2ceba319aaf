-- A row that isn't the one.
use Rattle.std.proofs.Common.{◌≡◌, ℕ, ◌<◌, ◌≤◌, List, length, take, drop, ap, sym, ◌∙◌, ◌||◌, false, ℤ}
use Rattle.std.specs.List.{list_any}
use Rattle.qc_model.specs.Lists.{same_values}
use Rattle.qc_model.specs.Holds.{rows}
use Rattle.qc_model.proofs.Rows.{rows_step}

pub row_missed : (vs : List ℤ) (width : ℕ) (rest : List ℤ) → 0 < width → width ≤ length rest → same_values vs (take width rest) ≡ false →
    list_any (same_values vs) (rows width (drop width rest)) ≡ list_any (same_values vs) (rows width rest)
row_missed vs width rest h m missed =
    sym (ap (λ rs. list_any (same_values vs) rs) (rows_step width rest h m)
    ∙ ap (λ t. t || list_any (same_values vs) (rows width (drop width rest))) missed)
