-- The rows of a table, one by one.
use Rattle.std.proofs.Common.{◌≡◌, ℕ, suc, ◌-◌, ◌/◌, ◌<◌, ◌≤◌, List, [], ◌∷◌, length, take, drop, ap, sym, ◌∙◌, arith, length-drop, ℤ}
use Rattle.std.proofs.Math.Nat.{div-eq-sub-div, div-eq_of_lt}
use Rattle.qc_model.specs.Holds.{rows_of, rows}

count_step : (n width : ℕ) → 0 < width → width ≤ n → n / width ≡ suc ((n - width) / width)
count_step n width h m = omega (arith, div-eq-sub-div h m)

pub rows_step : (width : ℕ) (ns : List ℤ) → 0 < width → width ≤ length ns → rows width ns ≡ take width ns ∷ rows width (drop width ns)
rows_step width ns h m =
    ap (λ count. rows_of width count ns) (count_step (length ns) width h m)
    ∙ ap (λ n. take width ns ∷ rows_of width (n / width) (drop width ns)) (sym (length-drop width ns))

count_end : (n width : ℕ) → n < width → n / width ≡ 0
count_end n width h = div-eq_of_lt h

pub rows_end : (width : ℕ) (ns : List ℤ) → length ns < width → rows width ns ≡ []
rows_end width ns h = ap (λ count. rows_of width count ns) (count_end (length ns) width h)
