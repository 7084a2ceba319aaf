-- A head that was read.
use Rattle.std.proofs.Common.{◌≡◌, ◌≤◌, ◌-◌, sym, subst, ℕ, List, ◌++◌, length, arith, leb-true, ℤ, to_z, of_z, w64}
use Rattle.std.specs.Prelude.{unsigned_abs, IsTrue}
use Rattle.std.proofs.lemmas.Int.{ints, to_z-of_z}
use mir.Val.{SFits}
use Rattle.qc_model.specs.Valid.{is_number}
use Rattle.best_text.specs.Text.{head_text, HeadFits}
use Rattle.best_text.specs.Heads.{BeginsWithHead}
use Rattle.best_text.proofs.Sequence.{begins_with}

pub number_fits : (v : ℤ) → IsTrue (is_number v) → SFits w64 v
number_fits v e = near v (leb-true _ _ e)
  where
    near : (v : ℤ) → unsigned_abs v ≤ 1000000000 → SFits w64 v
    near v h = omega (arith, ints)

pub whole_head : (bytes rest : List ℕ) (v : ℤ) (n : ℕ) → HeadFits v n → bytes ≡ head_text v n ++ rest → BeginsWithHead bytes (to_z w64 (of_z w64 v)) n (length bytes - length rest)
whole_head bytes rest v n fits e =
    subst (λ (z : ℤ). BeginsWithHead bytes z n (length bytes - length rest)) (sym (to_z-of_z w64 v (number_fits v fits.value))) (begins_with bytes rest v n fits e)
