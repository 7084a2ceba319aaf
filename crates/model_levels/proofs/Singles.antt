-- Variables that have one value left.
use Rattle.std.proofs.Common.{◌≡◌, ℕ, zero, suc, true, [], ◌∷◌, take, drop, ℤ}
use Rattle.std.specs.List.{list_all}
use Rattle.std.proofs.lemmas.Bool.{and_parts, and_from}
use Rattle.qc_model.specs.Domains.{Box, is_single, box_at}

-- the variables from m to the one before n keep their one value
pub still_single : (m n : ℕ) (box : Box) (x : ℕ) (v : ℤ) → list_all is_single (drop m (take n box)) ≡ true → list_all is_single (drop m (take n (box_at box x v))) ≡ true
still_single m zero box x v e = e
still_single m (suc n) [] x v e = e
still_single zero (suc n) (d ∷ box) zero v e = (and_parts (is_single d) (list_all is_single (take n box)) e).1
still_single zero (suc n) (d ∷ box) (suc x) v e = let r = and_parts (is_single d) (list_all is_single (take n box)) e in and_from (is_single d) (list_all is_single (take n (box_at box x v))) r.0 (still_single zero n box x v r.1)
still_single (suc m) (suc n) (d ∷ box) zero v e = e
still_single (suc m) (suc n) (d ∷ box) (suc x) v e = still_single m n box x v e
