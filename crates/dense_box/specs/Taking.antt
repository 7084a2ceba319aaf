-- Values taken one after another.
use Rattle.std.specs.Prelude.{ℕ, suc, List, [], ◌∷◌, ℤ}
use Rattle.qc_model.specs.Domains.{Box, box_at}

-- the variables from x on have these values alone
abbrev pub taken_from : ℕ → List ℤ → Box → Box
taken_from x [] box = box
taken_from x (v ∷ vs) box = taken_from (suc x) vs (box_at box x v)
