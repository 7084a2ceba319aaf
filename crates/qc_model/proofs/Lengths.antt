-- The lengths that a meaning asks for are those of its reified form.
use Rattle.std.proofs.Common.{◌≡◌, Bool, true, false, cond, List, refl}
use Rattle.qc_model.specs.declared.problem.Argument.{Argument}
use Rattle.qc_model.specs.declared.predicates.Said.{Said}
use Rattle.qc_model.specs.Meaning.{Meaning, reified}
use Rattle.qc_model.specs.RowMeaning.{plain_meaning, row_meaning}
use Rattle.qc_model.specs.Valid.{have_lengths}

pub lengths_said : (s : Said) (args : List Argument) → have_lengths (row_meaning s) args ≡ have_lengths (plain_meaning s.meaning) args
lengths_said s args = of s.reified (plain_meaning s.meaning)
  where
    of : (told : Bool) (m : Meaning) → have_lengths (cond told (reified m) m) args ≡ have_lengths m args
    of true m = refl
    of false m = refl
