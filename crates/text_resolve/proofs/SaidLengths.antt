-- The lengths that a meaning asks for are those of its reified form.
use Rattle.std.proofs.Common.{◌≡◌, Bool, true, false, cond, List, refl}
use Rattle.qc_model.specs.declared.predicates.Said.{Said}
use Rattle.qc_model.specs.Meaning.{Meaning, reified}
use Rattle.qc_model.specs.RowMeaning.{plain_meaning, row_meaning}
use Rattle.text_grammar.specs.declared.tree.ArgumentText.{ArgumentText}
use Rattle.text_resolve.specs.Fits.{lengths_fit}

pub lengths_said : (s : Said) (args : List ArgumentText) → lengths_fit (row_meaning s) args ≡ lengths_fit (plain_meaning s.meaning) args
lengths_said s args = of s.reified (plain_meaning s.meaning)
  where
    of : (told : Bool) (m : Meaning) → lengths_fit (cond told (reified m) m) args ≡ lengths_fit m args
    of true m = refl
    of false m = refl
