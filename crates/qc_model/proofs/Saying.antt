-- What a predicate means, where its last argument says if that holds, and where it doesn't.
use Rattle.std.proofs.Common.{◌≡◌, Bool, true, false, cond, refl, sym, ◌∙◌}
use Rattle.qc_model.specs.declared.predicates.Said.{Said}
use Rattle.qc_model.specs.Meaning.{Meaning, reified}
use Rattle.qc_model.specs.RowMeaning.{plain_meaning, row_meaning}

pub plainly_said : (s : Said) (m : Meaning) → row_meaning s ≡ m → s.reified ≡ false → m ≡ plain_meaning s.meaning
plainly_said s m e h = sym e ∙ of s.reified (plain_meaning s.meaning) h
  where
    of : (told : Bool) (n : Meaning) → told ≡ false → cond told (reified n) n ≡ n
    of true n h = cc
    of false n h = refl

pub said_as_told : (s : Said) (m : Meaning) → row_meaning s ≡ m → s.reified ≡ true → m ≡ reified (plain_meaning s.meaning)
said_as_told s m e h = sym e ∙ of s.reified (plain_meaning s.meaning) h
  where
    of : (told : Bool) (n : Meaning) → told ≡ true → cond told (reified n) n ≡ reified n
    of true n h = refl
    of false n h = cc
