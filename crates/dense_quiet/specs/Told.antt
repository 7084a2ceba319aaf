-- Comparisons of two numbers of which a third argument says whether they hold.
use Rattle.std.specs.Prelude.{◌≡◌, ◌⊎◌, ℕ, Bool, not, ◌&&◌, ◌||◌, [], ◌∷◌, pos, IsFalse}
use Rattle.qc_model.specs.declared.problem.Arg.{Arg}
use Rattle.qc_model.specs.Arguments.{filled_one}
use Rattle.qc_model.specs.Domains.{Values, Box, has_value}
use Rattle.qc_model.specs.Entailed.{entailed_as}
use Rattle.qc_model.specs.Meaning.{Meaning, equal, at_most, below}
use Rattle.qc_model.specs.Refuted.{refuted_as}
use Rattle.dense_quiet.specs.Quiet.{SparesThree}

-- what refutes, and what entails, that two numbers stand so
abbrev pub refuted_of : Meaning → Values → Values → Bool
refuted_of m d e = refuted_as m (filled_one d ∷ filled_one e ∷ [])

abbrev pub entailed_of : Meaning → Values → Values → Bool
entailed_of m d e = entailed_as m (filled_one d ∷ filled_one e ∷ [])

abbrev pub IsComparison : Meaning → Type 0
IsComparison m = (m ≡ equal) ⊎ ((m ≡ at_most) ⊎ (m ≡ below))

-- what refutes that the third is the truth of that
abbrev pub told_of : Meaning → Values → Values → Values → Bool
told_of m d e f = (not (has_value f (pos 1)) || refuted_of m d e) && (not (has_value f (pos 0)) || entailed_of m d e)

-- it may hold, and may fail to
pub record IsUndecided (m : Meaning) (d e : Values) : Type 0 where
  pub comparison : IsComparison m
  pub refuted : IsFalse (refuted_of m d e)
  pub entailed : IsFalse (entailed_of m d e)

-- it is a comparison that isn't refuted, whichever end of an argument that may be taken is left alone
pub record SparesHeld (m : Meaning) (ok : ℕ → Bool) (a b c : Arg) (box : Box) : Type 0 where
  pub comparison : IsComparison m
  pub held : SparesThree (λ d e f. refuted_of m d e) ok a b c box
