-- What is known of the sum of a linear constraint's terms.
use Rattle.std.specs.Prelude.{◌≡◌, ℕ, Option, Some, None, ℤ, pos, negsuc, true, false, List, [], ◌∷◌}
use Rattle.qc_model.specs.declared.problem.Arg.TheVariants.{Num}
use Rattle.qc_model.specs.declared.problem.Argument.{Argument}
use Rattle.qc_model.specs.Content.{Game}
use Rattle.qc_model.specs.Domains.{Box}
use Rattle.qc_model.specs.Ranges.{range_of}
use Rattle.model_arguments.specs.Written.{arg_at}
use Rattle.lemma_list.specs.Sums.{Linear, linear, sum_known}
use Rattle.lemma_reasons.specs.declared.sums.Given.{Given}
use Rattle.lemma_reasons.specs.declared.sums.Sum.{Sum}

-- the sum is that of the linear constraint, by the box and the sums that are given
abbrev pub IsKnown : Game → Given → Option ℕ → Box → Option Linear → Sum → Type 0
IsKnown g m t box None s = ⊥
IsKnown g m t box (Some l) s =
    (l.is_equal ≡ s.is_equal) × (l.bound ≡ s.bound) × (range_of s.from s.to ≡ sum_known g m.scope m.sums.now m.c.0 t l box)

-- a sum as it is compared
abbrev pub compared : Sum → Linear
compared s = record { is_equal = s.is_equal; factors = []; items = []; bound = s.bound }

-- the first argument less the second, which is to be at most a number, and the first two less the third, which is to be 0
abbrev pub difference_of : List Argument → ℤ → Option Linear
difference_of args n = linear false (pos 1 ∷ negsuc 0 ∷ []) (arg_at args 0 ∷ arg_at args 1 ∷ []) (Num n)

abbrev pub balance_of : List Argument → Option Linear
balance_of args = linear true (pos 1 ∷ pos 1 ∷ negsuc 0 ∷ []) (arg_at args 0 ∷ arg_at args 1 ∷ arg_at args 2 ∷ []) (Num (pos 0))
