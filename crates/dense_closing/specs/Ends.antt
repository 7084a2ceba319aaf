-- Steps that take ends. Of these alone it is so that no closed box within loses a value.
use Rattle.std.specs.Prelude.{ℕ, Bool, true, false, not, ◌&&◌, ◌||◌, Option, Some, None, List, [], ◌∷◌, slice_get, ℤ, int_le}
use Rattle.qc_model.specs.Arguments.{variables_of}
use Rattle.qc_model.specs.Content.{Game, Rule}
use Rattle.qc_model.specs.Domains.{Values, Box, values_left, least_value, greatest_value}
use Rattle.qc_model.specs.Verdict.{is_none_of}
use Rattle.proof_tree.specs.declared.tree.Step.{Step}
use Rattle.proof_tree.specs.declared.tree.Step.TheVariants.{Prune, Bound}
use Rattle.proof_tree.specs.Steps.{is_legal, after_step}
use Rattle.dense_closing.specs.Takes.{Takes}

-- no value is below low, or none is above high
abbrev pub is_end : ℤ → ℤ → Values → Bool
is_end low high vs = int_le low (least_value vs) || int_le (greatest_value vs) high

-- the constraint is there, has a variable, and may take values of x
abbrev pub may_take : Takes → Option Rule → ℕ → Bool
may_take takes None x = false
may_take takes (Some c) x = takes c x && not (is_none_of (variables_of c.args))

-- the step removes values at an end of a variable, by a constraint that may take them and has a variable
abbrev pub takes_end : Takes → Game → Step → Box → Bool
takes_end takes g (Prune x low high c) box = is_end low high (values_left box x.0) && may_take takes (slice_get g.constraints c.0) x.0
takes_end takes g (Bound x low high) box = false

-- and is legal by the constraints of the scopes from i to the one before stop
abbrev pub is_end_step : Takes → Game → ℕ → ℕ → Step → Box → Bool
is_end_step takes g i stop s box = is_legal g i stop None s box && takes_end takes g s box

abbrev pub are_end_steps : Takes → Game → ℕ → ℕ → List Step → Box → Bool
are_end_steps takes g i stop [] box = true
are_end_steps takes g i stop (s ∷ steps) box = is_end_step takes g i stop s box && are_end_steps takes g i stop steps (after_step s box)
