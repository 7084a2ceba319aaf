-- The steps that closing stands for: as long as a constraint refutes an end of one of its own variables that it may take, the first such end goes.
use Rattle.std.specs.Prelude.{ℕ, suc, zero, ◌+◌, Bool, not, ◌&&◌, ◌||◌, cond, Option, Some, None, List, [], ◌∷◌, ◌++◌, filter, flat_map, length, ℤ}
use Rattle.std.specs.List.{list_any}
use Rattle.qc_model.specs.Arguments.{variables_of}
use Rattle.qc_model.specs.Block.{constraints_within}
use Rattle.qc_model.specs.Content.{Game, Rule}
use Rattle.qc_model.specs.Domains.{Box, values_left, least_value, greatest_value, has_empty}
use Rattle.qc_model.specs.Refuted.{refuted_by}
use Rattle.proof_tree.specs.declared.tree.Step.{Step}
use Rattle.proof_tree.specs.declared.tree.Step.TheVariants.{Prune}
use Rattle.proof_tree.specs.Steps.{is_legal, after_step, after_steps}
use Rattle.dense_closing.specs.Takes.{Takes}

-- constraint k removes the value v of x
abbrev pub removal : ℕ → ℕ → ℤ → Step
removal k x v = Prune (record { 0 = x }) v v (record { 0 = k })

-- or each of its ends
abbrev pub both_ends : ℕ → Box → ℕ → List Step
both_ends k box x = removal k x (least_value (values_left box x)) ∷ removal k x (greatest_value (values_left box x)) ∷ []

-- each constraint removes the ends of its own variables that it may take; the first has the number k
abbrev pub own_ends : Takes → ℕ → List Rule → Box → List Step
own_ends takes k [] box = []
own_ends takes k (c ∷ cs) box = flat_map (both_ends k box) (filter (takes c) (variables_of c.args)) ++ own_ends takes (suc k) cs box

-- those of them that are refuted, by the constraints of the scopes from i to the one before stop
abbrev pub refuted_ends : Takes → Game → ℕ → ℕ → Box → List Step
refuted_ends takes g i stop box = filter (λ s. is_legal g i stop None s box) (own_ends takes 0 g.constraints box)

-- the first of the steps, and what follows in the box after it
abbrev pub first_then : (Box → List Step) → Box → List Step → List Step
first_then f box [] = []
first_then f box (s ∷ steps) = s ∷ f (after_step s box)

-- at most n steps
abbrev pub steps_by : ℕ → Takes → Game → ℕ → ℕ → Box → List Step
steps_by zero takes g i stop box = []
steps_by (suc n) takes g i stop box = first_then (steps_by n takes g i stop) box (refuted_ends takes g i stop box)

-- how many values are left, in all
abbrev pub total : Box → ℕ
total [] = 0
total (vs ∷ box) = length vs + total box

-- until no end is refuted, or a domain is empty: each step takes a value
abbrev pub closing_steps : Takes → Game → ℕ → ℕ → Box → List Step
closing_steps takes g i stop box = steps_by (suc (total box)) takes g i stop box

-- a constraint refutes the box, though of one of its variables it may take no value
abbrev pub is_hopeless : Takes → List Rule → Box → Bool
is_hopeless takes cs box = list_any (λ c. refuted_by c box && list_any (λ x. not (takes c x)) (variables_of c.args)) cs

abbrev pub unless_lost : Takes → List Rule → Box → Option Box
unless_lost takes cs box = cond (has_empty box || is_hopeless takes cs box) None (Some box)

-- the greatest closed box within the box, or none
abbrev pub greatest_closed : Takes → Game → ℕ → ℕ → Box → Option Box
greatest_closed takes g i stop box = unless_lost takes (constraints_within g i stop) (after_steps (closing_steps takes g i stop box) box)
