-- The steps on which the last one depends.
use Rattle.std.specs.Prelude.{ℕ, Bool, true, false, cond, Option, Some, None, List, [], ◌∷◌, get_or, set, slice_get, replicate}
use Rattle.qc_model.specs.Arguments.{variables_of, last_of}
use Rattle.qc_model.specs.Content.{Game, Rule}
use Rattle.proof_tree.specs.declared.tree.Step.{Step}
use Rattle.proof_tree.specs.declared.tree.Step.TheVariants.{Prune, Bound}

-- whether x is wanted; one without a place among the marks always is
abbrev pub is_wanted : List Bool → ℕ → Bool
is_wanted marks x = get_or marks x true

-- x is wanted too, and all of them
abbrev pub wanting : List Bool → ℕ → List Bool
wanting marks x = set marks x true

abbrev pub wanting_all : List Bool → List ℕ → List Bool
wanting_all marks [] = marks
wanting_all marks (x ∷ xs) = wanting_all (wanting marks x) xs

-- the variables of a constraint; none where no constraint has the number
abbrev pub rule_variables : Option Rule → List ℕ
rule_variables None = []
rule_variables (Some c) = variables_of c.args

-- the steps that are kept, and the variables that are wanted before them
pub record Slice : Type 0 where
  pub marks : List Bool
  pub less : List Step

-- what a removal by a constraint adds where its variable is wanted, and what a bound adds
abbrev pub with_prune : Game → Step → ℕ → Slice → Slice
with_prune g s c r = record { marks = wanting_all r.marks (rule_variables (slice_get g.constraints c)); less = s ∷ r.less }

abbrev pub with_bound : Step → ℕ → Slice → Slice
with_bound s x r = record { marks = wanting r.marks x; less = s ∷ r.less }

-- a step before those of the slice: a bound is kept, and a removal of a wanted variable
abbrev pub with_step : Game → Step → Slice → Slice
with_step g (Prune x low high c) r = cond (is_wanted r.marks x.0) (with_prune g (Prune x low high c) c.0 r) r
with_step g (Bound x low high) r = with_bound (Bound x low high) x.0 r

-- what is kept of the steps where these marks are wanted after them
abbrev pub slice_from : Game → List Bool → List Step → Slice
slice_from g marks [] = record { marks = marks; less = [] }
slice_from g marks (s ∷ steps) = with_step g s (slice_from g marks steps)

-- at the end the variable of the last step is wanted
abbrev pub step_variable : Step → ℕ
step_variable (Prune x low high c) = x.0
step_variable (Bound x low high) = x.0

abbrev pub wanting_last : List Bool → Option Step → List Bool
wanting_last marks None = marks
wanting_last marks (Some s) = wanting marks (step_variable s)

abbrev pub last_marks : List Step → List Bool
last_marks steps = wanting_last (replicate 500 false) (last_of steps)

abbrev pub slice_of : Game → List Step → List Step
slice_of g steps = (slice_from g (last_marks steps) steps).less
