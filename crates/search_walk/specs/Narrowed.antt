-- What a case that is taken does to the box, before its own part begins.
use Rattle.std.specs.Prelude.{◌≡◌, ℕ, List, [], ◌++◌, ℤ, IsTrue, IsFalse}
use Rattle.qc_model.specs.Content.{Game}
use Rattle.qc_model.specs.Domains.{Values, Box, has_empty}
use Rattle.qc_model.specs.Verdict.{Seen}
use Rattle.proof_tree.specs.Cover.{box_to}
use Rattle.proof_tree.specs.declared.tree.Step.{Step}
use Rattle.joins.specs.Joins.{StandsAt}
use Rattle.joins.specs.declared.joins.Joins.{Joins}
use Rattle.search_parts.specs.Beaten.{seen_bounds}
use Rattle.search_walk.specs.Put.{StepsTold, BoundedSteps}
use Rattle.search_walk.specs.declared.stage.Stage.{Stage}
use Rattle.search_walk.specs.declared.walk.Walk.{Walk}
use Rattle.search_walk.specs.declared.narrowing.GivenUp.{GivenUp}
use Rattle.search_walk.specs.declared.narrowing.GivenUp.TheVariants.{Nothing, Values as SomeValues, All}

-- the steps lead from the box to what is left, and the join was told of their marks
pub record NarrowTold (g : Game) (i : ℕ) (box left : Box) (before : List Seen) (joins : Joins) (steps : List Step) : Type 0 where
  pub ms : List ℤ
  pub stepped : StepsTold g i box left before ms steps
  pub stands : StandsAt joins i (before ++ seen_bounds ms)

-- so where a node's own tree begins with a bound, whatever beats its mark
pub record FirstNarrowed (g : Game) (i : ℕ) (box left : Box) (joins : Joins) (steps : List Step) : Type 0 where
  pub ms : List ℤ
  pub stepped : BoundedSteps g i box left [] ms steps
  pub stands : StandsAt joins i (seen_bounds ms)

-- some values of the variable went, and no domain is empty
pub record HasLost (x : ℕ) (old new : Box) : Type 0 where
  pub kept : Values
  pub is_new : new ≡ box_to old x kept
  pub full : IsFalse (has_empty new)

abbrev pub IsGivenUp : GivenUp → Box → Box → Type 0
IsGivenUp Nothing old new = new ≡ old
IsGivenUp (SomeValues x) old new = HasLost x.0 old new
IsGivenUp All old new = IsTrue (has_empty new)

-- what the calls say of it, at the stage's scope
abbrev pub NarrowAnswers : Stage → Box → Walk → Walk → Type 0
NarrowAnswers s box old new = (before : List Seen) → StandsAt old.joins s.level.now.number before → NarrowTold s.level.now.problem.now s.level.now.number box new.remains.store.box before new.joins new.steps

abbrev pub FirstAnswers : Stage → Walk → Walk → Type 0
FirstAnswers s old new = StandsAt old.joins s.level.now.number [] → FirstNarrowed s.level.now.problem.now s.level.now.number old.remains.store.box new.remains.store.box new.joins new.steps
