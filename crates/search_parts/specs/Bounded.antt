-- Where some branches of a scope of the opponent give a bound by themselves.
use Rattle.std.specs.Prelude.{ℤ, IsTrue, IsFalse, Bool, false, Option, Some, None, List, [], ◌∷◌, slice_get}
use Rattle.qc_model.specs.declared.problem.Aggregate.{Aggregate}
use Rattle.qc_model.specs.declared.problem.Condition.{Condition}
use Rattle.qc_model.specs.declared.problem.Scope.{Scope}
use Rattle.qc_model.specs.declared.problem.Sense.{Sense}
use Rattle.qc_model.specs.declared.problem.Target.{Target}
use Rattle.qc_model.specs.declared.problem.Target.TheVariants.{Var, Aggregate as Agg}
use Rattle.qc_model.specs.Block.{of_kind}
use Rattle.qc_model.specs.Content.{Game}
use Rattle.qc_model.specs.Optimal.{is_better}
use Rattle.joins.specs.Columns.{is_one_sided, first_sense}

-- some branches alone bound the first entry's value
abbrev pub is_fold_bounded : Sense → Option Aggregate → Bool
is_fold_bounded s None = false
is_fold_bounded s (Some q) = is_one_sided s q.fold

abbrev pub is_target_bounded : Game → Sense → Target → Bool
is_target_bounded g s (Var x) = false
is_target_bounded g s (Agg q) = is_fold_bounded s (slice_get g.aggregates q.0)

abbrev pub is_list_bounded : Game → List Condition → Bool
is_list_bounded g [] = false
is_list_bounded g (c ∷ d) = is_target_bounded g c.sense c.target

-- so in the first of the scopes, whose own list is d: it is the opponent's
abbrev pub is_bounded : List Scope → Game → List Condition → Bool
is_bounded [] g d = false
is_bounded (s ∷ later) g d = of_kind s.kind false (is_list_bounded g d)

-- which bounds are beaten: only those of a scope where some branches alone give one, and with a bound whatever is no better
pub record Outdoes (g : Game) (later : List Scope) (d : List Condition) (above : ℤ → Bool) : Type 0 where
  pub bounded : (n : ℤ) → IsTrue (above n) → IsTrue (is_bounded later g d)
  pub worse : (n b : ℤ) → IsTrue (above n) → IsFalse (is_better (first_sense d) b n) → IsTrue (above b)
