-- What is known of joins is known in one way.
use Rattle.std.specs.Prelude.{ℕ, ℤ, List, [], ◌∷◌}
use Rattle.std.proofs.Props.{props}
use Rattle.qc_model.specs.declared.problem.Scope.{Scope}
use Rattle.qc_model.specs.Content.{Game}
use Rattle.qc_model.specs.Verdict.{Seen}
use Rattle.joins.specs.declared.columns.Column.{Column}
use Rattle.joins.specs.declared.forall_join.ForallJoin.{ForallJoin}
use Rattle.joins.specs.declared.scope_join.ScopeJoin.{ScopeJoin}
use Rattle.joins.specs.declared.scope_join.ScopeJoin.TheVariants.{Exists, Forall}
use Rattle.joins.specs.Columns.{TotalsAre}
use Rattle.joins.specs.ForallJoin.{StandsFor, JoinsScope as JoinsForall}
use Rattle.joins.specs.ScopeJoins.{JoinsScope, AreJoins, IsAtGoal}

totals_prop : (ws : List (List ℤ)) (cs : List Column) → IsProp (TotalsAre ws cs)
totals_prop ws [] = hlevel props
totals_prop ws (c ∷ cs) = hlevel (props, totals_prop ws cs)

forall_stands_prop : (join : ForallJoin) (xs : List Seen) → IsProp (StandsFor join xs)
forall_stands_prop join xs = hlevel (props, totals_prop)

forall_scope_prop : (g : Game) (i : ℕ) (join : ForallJoin) → IsProp (JoinsForall g i join)
forall_scope_prop g i join = hlevel props

scope_prop : (g : Game) (i : ℕ) (s : Scope) (join : ScopeJoin) → IsProp (JoinsScope g i s join)
scope_prop g i s (Exists join) = hlevel props
scope_prop g i s (Forall join) = hlevel (props, forall_scope_prop)

pub joins_prop : (g : Game) (joins : List ScopeJoin) → IsProp (AreJoins g joins)
joins_prop g joins = hlevel (props, scope_prop)

pub goal_prop : (g : Game) (join : ForallJoin) → IsProp (IsAtGoal g join)
goal_prop g join = hlevel (props, forall_scope_prop, forall_stands_prop)
