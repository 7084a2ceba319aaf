-- A join of either kind: which leaves it stands for, and of which scope.
use Rattle.std.specs.Prelude.{◌≡◌, ⊤, ◌≤◌, ℕ, suc, List, [], ◌∷◌, ◌++◌, length, slice_get, Option, Some, None}
use Rattle.qc_model.specs.declared.problem.Kind.TheVariants.{Exists as ByPlayer, Forall as ByOpponent}
use Rattle.qc_model.specs.declared.problem.Condition.{Condition}
use Rattle.qc_model.specs.declared.problem.Scope.{Scope}
use Rattle.qc_model.specs.Content.{Game}
use Rattle.qc_model.specs.Demands.{demands, demands_after}
use Rattle.qc_model.specs.Verdict.{Verdict, lost, exact, at_most, unknown, Seen, seen_node}
use Rattle.joins.specs.declared.exists_join.ExistsJoin.{ExistsJoin}
use Rattle.joins.specs.declared.forall_join.ForallJoin.{ForallJoin}
use Rattle.joins.specs.ExistsJoin.{StandsFor as ExistsStandsFor}
use Rattle.joins.specs.ForallJoin.{StandsFor as ForallStandsFor, JoinsScope as JoinsForall}
use Rattle.joins.specs.Bests.{own_list}
use Rattle.joins.specs.Columns.{IsSmall}
use Rattle.joins.specs.declared.scope_join.ScopeJoin.{ScopeJoin}
use Rattle.joins.specs.declared.scope_join.ScopeJoin.TheVariants.{Exists, Forall}

-- the join stands for these leaves and bounds
abbrev pub StandsFor : ScopeJoin → List Seen → Type 0
StandsFor (Exists join) xs = ExistsStandsFor join xs
StandsFor (Forall join) xs = ForallStandsFor join xs

-- it joins the leaves of scope i, which is existential
pub record JoinsExists (g : Game) (i : ℕ) (s : Scope) (join : ExistsJoin) : Type 0 where
  pub kind : s.kind ≡ ByPlayer
  pub condition : join.condition ≡ s.condition
  pub list : join.list.items ≡ demands g (suc i)
  pub after : join.list.items ≡ demands_after g ByPlayer s.condition (demands g i)

-- it joins the leaves of scope i
abbrev pub JoinsScope : Game → ℕ → Scope → ScopeJoin → Type 0
JoinsScope g i s (Exists join) = JoinsExists g i s join
JoinsScope g i s (Forall join) = (s.kind ≡ ByOpponent) × JoinsForall g i join

-- it joins the leaves of the scopes that it joined before
abbrev pub KeepsScope : ScopeJoin → ScopeJoin → Type 0
KeepsScope old new = (g : Game) (i : ℕ) (s : Scope) → JoinsScope g i s old → JoinsScope g i s new

-- an exact vector has a value for each entry
abbrev pub HasEach : List Condition → Verdict → Type 0
HasEach d lost = ⊤
HasEach d (exact w) = length w ≡ length d
HasEach d (at_most p) = ⊤
HasEach d unknown = ⊤

-- the leaf is one that the join takes: a vector of the right length, in an existential scope, and small numbers in a
-- universal one
abbrev pub IsTaken : ScopeJoin → List Seen → Verdict → Type 0
IsTaken (Exists join) xs v = HasEach join.list.items v
IsTaken (Forall join) xs v = IsSmall (xs ++ seen_node v ∷ [])

-- a vector for the scope's own list fits
abbrev pub HasRoom : ScopeJoin → ℕ → Type 0
HasRoom (Exists join) n = length (own_list join.condition join.list.items) ≤ n
HasRoom (Forall join) n = length join.columns.items ≤ n

-- a join for each scope
pub record AreJoins (g : Game) (joins : List ScopeJoin) : Type 0 where
  pub count : length joins ≡ length g.scopes
  pub each : (k : ℕ) (s : Scope) (join : ScopeJoin) → slice_get g.scopes k ≡ Some s → slice_get joins k ≡ Some join → JoinsScope g k s join

-- one for the goal, which has no leaves
pub record IsAtGoal (g : Game) (join : ForallJoin) : Type 0 where
  pub scope : JoinsForall g (length g.scopes) join
  pub stands : ForallStandsFor join []

abbrev pub StandsIn : Option ScopeJoin → List Seen → Type 0
StandsIn None xs = ⊥
StandsIn (Some join) xs = StandsFor join xs
