-- Which leaves an existential join stands for.
use Rattle.std.specs.Prelude.{◌≡◌, ◌+◌, ℕ, Bool, Option, Some, None, List, slice_get, ℤ}
use Rattle.qc_model.specs.declared.problem.Condition.{Condition}
use Rattle.qc_model.specs.declared.problem.Scope.{Scope}
use Rattle.qc_model.specs.Content.{Game}
use Rattle.qc_model.specs.Demands.{demands}
use Rattle.qc_model.specs.Verdict.{Seen, is_lost, is_exact, some_node, each_node, exact_vectors, bounds}
use Rattle.qc_model.specs.ExistsVerdict.{best_vector, some_open}
use Rattle.joins.specs.Bests.{AllLong, best_bound}
use Rattle.joins.specs.declared.exists_join.ExistsJoin.{ExistsJoin}

-- what is kept is what the verdict needs of these leaves and bounds
pub record Keeps (d : List Condition) (all_lost is_open has_exact : Bool) (best : List ℤ) (bound : Option ℤ) (xs : List Seen) : Type 0 where
  pub all_lost_is : all_lost ≡ each_node is_lost xs
  pub is_open_is : is_open ≡ some_open xs
  pub has_exact_is : has_exact ≡ some_node is_exact xs
  pub long : AllLong d (exact_vectors xs)
  pub best_is : best ≡ best_vector d (exact_vectors xs)
  pub bound_is : bound ≡ best_bound d (bounds xs)

-- the join stands for these leaves and bounds
abbrev pub StandsFor : ExistsJoin → List Seen → Type 0
StandsFor join xs = Keeps join.list.items join.all_lost join.is_open join.has_exact join.best.list.items join.bound xs

abbrev pub condition_of : Option Scope → Option Condition
condition_of None = None
condition_of (Some s) = s.condition

-- it joins the leaves of scope i
pub record JoinsScope (g : Game) (i : ℕ) (join : ExistsJoin) : Type 0 where
  pub condition : join.condition ≡ condition_of (slice_get g.scopes i)
  pub list : join.list.items ≡ demands g (i + 1)

-- both join the leaves of the same scope
pub record JoinsAs (old new : ExistsJoin) : Type 0 where
  pub condition : new.condition ≡ old.condition
  pub list : new.list ≡ old.list
