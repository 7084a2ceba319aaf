-- The demanded lists of all scopes and of the goal.
use Rattle.std.specs.Prelude.{◌≡◌, ◌+◌, ◌≤◌, ℕ, List, [], length, slice_get, Option, Some, None}
use Rattle.std.specs.Prelude.{Vec}
use Rattle.std.specs.Global.{Global}
use Rattle.qc_model.specs.declared.problem.Condition.{Condition}
use Rattle.qc_model.specs.Content.{Game}
use Rattle.qc_model.specs.Demands.{demands}
use Rattle.joins.specs.declared.demands.Demands.{Demands}

abbrev pub items_of : Option (Vec Condition Global) → List Condition
items_of None = []
items_of (Some v) = v.items

-- one for each scope, and one for the goal
pub record HasLists (g : Game) (d : Demands) : Type 0 where
  pub count : length d.lists.items ≡ length g.scopes + 1
  pub list : (k : ℕ) → k ≤ length g.scopes → items_of (slice_get d.lists.items k) ≡ demands g k
