-- The joins of all scopes of a problem, and which leaves and bounds each stands for.
use Rattle.std.specs.Prelude.{◌≡◌, ℕ, suc, List, [], ◌∷◌, ◌++◌, slice_get, ℤ}
use Rattle.qc_model.specs.Content.{Game}
use Rattle.qc_model.specs.Demands.{demands}
use Rattle.qc_model.specs.Verdict.{Verdict, Seen, seen_node}
use Rattle.joins.specs.Columns.{IsSmall}
use Rattle.joins.specs.declared.joins.Joins.{Joins}
use Rattle.joins.specs.ScopeJoins.{StandsIn, HasEach}

abbrev pub game_of : Joins → Game
game_of joins = joins.problem.now

-- the vector that was handed out last
abbrev pub out_of : Joins → List ℤ
out_of joins = joins.out.list.items

-- the join of scope i stands for these leaves and bounds
abbrev pub StandsAt : Joins → ℕ → List Seen → Type 0
StandsAt joins i xs = StandsIn (slice_get joins.joins.items i) xs

-- what the joins of other scopes stood for they still stand for
abbrev pub KeepsOthers : ℕ → Joins → Joins → Type 0
KeepsOthers i old new = (j : ℕ) (xs : List Seen) → (j ≡ i → ⊥) → StandsAt old j xs → StandsAt new j xs

abbrev pub KeepsAll : Joins → Joins → Type 0
KeepsAll old new = (j : ℕ) (xs : List Seen) → StandsAt old j xs → StandsAt new j xs

-- an exact vector has a value for each entry of the list of scope i, or of the goal
abbrev pub IsLong : Game → ℕ → Verdict → Type 0
IsLong g i v = HasEach (demands g i) v

-- a node below scope i has come to v, after these leaves and bounds
pub record LeafFits (g : Game) (i : ℕ) (xs : List Seen) (v : Verdict) : Type 0 where
  pub long : IsLong g (suc i) v
  pub small : IsSmall (xs ++ seen_node v ∷ [])
