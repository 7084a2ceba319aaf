-- What a verdict says in a box in which variables of earlier scopes may have several values: it is so at every position
-- that lies in the box, whatever came before.
use Rattle.std.specs.Prelude.{◌≡◌, ℕ, List, [], ◌∷◌, ◌++◌, length, ⊤, IsFalse, ℤ}
use Rattle.qc_model.specs.declared.problem.Condition.{Condition}
use Rattle.qc_model.specs.declared.problem.Scope.{Scope}
use Rattle.qc_model.specs.Content.{Game}
use Rattle.qc_model.specs.Domains.{InBox, Box}
use Rattle.qc_model.specs.Game.{before}
use Rattle.qc_model.specs.Plan.{Plan, finish, choose, answer, Entries, no_entries, entry}
use Rattle.qc_model.specs.Optimal.{Optimal}
use Rattle.qc_model.specs.Demands.{vector, is_better_vector}
use Rattle.qc_model.specs.Verdict.{Verdict, lost, exact, at_most, unknown, first_value}
use Rattle.proof_tree.specs.Meaning.{FirstIsNoBetter}

-- the position a stands before scope i and lies in the box; whether its values were allowed isn't asked
pub record IsPositionIn (g : Game) (i : ℕ) (box : Box) (a : List ℤ) : Type 0 where
  pub count : length a ≡ before g i
  pub lies : InBox a box

-- every play of the plan, from the values a on and to its end, lies in the box
abbrev mutual
  pub PlaysLie : Box → List ℤ → Plan → Type 0
  PlaysLie box a finish = InBox a box
  PlaysLie box a (choose t s) = PlaysLie box (a ++ t) s
  PlaysLie box a (answer l) = InBox a box × EachLies box a l

  pub EachLies : Box → List ℤ → Entries → Type 0
  EachLies box a no_entries = ⊤
  EachLies box a (entry t s rest) = PlaysLie box (a ++ t) s × EachLies box a rest

-- an optimal strategy at the position whose plays lie in the box
pub record IsOptimalWithin (g : Game) (later : List Scope) (i : ℕ) (box : Box) (a : List ℤ) (s : Plan) : Type 0 where
  pub optimal : Optimal g later i a s
  pub lies : PlaysLie box a s

-- some optimal strategy, in the box or not, has the vector, and none whose plays lie in the box has a better one
pub record ExactWithin (g : Game) (later : List Scope) (i : ℕ) (d : List Condition) (box : Box) (a v : List ℤ) : Type 0 where
  pub some : (s : Plan) × Optimal g later i a s × (vector g d a s ≡ v)
  pub best : (r : Plan) → IsOptimalWithin g later i box a r → IsFalse (is_better_vector d (vector g d a r) v)

-- by the verdict, at one position; later has the scopes from i on, and d is the list demanded of scope i
abbrev pub Says : Verdict → Game → List Scope → ℕ → List Condition → Box → List ℤ → Type 0
Says lost g later i d box a = (r : Plan) → ¬ IsOptimalWithin g later i box a r
Says (exact v) g later i d box a = ExactWithin g later i d box a v
Says (at_most p) g later i d box a = (r : Plan) → IsOptimalWithin g later i box a r → FirstIsNoBetter g d a r p
Says unknown g later i d box a = ⊤

-- and at every position in the box
abbrev pub Throughout : Verdict → Game → List Scope → ℕ → List Condition → Box → Type 0
Throughout v g later i d box = (a : List ℤ) → IsPositionIn g i box a → Says v g later i d box a

-- the verdict speaks against the player: it stays so where strategies are left aside
abbrev pub IsAgainst : Verdict → Type 0
IsAgainst lost = ⊤
IsAgainst (exact v) = ⊥
IsAgainst (at_most p) = ⊤
IsAgainst unknown = ⊤

-- what is left of a verdict where its best vector counts as a bound alone, by its first value
abbrev pub as_bound : List Condition → Verdict → Verdict
as_bound d lost = lost
as_bound [] (exact v) = unknown
as_bound (c ∷ d) (exact v) = at_most (first_value v)
as_bound [] (at_most p) = unknown
as_bound (c ∷ d) (at_most p) = at_most p
as_bound d unknown = unknown
