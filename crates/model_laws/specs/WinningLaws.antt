-- The laws of who wins, and of the optimum.
use Rattle.std.specs.Prelude.{◌≡◌, ◌↔◌, ◌⊎◌, ℕ, List, ◌∷◌, ℤ}
use Rattle.qc_model.specs.declared.problem.Condition.{Condition}
use Rattle.qc_model.specs.declared.problem.Scope.{Scope}
use Rattle.qc_model.specs.Content.{Game}
use Rattle.qc_model.specs.Lists.{Among}
use Rattle.qc_model.specs.Game.{Wins}
use Rattle.qc_model.specs.Plan.{Plan, IsStrategy}
use Rattle.qc_model.specs.Value.{value}
use Rattle.qc_model.specs.Optimal.{Optimal}
use Rattle.qc_model.specs.Counter.{CounterWins}
use Rattle.qc_model.specs.Valid.{IsValid}
use Rattle.model_laws.specs.Positions.{optimising, IsBestAt}
use Rattle.model_laws.specs.Replies.{AnswersOnce}
use Rattle.model_laws.specs.Strategies.{optimal_strategies}

-- a position is won exactly where some strategy is optimal
abbrev pub WonByStrategy : Type 0
WonByStrategy = (g : Game) (later : List Scope) (i : ℕ) (a : List ℤ) → Wins g later i a ↔ ((s : Plan) × Optimal g later i a s)

-- it is not won exactly where some counterstrategy wins
abbrev pub LostByCounter : Type 0
LostByCounter = (g : Game) (later : List Scope) (i : ℕ) (a : List ℤ) → (¬ Wins g later i a) ↔ ((k : Plan) × CounterWins g later i a k)

-- one or the other is found
abbrev pub Decided : Type 0
Decided = (g : Game) (later : List Scope) (i : ℕ) (a : List ℤ) → Wins g later i a ⊎ ((k : Plan) × CounterWins g later i a k)

-- an optimal strategy is a strategy: its choices are allowed, and it has one answer to each allowed tuple
abbrev pub OptimalIsStrategy : Type 0
OptimalIsStrategy = (g : Game) (later : List Scope) (i : ℕ) (a : List ℤ) (s : Plan) → Optimal g later i a s → IsStrategy g later i a s

-- in a valid game the counterstrategy needs no two replies to one tuple
abbrev pub LostByOneReply : Type 0
LostByOneReply =
    (g : Game) (later : List Scope) (i : ℕ) (a : List ℤ) → IsValid g → (¬ Wins g later i a) →
    (k : Plan) × (CounterWins g later i a k × AnswersOnce k)

-- a won position has a best vector, by any list
abbrev pub BestExists : Type 0
BestExists = (g : Game) (later : List Scope) (i : ℕ) (a : List ℤ) (d : List Condition) → Wins g later i a → (v : List ℤ) × IsBestAt g later i a d v

-- and a position has at most one best vector
abbrev pub BestIsOne : Type 0
BestIsOne =
    (g : Game) (later : List Scope) (i : ℕ) (d : List Condition) (a : List ℤ) (v w : List ℤ) →
    IsBestAt g later i a d v → IsBestAt g later i a d w → v ≡ w

-- all optimal strategies of an optimising scope have the same value
abbrev pub OptimumIsOne : Type 0
OptimumIsOne =
    (g : Game) (later : List Scope) (c : Condition) (i : ℕ) (a : List ℤ) (p q : Plan) →
    Optimal g (optimising c ∷ later) i a p → Optimal g (optimising c ∷ later) i a q → value g p c.target a ≡ value g q c.target a

-- so a won position of an optimising scope has an optimum: the number that each optimal strategy has
abbrev pub OptimumExists : Type 0
OptimumExists =
    (g : Game) (later : List Scope) (c : Condition) (i : ℕ) (a : List ℤ) → Wins g (optimising c ∷ later) i a →
    (v : ℤ) × ((p : Plan) → Optimal g (optimising c ∷ later) i a p → value g p c.target a ≡ v)

-- the optimal strategies of a position are exactly those of the computed list
abbrev pub ComputedAreOptimal : Type 0
ComputedAreOptimal = (g : Game) (later : List Scope) (i : ℕ) (a : List ℤ) (s : Plan) → Optimal g later i a s ↔ Among s (optimal_strategies g later i a)
