-- The laws of the player's scopes: the best of the choices is the best of the position.
use Rattle.std.specs.Prelude.{◌≡◌, ℕ, suc, List, ◌∷◌, ◌++◌, None, ℤ, IsTrue, IsFalse}
use Rattle.qc_model.specs.declared.problem.Condition.{Condition}
use Rattle.qc_model.specs.declared.problem.Scope.{Scope}
use Rattle.qc_model.specs.Content.{Game}
use Rattle.qc_model.specs.Game.{IsMove}
use Rattle.qc_model.specs.Plan.{Plan}
use Rattle.qc_model.specs.Value.{value}
use Rattle.qc_model.specs.Optimal.{Optimal}
use Rattle.qc_model.specs.Demands.{vector, is_better_vector, IsBestVector}
use Rattle.qc_model.specs.Verdict.{is_none_of, first_value}
use Rattle.qc_model.specs.ExistsVerdict.{beats}
use Rattle.model_laws.specs.Positions.{existential, optimising, IsChoice, IsBestAt, IsBoundAt}

-- without a condition, the best vector of the choices is that of the position
abbrev pub PlainChoice : Type 0
PlainChoice =
    (g : Game) (later : List Scope) (i : ℕ) (a : List ℤ) (d : List Condition) (v : List ℤ) →
    IsBestVector g d a (IsChoice g later i a) v → IsBestAt g (existential None ∷ later) i a d v

-- with one, it is asked for before the rest, and its value is left out
abbrev pub OptimisingChoice : Type 0
OptimisingChoice =
    (g : Game) (later : List Scope) (i : ℕ) (a : List ℤ) (c : Condition) (d : List Condition) (x : ℤ) (v : List ℤ) →
    IsBestVector g (c ∷ d) a (IsChoice g later i a) (x ∷ v) → IsBestAt g (optimising c ∷ later) i a d v

-- and that value is the condition's under each optimal strategy
abbrev pub OwnValue : Type 0
OwnValue =
    (g : Game) (later : List Scope) (i : ℕ) (a : List ℤ) (c : Condition) (d : List Condition) (x : ℤ) (v : List ℤ) →
    IsBestVector g (c ∷ d) a (IsChoice g later i a) (x ∷ v) →
    (p : Plan) → Optimal g (optimising c ∷ later) i a p → value g p c.target a ≡ x

-- a vector that is best after one tuple, and that no strategy after any tuple beats, is the best vector of the choices
abbrev pub BestChoice : Type 0
BestChoice =
    (g : Game) (later : List Scope) (e : List Condition) (i : ℕ) (a t w : List ℤ) → IsMove g i a t → IsBestAt g later (suc i) (a ++ t) e w →
    ((u : List ℤ) (r : Plan) → IsMove g i a u → Optimal g later (suc i) (a ++ u) r → IsFalse (is_better_vector e (vector g e (a ++ u) r) w)) →
    IsBestVector g e a (IsChoice g later i a) w

-- none beats w at a position whose best vector doesn't
abbrev pub HeldByBest : Type 0
HeldByBest =
    (g : Game) (later : List Scope) (e : List Condition) (i : ℕ) (u w v : List ℤ) → IsBestAt g later i u e v → IsFalse (is_better_vector e v w) →
    (r : Plan) → Optimal g later i u r → IsFalse (is_better_vector e (vector g e u r) w)

-- and none does at a position with a bound that the first value of w beats, or meets where nothing else is asked
abbrev pub HeldByBound : Type 0
HeldByBound =
    (g : Game) (later : List Scope) (c : Condition) (e : List Condition) (i : ℕ) (u w : List ℤ) (p : ℤ) →
    IsBoundAt g later i u (c ∷ e) p → IsTrue (beats c.sense (is_none_of e) (first_value w) p) →
    (r : Plan) → Optimal g later i u r → IsFalse (is_better_vector (c ∷ e) (vector g (c ∷ e) u r) w)
