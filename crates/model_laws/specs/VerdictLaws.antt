-- The laws of the tables: a verdict means what it says, where the claims that it was made from are right and miss nothing.
-- Claims stand in any order.
use Rattle.std.specs.Prelude.{◌≡◌, ℕ, suc, List, [], ◌∷◌, Option, Some, None, ℤ, length, map, Bool, IsTrue}
use Rattle.qc_model.specs.declared.problem.Condition.{Condition}
use Rattle.qc_model.specs.declared.problem.Scope.{Scope}
use Rattle.qc_model.specs.Content.{Game}
use Rattle.qc_model.specs.declared.problem.Kind.TheVariants.{Exists, Forall}
use Rattle.qc_model.specs.Game.{allows}
use Rattle.qc_model.specs.Plan.{Plan}
use Rattle.qc_model.specs.Value.{value}
use Rattle.qc_model.specs.Optimal.{Optimal}
use Rattle.qc_model.specs.Demands.{demands_through, demands, with_condition}
use Rattle.qc_model.specs.Bottlenecks.{bottleneck_last}
use Rattle.qc_model.specs.Verdict.{Verdict}
use Rattle.qc_model.specs.ExistsVerdict.{exists_verdict, exists_own}
use Rattle.qc_model.specs.ForallVerdict.{forall_verdict, goal_verdict, stuck_verdict}
use Rattle.qc_model.specs.Valid.{IsValid}
use Rattle.model_laws.specs.Positions.{universal, existential, optimising, OptimalAfter, IsChoice}
use Rattle.model_laws.specs.Verdicts.{HasNoMove, Means, MeansAt, Claim, seen_in, EachClaim, IsComplete, EachChoice, IsCovered, AreRight, MissNothing}

-- at a universal scope, with skipped leaves and without any leaf too
abbrev pub UniversalMeans : Type 0
UniversalMeans =
    (g : Game) (later : List Scope) (x : Option Condition) (i : ℕ) (a : List ℤ) (d : List Condition) (ls : List Claim) →
    IsTrue (bottleneck_last g d) → EachClaim g (demands_through g d) i a (Optimal g later (suc i)) ls → IsComplete g i a ls →
    MeansAt g (universal x ∷ later) i a d (forall_verdict g d a (map seen_in ls))

-- at an existential scope, with marks of bounds and skipped leaves too
abbrev pub ExistentialMeans : Type 0
ExistentialMeans =
    (g : Game) (later : List Scope) (x : Option Condition) (i : ℕ) (a : List ℤ) (d : List Condition) (ls : List Claim) →
    AreRight g later i a (with_condition x d) ls → MissNothing g later i a (with_condition x d) ls →
    MeansAt g (existential x ∷ later) i a d (exists_verdict x (with_condition x d) (map seen_in ls))

-- the own value that is found there is the condition's value under every optimal strategy
abbrev pub OwnIsFound : Type 0
OwnIsFound =
    (g : Game) (later : List Scope) (c : Condition) (i : ℕ) (a : List ℤ) (d : List Condition) (ls : List Claim) (n : ℤ) →
    AreRight g later i a (c ∷ d) ls → MissNothing g later i a (c ∷ d) ls → exists_own (Some c) (c ∷ d) (map seen_in ls) ≡ Some n →
    (p : Plan) → Optimal g (optimising c ∷ later) i a p → value g p c.target a ≡ n

-- the same of the part of an existential scope's choices that pass a test, such as those that lie in a box
abbrev pub ChoicesMean : Type 0
ChoicesMean =
    (g : Game) (later : List Scope) (i : ℕ) (e : List Condition) (a : List ℤ) (inside : List ℤ → Plan → Bool) (here : Plan → Bool) (ls : List Claim) →
    EachChoice g e a (λ t s. OptimalAfter g later i a t s × IsTrue (inside t s)) (λ p. IsChoice g later i a p × IsTrue (here p)) ls →
    IsCovered g e a (λ t s. OptimalAfter g later i a t s × IsTrue (inside t s)) (λ p. IsChoice g later i a p × IsTrue (here p)) ls →
    Means g e a (λ p. IsChoice g later i a p × IsTrue (here p)) (exists_verdict None e (map seen_in ls))

-- where the scope has no condition, these choices are the optimal strategies that pass the test
abbrev pub PlainPartMeans : Type 0
PlainPartMeans =
    (g : Game) (later : List Scope) (i : ℕ) (a : List ℤ) (d : List Condition) (here : Plan → Bool) (v : Verdict) →
    Means g d a (λ p. IsChoice g later i a p × IsTrue (here p)) v →
    Means g d a (λ p. Optimal g (existential None ∷ later) i a p × IsTrue (here p)) v

-- the goal of a valid game is exact with the values of its list where it holds, and lost where it doesn't
abbrev pub GoalMeans : Type 0
GoalMeans =
    (g : Game) (a : List ℤ) → IsValid g →
    let n = length g.scopes in
    MeansAt g [] n a (demands g n) (goal_verdict g (allows g n a) (demands g n) a)

-- the player who is stuck has lost
abbrev pub StuckPlayer : Type 0
StuckPlayer =
    (g : Game) (later : List Scope) (x : Option Condition) (i : ℕ) (a : List ℤ) (d : List Condition) → HasNoMove g i a →
    MeansAt g (existential x ∷ later) i a d (stuck_verdict g Exists d a)

-- against an opponent who is stuck the player has won, with the fold over no branch
abbrev pub StuckOpponent : Type 0
StuckOpponent =
    (g : Game) (later : List Scope) (x : Option Condition) (i : ℕ) (a : List ℤ) (d : List Condition) → IsTrue (bottleneck_last g d) → HasNoMove g i a →
    MeansAt g (universal x ∷ later) i a d (stuck_verdict g Forall d a)
