-- Laws that lead from boxes back to the game, and from nodes without open variables to boxes.
use Rattle.std.specs.Prelude.{ℕ, Bool, List, ℤ}
use Rattle.qc_model.specs.declared.problem.Condition.{Condition}
use Rattle.qc_model.specs.declared.problem.Scope.{Scope}
use Rattle.qc_model.specs.Content.{Game}
use Rattle.qc_model.specs.Domains.{Box, declared_box}
use Rattle.qc_model.specs.Game.{Wins}
use Rattle.qc_model.specs.Plan.{Plan}
use Rattle.qc_model.specs.Verdict.{Verdict, lost, exact}
use Rattle.model_laws.specs.Verdicts.{MeansAt}
use Rattle.proof_tree.specs.Fair.{LeavesRest}
use Rattle.proof_tree.specs.Finding.{Finding}
use Rattle.proof_tree.specs.Meaning.{VerdictMeans, IsOptimalIn}
use Rattle.dense_meaning.specs.Throughout.{IsPositionIn, IsOptimalWithin, Says}
use Rattle.dense_meaning.specs.Plays.{NeverStuck, HasAllPlays}

-- what a node of a tree without open variables says holds in the words used here too
abbrev pub StrictSays : Type 0
StrictSays =
    (v : Verdict) (g : Game) (later : List Scope) (i : ℕ) (d : List Condition) (a : List ℤ) (box : Box) (f : Finding) (is_bounded : Bool) →
    VerdictMeans v g later i d a box f is_bounded → Says v g later i d box a

-- in a box that leaves the declared values past the block, an optimal strategy that lies in it up to its first answer lies in
-- it to its end. So a verdict here speaks of all strategies of which such a node does
abbrev pub StrictLies : Type 0
StrictLies =
    (g : Game) (later : List Scope) (i : ℕ) (a : List ℤ) (box : Box) (r : Plan) → IsPositionIn g i box a → LeavesRest g later i a box →
    IsOptimalIn g later i a box r → IsOptimalWithin g later i box a r

-- what is so of all optimal strategies of a position is so of those in the box
abbrev pub AllSays : Type 0
AllSays =
    (v : Verdict) (g : Game) (later : List Scope) (i : ℕ) (d : List Condition) (box : Box) (a : List ℤ) → MeansAt g later i a d v → Says v g later i d box a

-- where the box keeps all plays of the position and the opponent is never stuck, what it says is so of all optimal strategies
abbrev pub SaysOfAll : Type 0
SaysOfAll =
    (v : Verdict) (g : Game) (later : List Scope) (i : ℕ) (d : List Condition) (box : Box) (a : List ℤ) → NeverStuck g later i (declared_box g) →
    IsPositionIn g i (declared_box g) a → HasAllPlays g later i a box → Says v g later i d box a → MeansAt g later i a d v

-- and where it says lost the position isn't won
abbrev pub LostIsNotWon : Type 0
LostIsNotWon =
    (g : Game) (later : List Scope) (i : ℕ) (d : List Condition) (box : Box) (a : List ℤ) → NeverStuck g later i (declared_box g) →
    IsPositionIn g i (declared_box g) a → HasAllPlays g later i a box → Says lost g later i d box a → ¬ Wins g later i a

-- with all domains as they are declared this needs no premise
abbrev pub LostInDeclared : Type 0
LostInDeclared =
    (g : Game) (later : List Scope) (i : ℕ) (d : List Condition) (a : List ℤ) → IsPositionIn g i (declared_box g) a →
    Says lost g later i d (declared_box g) a → ¬ Wins g later i a

-- a position is won where a box says that it is exact, whatever the box
abbrev pub ExactIsWon : Type 0
ExactIsWon = (g : Game) (later : List Scope) (i : ℕ) (d : List Condition) (box : Box) (a v : List ℤ) → Says (exact v) g later i d box a → Wins g later i a
