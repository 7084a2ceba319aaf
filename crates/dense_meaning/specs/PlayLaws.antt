-- Laws of plays: which values may go, where nobody can go on, and boxes that keep all plays.
use Rattle.std.specs.Prelude.{◌≡◌, ◌≤◌, ◌<◌, ◌+◌, ℕ, suc, List, [], ◌∷◌, ◌++◌, length, take, drop, slice_get, Option, IsTrue, ℤ}
use Rattle.qc_model.specs.declared.problem.Condition.{Condition}
use Rattle.qc_model.specs.declared.problem.Scope.{Scope}
use Rattle.qc_model.specs.Content.{Game}
use Rattle.qc_model.specs.Domains.{InBox, Box, declared_box, values_left, is_sub_box, box_within, box_without}
use Rattle.qc_model.specs.Game.{before, IsMove}
use Rattle.qc_model.specs.Block.{force_stop, constraints_within}
use Rattle.qc_model.specs.Closed.{is_closed, NoClosedWithin}
use Rattle.qc_model.specs.Valid.{IsValid}
use Rattle.qc_model.specs.Verdict.{Verdict, lost}
use Rattle.model_laws.specs.Positions.{universal}
use Rattle.proof_tree.specs.Steps.{is_refuted_within}
use Rattle.dense_meaning.specs.Throughout.{IsPositionIn, Throughout, IsAgainst}
use Rattle.dense_meaning.specs.Plays.{IsDeclared, NeverStuck, GoesOn, HasAllPlays, KeepsThrough, KeepsPlays, KeepsFrom, MayLose}

-- where the opponent is never stuck, values that are on no whole play may go
abbrev pub JointRemoval : Type 0
JointRemoval =
    (v : Verdict) (g : Game) (later : List Scope) (i : ℕ) (d : List Condition) (box small : Box) → NeverStuck g later i box → KeepsPlays g later i box small →
    IsAgainst v → Throughout v g later i d small → Throughout v g later i d box

-- where he isn't in the next n scopes, as where these are the player's, so may values of variables up to there that are on
-- no play through these scopes
abbrev pub RemovalThrough : Type 0
RemovalThrough =
    (v : Verdict) (g : Game) (later : List Scope) (n i : ℕ) (d : List Condition) (box small : Box) → NeverStuck g (take n later) i box →
    KeepsThrough g later n i box small → KeepsFrom g (n + i) box small →
    IsAgainst v → Throughout v g later i d small → Throughout v g later i d box

-- at a scope of the opponent, stuck or not, so may values of its own variables that no allowed tuple has
abbrev pub OwnRemoval : Type 0
OwnRemoval =
    (v : Verdict) (g : Game) (later : List Scope) (x : Option Condition) (i : ℕ) (d : List Condition) (box small : Box) →
    ((a : List ℤ) → IsPositionIn g i box a → InBox a small) →
    KeepsThrough g (universal x ∷ later) 1 i box small → KeepsFrom g (suc i) box small →
    IsAgainst v → Throughout v g (universal x ∷ later) i d small → Throughout v g (universal x ∷ later) i d box

-- in a valid game no play through the next n scopes, where the goal counts as one, has values with which one of their
-- constraints refutes the box
abbrev pub RefutedIsOnNoPlay : Type 0
RefutedIsOnNoPlay =
    (g : Game) (n i : ℕ) (box : Box) (x : ℕ) (low high : ℤ) (c : ℕ) → IsValid g → i ≤ length g.scopes → i + n ≤ suc (length g.scopes) → IsDeclared g box →
    IsTrue (is_refuted_within i (i + n) (slice_get g.constraints c) (box_within box x low high)) →
    KeepsThrough g (drop i g.scopes) n i box (box_without box x low high)

-- so where a constraint in force at scope i refutes the box with some values of a variable that may lose values, these may go
abbrev pub RemovalInForce : Type 0
RemovalInForce =
    (v : Verdict) (g : Game) (s : Scope) (later : List Scope) (i : ℕ) (d : List Condition) (box : Box) (x : ℕ) (low high : ℤ) (c : ℕ) →
    IsValid g → drop i g.scopes ≡ s ∷ later → IsDeclared g box →
    IsTrue (is_refuted_within i (force_stop (s ∷ later) i) (slice_get g.constraints c) (box_within box x low high)) → MayLose s.kind g (s ∷ later) i x →
    IsAgainst v → Throughout v g (s ∷ later) i d (box_without box x low high) → Throughout v g (s ∷ later) i d box

-- in a valid game each whole play from a scope on lies in each box that has all closed boxes within this one, where closed
-- is meant for the constraints of all scopes from there on and of the goal
abbrev pub ClosingKeepsPlays : Type 0
ClosingKeepsPlays =
    (g : Game) (i : ℕ) (box small : Box) → IsValid g → i ≤ length g.scopes → IsDeclared g box →
    ((b : Box) → IsTrue (is_sub_box b box) → IsTrue (is_closed (constraints_within g i (suc (length g.scopes))) b) → IsTrue (is_sub_box b small)) →
    KeepsPlays g (drop i g.scopes) i box small

-- where the opponent isn't stuck in the next n scopes and no values in the box go through them, or to the goal, all is lost
abbrev pub LostByPlays : Type 0
LostByPlays =
    (g : Game) (later : List Scope) (n i : ℕ) (d : List Condition) (box : Box) → NeverStuck g (take n later) i box →
    ((a w : List ℤ) → IsPositionIn g i box a → GoesOn g later n i a w → ¬ InBox w box) → Throughout lost g later i d box

-- as where a variable of these scopes, or of earlier ones, has no value left
abbrev pub EmptyIsLost : Type 0
EmptyIsLost =
    (g : Game) (later : List Scope) (n i : ℕ) (d : List Condition) (box : Box) (x : ℕ) → n ≤ length later → NeverStuck g (take n later) i box →
    x < before g (n + i) → values_left box x ≡ [] → Throughout lost g later i d box

-- and in a valid game where no box within is closed for the constraints of the scopes from i to k
abbrev pub LostByClosing : Type 0
LostByClosing =
    (g : Game) (i k : ℕ) (d : List Condition) (box : Box) → IsValid g → i ≤ k → k ≤ length g.scopes → IsDeclared g box → NeverStuck g (drop i g.scopes) i box →
    NoClosedWithin (constraints_within g i (suc k)) box → Throughout lost g (drop i g.scopes) i d box

-- where he isn't stuck in the next n scopes, what is lost after them is lost before them
abbrev pub LostLater : Type 0
LostLater =
    (g : Game) (n i : ℕ) (scopes : List Scope) (d e : List Condition) (box : Box) → n ≤ length scopes → NeverStuck g (take n scopes) i box →
    Throughout lost g (drop n scopes) (n + i) e box → Throughout lost g scopes i d box

-- boxes with all plays of a position: the declared domains at the root, and handed on to each move, and to each box that
-- keeps the plays
abbrev pub RootHasAll : Type 0
RootHasAll = (g : Game) → HasAllPlays g g.scopes 0 [] (declared_box g)

abbrev pub MoveHasAll : Type 0
MoveHasAll =
    (g : Game) (s : Scope) (later : List Scope) (i : ℕ) (a t : List ℤ) (box : Box) → IsMove g i a t → HasAllPlays g (s ∷ later) i a box →
    HasAllPlays g later (suc i) (a ++ t) box

abbrev pub SmallerHasAll : Type 0
SmallerHasAll =
    (g : Game) (later : List Scope) (i : ℕ) (a : List ℤ) (box small : Box) → IsPositionIn g i box a → KeepsPlays g later i box small →
    HasAllPlays g later i a box → HasAllPlays g later i a small
