-- Laws of boxes and verdicts: smaller boxes, parts of a box, weaker verdicts.
use Rattle.std.specs.Prelude.{◌≡◌, ◌<◌, ℕ, suc, List, ◌∷◌, ◌++◌, set, length, Option, IsFalse, ℤ}
use Rattle.qc_model.specs.declared.problem.Condition.{Condition}
use Rattle.qc_model.specs.declared.problem.Scope.{Scope}
use Rattle.qc_model.specs.Content.{Game}
use Rattle.qc_model.specs.Domains.{InBox, Box}
use Rattle.qc_model.specs.Game.{before, IsMove}
use Rattle.qc_model.specs.Optimal.{is_better}
use Rattle.qc_model.specs.Verdict.{Verdict, lost, at_most}
use Rattle.model_laws.specs.Positions.{existential}
use Rattle.dense_meaning.specs.Throughout.{Says, Throughout, as_bound, IsAgainst}
use Rattle.dense_meaning.specs.Plays.{IsDeclared, HasMoves}
use Rattle.dense_meaning.specs.Kept.{Kept, kept_box, HasKept, LooksAtOwn}

-- what is so in a box is so in each smaller one
abbrev pub Restricting : Type 0
Restricting =
    (v : Verdict) (g : Game) (later : List Scope) (i : ℕ) (d : List Condition) (small box : Box) → ((w : List ℤ) → InBox w small → InBox w box) →
    Throughout v g later i d box → Throughout v g later i d small

-- what is so with some values kept and all other variables open is so wherever these values are the same
abbrev pub CitedAnywhere : Type 0
CitedAnywhere =
    (v : Verdict) (g : Game) (later : List Scope) (i : ℕ) (d : List Condition) (ks : List Kept) (box : Box) → IsDeclared g box → HasKept ks box →
    Throughout v g later i d (kept_box g ks) → Throughout v g later i d box

-- the values of a variable of an earlier scope may be looked at in two parts
abbrev pub Splitting : Type 0
Splitting =
    (v : Verdict) (g : Game) (later : List Scope) (i : ℕ) (d : List Condition) (box : Box) (x : ℕ) (us vs : List ℤ) → x < before g i →
    Throughout v g later i d (set box x us) → Throughout v g later i d (set box x vs) → Throughout v g later i d (set box x (us ++ vs))

-- so may one of the player's scope itself, for a verdict against him
abbrev pub OwnSplitting : Type 0
OwnSplitting =
    (v : Verdict) (g : Game) (later : List Scope) (y : Option Condition) (i : ℕ) (d : List Condition) (box : Box) (x : ℕ) (us vs : List ℤ) → x < before g (suc i) → IsAgainst v →
    Throughout v g (existential y ∷ later) i d (set box x us) → Throughout v g (existential y ∷ later) i d (set box x vs) →
    Throughout v g (existential y ∷ later) i d (set box x (us ++ vs))

-- a bound that is no better than another holds where that does
abbrev pub Weakening : Type 0
Weakening =
    (g : Game) (later : List Scope) (i : ℕ) (c : Condition) (d : List Condition) (box : Box) (a : List ℤ) (p q : ℤ) → IsFalse (is_better c.sense p q) →
    Says (at_most p) g later i (c ∷ d) box a → Says (at_most q) g later i (c ∷ d) box a

-- a best vector is a bound by its first value
abbrev pub BestIsBound : Type 0
BestIsBound =
    (v : Verdict) (g : Game) (later : List Scope) (i : ℕ) (d : List Condition) (box : Box) (a : List ℤ) →
    Says v g later i d box a → Says (as_bound d v) g later i d box a

-- any bound holds where all is lost
abbrev pub LostIsBounded : Type 0
LostIsBounded =
    (g : Game) (later : List Scope) (i : ℕ) (d : List Condition) (box : Box) (a : List ℤ) (p : ℤ) →
    Says lost g later i d box a → Says (at_most p) g later i d box a

-- a scope whose restriction looks at its own variables alone has a move anywhere where it has one somewhere
abbrev pub OwnMovesAnywhere : Type 0
OwnMovesAnywhere = (g : Game) (i : ℕ) (a t : List ℤ) (box : Box) → LooksAtOwn g i → length a ≡ before g i → IsMove g i a t → HasMoves g i box
