-- What a play ends with.
use Rattle.std.specs.Prelude.{◌≡◌, ◌⊎◌, ℕ, suc, true, false, Option, Some, List, [], ◌∷◌, ◌++◌, drop, slice_get, ⊤, ℤ}
use Rattle.std.specs.Option.{option_map}
use Rattle.qc_model.specs.declared.problem.Kind.{Kind}
use Rattle.qc_model.specs.declared.problem.Kind.TheVariants.{Exists, Forall}
use Rattle.qc_model.specs.declared.problem.Scope.{Scope}
use Rattle.qc_model.specs.Content.{Game}
use Rattle.qc_model.specs.Game.{IsMove}
use Rattle.qc_model.specs.Plan.{Plan}
use Rattle.qc_model.specs.Counter.{CanPassBlock, CounterWins, AnswersOnce}
use Rattle.qc_model.specs.Optimal.{Optimal}
use Rattle.qc_play.specs.Play.{Ending, at_goal, stuck_at, hopeless_at, missing_at, not_allowed_at, Turn, Play}

-- a counterstrategy that wins, with one reply for each tuple that it answers
pub record IsWinning (g : Game) (later : List Scope) (i : ℕ) (a : List ℤ) (s : Plan) : Type 0 where
  pub wins : CounterWins g later i a s
  pub once : AnswersOnce s

-- a tree to play by: the player's is an optimal strategy, the opponent's a counterstrategy that wins
abbrev pub IsSound : Kind → Game → List Scope → ℕ → List ℤ → Plan → Type 0
IsSound Exists g later i a s = Optimal g later i a s
IsSound Forall g later i a s = IsWinning g later i a s

-- the side may go on by this tree: it is sound, or nobody can pass the block any more, and then it may be any
abbrev pub MayGoOn : Kind → Game → List Scope → ℕ → List ℤ → Plan → Type 0
MayGoOn Exists g later i a s = Optimal g later i a s
MayGoOn Forall g later i a s = IsWinning g later i a s ⊎ (¬ CanPassBlock g later i a)

-- the values after these turns, where a are those before
abbrev pub values_after : List ℤ → List Turn → List ℤ
values_after a [] = a
values_after a (t ∷ ts) = values_after (a ++ t.tuple) ts

abbrev pub kind_at : Game → ℕ → Option Kind
kind_at g i = option_map (λ s. s.kind) (slice_get g.scopes i)

-- after the values a nobody can pass the later scopes of the block of scope i
abbrev pub IsHopeless : Game → ℕ → List ℤ → Type 0
IsHopeless g i a = ¬ CanPassBlock g (drop (suc i) g.scopes) (suc i) a

-- the opponent has no allowed tuple
pub record HasNoMove (g : Game) (i : ℕ) (a : List ℤ) : Type 0 where
  pub kind : kind_at g i ≡ Some Forall
  pub none : (t : List ℤ) → ¬ IsMove g i a t

-- each allowed tuple of the player is hopeless
pub record HasNoHope (g : Game) (i : ℕ) (a : List ℤ) : Type 0 where
  pub kind : kind_at g i ≡ Some Exists
  pub each : (t : List ℤ) → IsMove g i a t → IsHopeless g i (a ++ t)

-- the tuple that the player took last is
pub record TookHopeless (g : Game) (i : ℕ) (a : List ℤ) : Type 0 where
  pub kind : kind_at g i ≡ Some Exists
  pub hopeless : IsHopeless g i a

-- an end by an optimal strategy, and by a counterstrategy that wins; a has the values of all turns
abbrev pub EndsForPlan : Game → List ℤ → Ending → Type 0
EndsForPlan g a (at_goal holds) = holds ≡ true
EndsForPlan g a (stuck_at i) = HasNoMove g i a
EndsForPlan g a (hopeless_at i) = ⊥
EndsForPlan g a (missing_at i) = ⊤
EndsForPlan g a (not_allowed_at i) = ⊤

abbrev pub EndsForCounter : Game → List ℤ → Ending → Type 0
EndsForCounter g a (at_goal holds) = holds ≡ false
EndsForCounter g a (stuck_at i) = HasNoHope g i a
EndsForCounter g a (hopeless_at i) = TookHopeless g i a
EndsForCounter g a (missing_at i) = ⊤
EndsForCounter g a (not_allowed_at i) = ⊤

abbrev pub EndsFor : Kind → Game → List ℤ → Ending → Type 0
EndsFor Exists g a e = EndsForPlan g a e
EndsFor Forall g a e = EndsForCounter g a e

-- the play ends as it has to, with a tree of the scopes of this kind
abbrev pub EndsWell : Kind → Game → Play → Type 0
EndsWell own g p = EndsFor own g (values_after [] p.turns) p.ending
