-- What holds of each place at which a line of a dense tree stands: what is carried from the root down.
use Rattle.std.specs.Prelude.{◌≡◌, ◌≤◌, ℕ, suc, Bool, true, false, ◌&&◌, cond, List, [], ◌∷◌, ◌++◌, length, take, drop, ⊤, IsTrue, ℤ}
use Rattle.std.specs.List.{list_all}
use Rattle.qc_model.specs.declared.problem.Kind.{Kind}
use Rattle.qc_model.specs.declared.problem.Kind.TheVariants.{Exists, Forall}
use Rattle.qc_model.specs.declared.problem.Scope.{Scope}
use Rattle.qc_model.specs.Content.{Game}
use Rattle.qc_model.specs.Block.{block_stop}
use Rattle.qc_model.specs.Domains.{InBox, Box, Values, has_empty}
use Rattle.qc_model.specs.Game.{before, IsMove}
use Rattle.qc_model.specs.Demands.{demands}
use Rattle.qc_model.specs.Optimal.{Optimal}
use Rattle.qc_model.specs.Plan.{Plan}
use Rattle.model_arguments.specs.Asked.{is_box_of}
use Rattle.proof_tree.specs.Fair.{free_stop, bounded_within}
use Rattle.proof_tree.specs.Good.{IsBlocked}
use Rattle.proof_tree.specs.Place.{next_scopes}
use Rattle.proof_meaning.proofs.Reach.{reach}
use Rattle.dense_meaning.specs.Throughout.{IsPositionIn, PlaysLie}
use Rattle.dense_tree.specs.Place.{Setting, Place, is_players, is_opponents}

-- each allowed tuple of the opponent leads on in the box, from each position in it; the first of the scopes has the number i
abbrev pub OpponentStays : Kind → Game → ℕ → Box → Type 0
OpponentStays Exists g i box = ⊤
OpponentStays Forall g i box = (a t : List ℤ) → IsPositionIn g i box a → IsMove g i a t → InBox (a ++ t) box

abbrev pub MovesStay : Game → List Scope → ℕ → Box → Type 0
MovesStay g [] i box = ⊤
MovesStay g (s ∷ later) i box = OpponentStays s.kind g i box × MovesStay g later (suc i) box

-- where nothing is bounded, a strategy lies in the box whatever it chooses; below a bound, where its choices up to the next wish of the
-- block lie in it
abbrev pub kept_to : Bool → List Scope → ℕ → ℕ
kept_to bounded scopes i = cond bounded (free_stop scopes i) i

-- from each position in the box, all plays of each optimal strategy whose choices before scope stop lie in the box lie in it
abbrev pub OptimalStay : Game → List Scope → ℕ → ℕ → Box → Type 0
OptimalStay g later i stop box =
    (a : List ℤ) → IsPositionIn g i box a → (r : Plan) → Optimal g later i a r → InBox (take (before g stop) (reach a r)) box → PlaysLie box a r

-- so at each of the scopes, where bounded says whether a bound stands above in the block of the first; a bound ends with its block
abbrev pub StrategiesStay : Game → Bool → List Scope → ℕ → Box → Type 0
StrategiesStay g bounded [] i box = ⊤
StrategiesStay g bounded (s ∷ later) i box =
    OptimalStay g (s ∷ later) i (kept_to bounded (s ∷ later) i) box × StrategiesStay g (bounded_within s.kind bounded) later (suc i) box

-- not several values
abbrev pub at_most_one : Values → Bool
at_most_one [] = true
at_most_one (v ∷ []) = true
at_most_one (v ∷ w ∷ vs) = false

-- what each place has
pub record Stands (s : Setting) (p : Place) : Type 0 where
  pub number : p.number ≤ length s.game.scopes
  pub later : p.later ≡ drop p.number s.game.scopes
  pub list : p.list ≡ demands s.game p.number
  pub box : IsTrue (is_box_of s.game p.box)
  -- no variable behind the block is without values
  pub behind : has_empty (drop (before s.game (block_stop p.later p.number)) p.box) ≡ false
  -- outside loose parts no earlier variable is open
  pub strict : p.loose ≡ false → IsTrue (list_all at_most_one (take (before s.game p.number) p.box))
  -- and nobody passes the horizon in force
  pub blocked : p.loose ≡ false → (a : List ℤ) → IsPositionIn s.game p.number p.box a → IsBlocked s.game p.number a p.box p.horizon

-- a node
pub record StandsNode (s : Setting) (p : Place) : Type 0 where
  pub stands : Stands s p
  pub full : has_empty p.box ≡ false
  pub moves : MovesStay s.game p.later p.number p.box
  pub strategies : StrategiesStay s.game p.bounded p.later p.number p.box

-- a part of a scope's own tree. Of the scope's own values some may have been set apart, so it speaks of the scopes after it
pub record StandsPart (s : Setting) (p : Place) : Type 0 where
  pub stands : Stands s p
  pub full : is_opponents p ≡ true → has_empty p.box ≡ false
  pub moves : MovesStay s.game (next_scopes p.later) (suc p.number) p.box
  pub strategies : StrategiesStay s.game (p.bounded && is_players p) (next_scopes p.later) (suc p.number) p.box
