-- What proofs about certificates ask of a game and of the table of predicates.
use Rattle.std.specs.Prelude.{◌≡◌, ℕ, suc, List, length, slice_get, Some, true, false, ℤ}
use Rattle.qc_model.specs.Content.{Game, Rule}
use Rattle.qc_model.specs.Domains.{Box, InBox, declared_box, has_empty}
use Rattle.qc_model.specs.Game.{before}
use Rattle.qc_model.specs.Holds.{holds_on}
use Rattle.qc_model.specs.Refuted.{refuted_by}
use Rattle.qc_model.specs.Visible.{ArgumentsBelow}

-- a game each of whose constraints sees only variables up to its own scope
pub record IsOrdered (g : Game) : Type 0 where
  pub no_empty : has_empty (declared_box g) ≡ false
  pub visible : (k : ℕ) (c : Rule) → slice_get g.constraints k ≡ Some c → ArgumentsBelow (before g (suc c.owner.0)) c.args
  -- the goal has no variables of its own
  pub goal : before g (suc (length g.scopes)) ≡ before g (length g.scopes)

-- the first law of the table, for the constraints of a game: where one refutes a box, no declared values in the
-- box satisfy it. It wants values that are declared, since a test of a truth value knows only 0 and 1
abbrev pub IsTableSound : Game → Type 0
IsTableSound g =
    (k : ℕ) (c : Rule) (box : Box) (w : List ℤ) → slice_get g.constraints k ≡ Some c → ArgumentsBelow (length w) c.args → InBox w (declared_box g) →
    refuted_by c box ≡ true → InBox w box → holds_on c w ≡ true → ⊥
