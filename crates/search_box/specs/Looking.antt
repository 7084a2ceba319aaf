-- What is found ahead of a node.
use Rattle.std.specs.Prelude.{ℕ, suc, Option, None, Some, length, drop, IsTrue}
use Rattle.std.specs.Option.{option_map}
use Rattle.qc_model.specs.declared.problem.ScopeId.{ScopeId}
use Rattle.qc_model.specs.Content.{Game}
use Rattle.qc_model.specs.Domains.{Box}
use Rattle.proof_tree.specs.declared.tree.Horizon.{Horizon}
use Rattle.proof_tree.specs.Diligent.{SeesAhead}
use Rattle.proof_tree.specs.InPlace.{horizon_in_place, horizon_below}
use Rattle.proof_tree.specs.Text.{horizon_fits}

abbrev pub scope_number : Option ScopeId → Option ℕ
scope_number h = option_map (λ k. k.0) h

-- a horizon z, or none, at a node of scope i with this box: it stands in place below the horizon in force h, fits the text,
-- and with it the node sees ahead
pub record LooksAhead (g : Game) (i : ℕ) (box : Box) (h : Option ℕ) (z : Option Horizon) : Type 0 where
  pub placed : IsTrue (horizon_in_place g z (drop i g.scopes) i box h)
  pub fits : IsTrue (horizon_fits z)
  pub foreseen : SeesAhead g (drop i g.scopes) i box (horizon_below z h)

-- the first number that needn't be looked at: that of the horizon in force, or else the one after the goal's
abbrev pub first_unseen : Game → Option ℕ → ℕ
first_unseen g None = suc (length g.scopes)
first_unseen g (Some h) = h
