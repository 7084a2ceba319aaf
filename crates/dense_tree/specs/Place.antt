-- Where a node, or a part of a scope's own tree, stands.
use Rattle.std.specs.Prelude.{ℕ, suc, Bool, true, false, not, ◌&&◌, ◌||◌, Option, None, List, [], ◌∷◌}
use Rattle.qc_model.specs.declared.problem.Condition.{Condition}
use Rattle.qc_model.specs.declared.problem.Scope.{Scope}
use Rattle.qc_model.specs.Content.{Game, Rule}
use Rattle.qc_model.specs.Block.{of_kind, constraints_within}
use Rattle.qc_model.specs.Domains.{Box, declared_box}
use Rattle.qc_model.specs.Game.{restriction}
use Rattle.proof_tree.specs.Place.{is_fixed, list_after, next_scopes}
use Rattle.dense_closing.specs.ClosingSteps.{greatest_closed}
use Rattle.dense_tree.specs.Tree.{Given}
use Rattle.dense_tree.specs.Free.{takes, joint_stop, is_unrestricted}

-- what is the same for a whole certificate
pub record Setting : Type 0 where
  pub game : Game
  pub given : List Given

pub record Place : Type 0 where
  -- the scope's number, the scopes from it on, and what is demanded of it
  pub number : ℕ
  pub later : List Scope
  pub list : List Condition
  pub box : Box
  -- the horizon in force
  pub horizon : Option ℕ
  -- a scope of the player above went on with several values left
  pub loose : Bool
  -- a bound of the block stands above
  pub bounded : Bool

abbrev pub root_place : Game → Place
root_place g = record { number = 0; later = g.scopes; list = []; box = declared_box g; horizon = None; loose = false; bounded = false }

-- whose scope it is; the goal is nobody's
abbrev pub is_opponents : Place → Bool
is_opponents p = of_first p.later
  where
    of_first : List Scope → Bool
    of_first [] = false
    of_first (s ∷ later) = of_kind s.kind false true

abbrev pub is_players : Place → Bool
is_players p = of_first p.later
  where
    of_first : List Scope → Bool
    of_first [] = false
    of_first (s ∷ later) = of_kind s.kind true false

-- its opponent may take any tuple
abbrev pub is_free_choice : Setting → Place → Bool
is_free_choice s p = is_opponents p && is_unrestricted s.game p.number

abbrev pub restricted : Setting → Place → List Rule
restricted s p = restriction s.game p.number

-- the constraints in force
abbrev pub forced : Setting → Place → List Rule
forced s p = constraints_within s.game p.number (joint_stop s.game s.given p.later p.number)

-- the greatest box within its own that is closed for them, or none
abbrev pub closed_box : Setting → Place → Option Box
closed_box s p = greatest_closed (takes s.game) s.game p.number (joint_stop s.game s.given p.later p.number) p.box

abbrev pub with_box : Box → Place → Place
with_box box p = record p { box = box }

-- the next scope's node, after the box
abbrev pub place_below : Setting → Place → Place
place_below s p = record {
  number = suc p.number;
  later = next_scopes p.later;
  list = list_after s.game p.later p.list;
  box = p.box;
  horizon = p.horizon;
  loose = p.loose || not (is_fixed s.game p.number p.box);
  bounded = p.bounded && is_players p;
}
