-- Where a search is: what the clauses of its calls speak of.
use Rattle.std.specs.Prelude.{ℕ, suc, Bool, Option, List, ℤ}
use Rattle.qc_model.specs.Content.{Game}
use Rattle.qc_model.specs.Domains.{Box}
use Rattle.qc_model.specs.Verdict.{Seen}
use Rattle.search_box.specs.Looking.{scope_number}
use Rattle.search_walk.specs.Rivals.{above_at, outdoes}
use Rattle.search_walk.specs.declared.stage.Stage.{Stage}
use Rattle.search_walk.specs.declared.walk.Walk.{Walk}

-- a node of this scope, or of the goal, in this box, below the horizon in force: whether what was settled is cut, and which
-- bounds the scope right above beats
pub record Here : Type 0 where
  pub cuts : Bool
  pub above : ℤ → Bool
  pub game : Game
  pub number : ℕ
  pub box : Box
  pub horizon : Option ℕ

abbrev pub here_at : Bool → (ℤ → Bool) → Game → ℕ → Box → Option ℕ → Here
here_at cuts above g i box h = record { cuts = cuts; above = above; game = g; number = i; box = box; horizon = h }

-- the same in another box; below another horizon; below a scope that beats other bounds
abbrev pub in_box : Here → Box → Here
in_box p box = here_at p.cuts p.above p.game p.number box p.horizon

abbrev pub at_horizon : Here → Option ℕ → Here
at_horizon p h = here_at p.cuts p.above p.game p.number p.box h

abbrev pub with_above : Here → (ℤ → Bool) → Here
with_above p above = here_at p.cuts above p.game p.number p.box p.horizon

abbrev pub node_of : Bool → (ℤ → Bool) → Game → ℕ → Option ℕ → Walk → Here
node_of cuts above g i h w = here_at cuts above g i w.remains.store.box h

-- at the stage's scope
abbrev pub here_of : Stage → Walk → Here
here_of s w = node_of s.cuts (outdoes s.level.now.problem.now s.level.now.number s.rival) s.level.now.problem.now s.level.now.number (scope_number s.horizon) w

-- at the node below it, of which the scope right above beats these bounds, or has seen this
abbrev pub node_below : Stage → (ℤ → Bool) → Walk → Here
node_below s above w = node_of s.cuts above s.level.now.problem.now (suc s.level.now.number) (scope_number s.horizon) w

abbrev pub below_of : Stage → List Seen → Walk → Here
below_of s up w = node_below s (above_at s.level.now.problem.now (suc s.level.now.number) up) w
