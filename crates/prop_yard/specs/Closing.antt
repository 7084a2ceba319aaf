-- Boxes that are closed for all constraints of a problem.
use Rattle.std.specs.Prelude.{◌≡◌, ℕ, Bool, length, IsTrue, IsFalse, [], ◌∷◌}
use Rattle.qc_model.specs.Content.{Game}
use Rattle.qc_model.specs.Domains.{Box, has_empty}
use Rattle.model_arguments.specs.Asked.{is_box_of}
use Rattle.qc_model.specs.declared.problem.VarId.{VarId}
use Rattle.prop_engine.specs.Watching.{WasKept}
use Rattle.prop_engine.specs.Closing.{IsClosedFor, is_between}

-- the number is a constraint's
abbrev pub is_any : Game → ℕ → Bool
is_any g k = is_between 0 (length g.constraints) k

-- values of the declared domains, closed for all constraints
pub record IsClosedBox (g : Game) (box : Box) : Type 0 where
  pub count : length box ≡ length g.variables
  pub declared : IsTrue (is_box_of g box)
  pub closed : IsClosedFor (is_any g) g box

-- values of the declared domains, some for each variable, since x alone lost values from a box that was closed
pub record IsChangedAt (g : Game) (x : VarId) (box : Box) : Type 0 where
  pub declared : IsTrue (is_box_of g box)
  pub full : IsFalse (has_empty box)
  pub earlier : WasKept (is_any g) g (x ∷ []) box
