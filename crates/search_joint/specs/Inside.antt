-- Boxes within others.
use Rattle.std.specs.Prelude.{◌≡◌, ◌<◌, ℕ, Bool, List, length, IsTrue, IsFalse}
use Rattle.qc_model.specs.declared.problem.VarId.{VarId}
use Rattle.qc_model.specs.Content.{Game}
use Rattle.qc_model.specs.Domains.{Box, values_left, has_empty, is_sub_box}
use Rattle.model_arguments.specs.Asked.{is_box_of}
use Rattle.prop_engine.specs.Closing.{IsClosedFor}
use Rattle.prop_engine.specs.Watching.{names}
use Rattle.search_joint.specs.Narrowed.{AreAmong}

-- x has values left, all of them among those of the other box, and is named where it lost some
pub record IsSettled (x : ℕ) (before after : List VarId) (box left large : Box) : Type 0 where
  pub full : IsFalse (has_empty box) → IsFalse (has_empty left)
  pub more : (y : ℕ) → IsTrue (names before y) → IsTrue (names after y)
  pub same : IsFalse (names after x) → values_left left x ≡ values_left box x
  pub among : AreAmong (values_left left x) (values_left large x)

-- so it is with each variable
pub record AreSettled (changed : List VarId) (box left large : Box) : Type 0 where
  pub full : IsFalse (has_empty left)
  pub count : length left ≡ length box
  pub others : (y : ℕ) → IsFalse (names changed y) → values_left left y ≡ values_left box y
  pub among : (y : ℕ) → y < length left → AreAmong (values_left left y) (values_left large y)

-- what is left of a box once it lies within another and is closed
pub record IsClosedInside (ok : ℕ → Bool) (g : Game) (left large : Box) : Type 0 where
  pub declared : IsTrue (is_box_of g left)
  pub inside : IsTrue (is_sub_box left large)
  pub closed : IsClosedFor ok g left
