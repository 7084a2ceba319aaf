-- What a search box keeps of its parts.
use Rattle.std.specs.Prelude.{◌≡◌, Bool, List, length, IsTrue, ℤ}
use Rattle.qc_model.specs.Content.{Game}
use Rattle.model_arguments.specs.Asked.{is_box_of}
use Rattle.fd_store.specs.Held.{Held}
use Rattle.prop_engine.specs.Watching.{Knowing, IsReady}
use Rattle.search_box.specs.declared.foresight.Foresight.{Foresight}
use Rattle.search_box.specs.Complete.{each_shown}
use Rattle.search_box.specs.Foreseen.{IsForeseen}

-- values of the game's variables are left, the engine is ready, the boxes on the way are of the game, there is a place for
-- each variable, a closing that is known was one, and it is known whether each constraint has a variable or holds without any
pub record IsSound (g : Game) (s : Held) (e : Knowing) (way : Game) (vs : List ℤ) (f : Foresight) (all_shown : Bool) : Type 0 where
  pub declared : IsTrue (is_box_of g s.box)
  pub ready : IsReady g e
  pub same : way ≡ g
  pub value_each : length vs ≡ length g.variables
  pub foreseen : IsTrue f.known → IsForeseen g s f
  pub shown : all_shown ≡ each_shown g.constraints
