-- What a free search stands on: the calls that it makes ask this of its store and its engine, and nothing else is promised.
use Rattle.std.specs.Prelude.{◌≡◌, IsTrue, IsFalse}
use Rattle.qc_model.specs.Content.{Game}
use Rattle.qc_model.specs.Domains.{has_empty}
use Rattle.model_arguments.specs.Asked.{is_box_of}
use Rattle.fd_store.specs.Held.{Held, Follows}
use Rattle.prop_engine.specs.Watching.{Knowing, IsReady}

-- values of the game's variables are left, and the engine is ready
pub record IsSound (g : Game) (e : Knowing) (s : Held) : Type 0 where
  pub declared : IsTrue (is_box_of g s.box)
  pub ready : IsReady g e

-- so it is with the store t, which comes after s
pub record Went (g : Game) (s : Held) (e : Knowing) (t : Held) : Type 0 where
  pub sound : IsSound g e t
  pub follows : Follows s t

-- so it is with the store t, which is as s was
pub record CameBack (g : Game) (s : Held) (e : Knowing) (t : Held) : Type 0 where
  pub sound : IsSound g e t
  pub box : t.box ≡ s.box
  pub past : t.past ≡ s.past

-- what holds between the calls: each variable has a value besides
pub record IsAtRest (g : Game) (e : Knowing) (s : Held) : Type 0 where
  pub sound : IsSound g e s
  pub full : IsFalse (has_empty s.box)
