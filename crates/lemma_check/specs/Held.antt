-- What is known of the values that are left, whatever items came.
use Rattle.std.specs.Prelude.{◌≡◌, IsTrue}
use Rattle.qc_model.specs.Content.{Game}
use Rattle.qc_model.specs.Domains.{declared_box}
use Rattle.model_arguments.specs.Asked.{is_box_of}
use Rattle.fd_store.specs.Held.{Held, past_box}

-- they are values of the declared domains, to which undoing leads back
pub record IsHeldOf (g : Game) (h : Held) : Type 0 where
  pub declared : IsTrue (is_box_of g h.box)
  pub first : past_box h 0 ≡ declared_box g
