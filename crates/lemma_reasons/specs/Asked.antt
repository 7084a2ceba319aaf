-- What is asked of a box.
use Rattle.std.specs.Prelude.{IsTrue, IsFalse}
use Rattle.qc_model.specs.Content.{Game}
use Rattle.qc_model.specs.Domains.{Box, has_empty}
use Rattle.model_arguments.specs.Asked.{is_box_of}

-- values of the domains that the problem declares, some for each variable
pub record IsFullBox (g : Game) (box : Box) : Type 0 where
  pub declared : IsTrue (is_box_of g box)
  pub full : IsFalse (has_empty box)
