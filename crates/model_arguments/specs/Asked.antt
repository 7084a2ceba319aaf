-- What is asked of a store and a constraint that are brought together.
use Rattle.std.specs.Prelude.{Bool, IsTrue, IsFalse}
use Rattle.qc_model.specs.Content.{Game, Rule}
use Rattle.qc_model.specs.Domains.{Box, declared_box, has_empty, is_sub_box}
use Rattle.qc_model.specs.Valid.{is_constraint}

-- values of the domains that the problem declares, ascending, for as many variables
abbrev pub is_box_of : Game → Box → Bool
is_box_of g box = is_sub_box box (declared_box g)

-- a constraint as a problem has them, on values of the problem's variables, each of which has some
pub record IsAsked (g : Game) (c : Rule) (box : Box) : Type 0 where
  pub rule : IsTrue (is_constraint g.variables c)
  pub declared : IsTrue (is_box_of g box)
  pub full : IsFalse (has_empty box)
