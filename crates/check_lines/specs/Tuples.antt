-- Whether the tuple of a scope is allowed.
use Rattle.std.specs.Prelude.{ℕ, suc, Bool, not, ◌&&◌, cond, Option, Some, None}
use Rattle.qc_model.specs.Content.{Game}
use Rattle.qc_model.specs.Domains.{Box, has_empty}
use Rattle.qc_model.specs.Game.{allows}
use Rattle.proof_tree.specs.Place.{position, is_fixed}

-- whether the values of scope i, and of those before it, pass its restriction, where each of its variables has one value
-- left and no variable has none
abbrev pub tuple_of : Game → ℕ → Box → Option Bool
tuple_of g i box = cond (not (has_empty box) && is_fixed g i box) (Some (allows g i (position g (suc i) box))) None

abbrev pub is_tuple : Bool → Option Bool → Bool
is_tuple b None = Rattle.std.specs.Prelude.false
is_tuple b (Some a) = cond b a (not a)
