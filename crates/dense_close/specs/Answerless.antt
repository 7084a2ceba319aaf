-- Moves that have no answer, as `dense_tree/specs/InPlace.antt` has them, over a game and the number of a scope.
use Rattle.std.specs.Prelude.{ℕ, nat_le, Bool, ◌&&◌, ◌||◌, slice_get}
use Rattle.std.specs.List.{list_any}
use Rattle.qc_model.specs.Arguments.{variables_of}
use Rattle.qc_model.specs.Closed.{refutes_at}
use Rattle.qc_model.specs.Content.{Game, Rule}
use Rattle.qc_model.specs.Domains.{Box, values_left, least_value, greatest_value}
use Rattle.proof_tree.specs.Place.{owner_of}
use Rattle.dense_tree.specs.Free.{is_universal, is_unrestricted}

-- x is a variable of the opponent, of an unrestricted scope from i on
abbrev pub is_open_move : Game → ℕ → ℕ → Bool
is_open_move g i x =
    let owner = owner_of (slice_get g.variables x) in
    nat_le i owner && is_universal (slice_get g.scopes owner) && is_unrestricted g owner

-- it is, and the constraint refutes the box with one of its ends
abbrev pub is_answerless_by : Game → ℕ → Box → Rule → ℕ → Bool
is_answerless_by g i box c x =
    is_open_move g i x && (refutes_at c box x (least_value (values_left box x)) || refutes_at c box x (greatest_value (values_left box x)))

abbrev pub is_answerless : Game → ℕ → Box → Rule → Bool
is_answerless g i box c = list_any (is_answerless_by g i box c) (variables_of c.args)
