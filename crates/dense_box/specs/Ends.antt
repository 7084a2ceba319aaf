-- Ends of a scope's own tree, and branches, over a game, the scope's number and a box.
use Rattle.std.specs.Prelude.{ℕ, Bool, not, ◌&&◌, cond, List, slice_get, ℤ}
use Rattle.qc_model.specs.Content.{Game}
use Rattle.qc_model.specs.Domains.{Box, has_empty, is_single, values_left}
use Rattle.qc_model.specs.Game.{is_of_scope, restriction}
use Rattle.proof_tree.specs.Place.{is_fixed}
use Rattle.dense_tree.specs.Free.{is_universal}
use Rattle.dense_tree.specs.Tuples.{all_hold, some_fails, is_tuple_of, box_taken}

-- something is left, and the scope is the player's, who goes on unless its restriction fails
abbrev pub needs_restriction_at : Game → ℕ → Box → Bool
needs_restriction_at g i box = not (has_empty box) && not (is_universal (slice_get g.scopes i))

-- the scope's values are single, and its restriction fails
abbrev pub is_barred_at : Game → ℕ → Box → Bool
is_barred_at g i box = not (has_empty box) && is_fixed g i box && some_fails (restriction g i) box

-- the opponent's scope goes on with one tuple that is allowed throughout, the player's unless its restriction fails
abbrev pub goes_on_at : Game → ℕ → Box → Bool
goes_on_at g i box =
    not (has_empty box)
    && cond (is_universal (slice_get g.scopes i)) (is_fixed g i box && all_hold (restriction g i) box) (not (some_fails (restriction g i) box))

-- the values are a tuple with which it goes on
abbrev pub is_chosen_at : Game → ℕ → Box → List ℤ → Bool
is_chosen_at g i box vs = is_tuple_of g i box vs && goes_on_at g i (box_taken g i box vs)

-- a branch may stand on x
abbrev pub is_branch_at : Game → ℕ → Box → ℕ → Bool
is_branch_at g i box x = not (has_empty box) && is_of_scope g i x && not (is_single (values_left box x))
