-- What a run answers in which nothing failed, and where memory sufficed.
use Rattle.std.specs.Prelude.{◌≡◌, ◌≤◌, ℕ, Bool, true, false, List, length, Option, Some, None}
use Rattle.qc_model.specs.declared.problem.Kind.{Kind}
use Rattle.qc_model.specs.Content.{Game}
use Rattle.qc_model.specs.Turns.{full_turns_of}
use Rattle.proof_tree.specs.Tree.{Tree}
use Rattle.tell_moves.specs.Stands.{Place, before_scope, after_all, left_over, missing_at, not_allowed_at, place_of}
use Rattle.qecode_commands.specs.declared.status.Status.{Status}
use Rattle.qecode_commands.specs.declared.status.Status.TheVariants.{Done, Usage}
use Rattle.qecode_commands.specs.Complete.{TellsProblem, TellsSide, TellsReading}
use Rattle.qecode_commands.specs.Moves.{bad_moves_at, moves_of}
use Rattle.qecode_commands.specs.Readings.{worst_game}
use Rattle.tell_commands.specs.Words.{Asked, begins, lists, hopes, assures}

-- the values end before a scope, or after the last one
abbrev pub is_position : Place → Bool
is_position (before_scope i a) = true
is_position after_all = true
is_position left_over = false
is_position (missing_at i) = false
is_position (not_allowed_at i) = false

-- the file is told, and has the values of a position
pub record TellsPosition (told : Option (List ℕ)) (g : Game) : Type 0 where
  pub bytes : List ℕ
  pub told_is : told ≡ Some bytes
  pub within : length bytes ≤ 65536
  pub good : bad_moves_at bytes ≡ None
  pub stands : is_position (place_of g (moves_of bytes)) ≡ true

-- Of a certificate that proves that the game is won, or that it isn't, it is told how it begins; at a position the allowed
-- tuples are listed. A certificate is written where the turns are as many as the game can take.
abbrev pub Completes : Asked → (List ℕ → Option (List ℕ)) → Status → Type 0
Completes (begins problem certificate) told status =
    (g : Game) (own : Kind) (root : Tree) → TellsProblem (told problem) g → TellsSide (told certificate) g own root → status ≡ Done
Completes (lists problem position most) told status =
    (g : Game) → TellsProblem (told problem) g → TellsPosition (told position) g → status ≡ Done
Completes (hopes name turns) told status = (g : Game) → TellsProblem (told name) g → full_turns_of g ≤ turns → status ≡ Done
Completes (assures name places turns) told status =
    (g : Game) → TellsReading (told name) places g → full_turns_of (worst_game places g) ≤ turns → status ≡ Done

abbrev pub IsComplete : Option Asked → (List ℕ → Option (List ℕ)) → Status → Type 0
IsComplete None told status = status ≡ Usage
IsComplete (Some asked) told status = Completes asked told status
