-- What a run answers in which nothing failed, and where memory sufficed.
use Rattle.std.specs.Prelude.{◌≡◌, ◌⊎◌, ◌≤◌, ⊤, ℕ, List, length, Option, Some, None, IfSome, IsTrue, IsFalse}
use Rattle.qc_model.specs.Content.{Game}
use Rattle.qc_model.specs.Domains.{has_empty}
use Rattle.proof_tree.specs.Proves.{optimises_first}
use Rattle.game_search.specs.declared.pieces.Keep.{Keep}
use Rattle.game_search.specs.Pieces.{kept_box}
use Rattle.qecode_commands.specs.declared.status.Status.{Status}
use Rattle.qecode_commands.specs.declared.status.Status.TheVariants.{Done, Open, Usage}
use Rattle.qecode_commands.specs.Complete.{TellsProblem}
use Rattle.part_commands.specs.Words.{Asked}
use Rattle.part_commands.specs.Pieces.{keeps_of, first_unknown}

-- the variables are there and keep some values, and a value was reached only where the first scope has a wish
pub record HasPiece (asked : Asked) (g : Game) : Type 0 where
  pub known : first_unknown g asked.keeps ≡ None
  pub wished : IfSome asked.reached (λ value. IsTrue (optimises_first g.scopes))
  pub some : (keeps : List Keep) → keeps_of g asked.keeps ≡ Some keeps → IsFalse (has_empty (kept_box g keeps))

-- a piece that is there is settled, or left open
abbrev pub Completes : Asked → (List ℕ → Option (List ℕ)) → Status → Type 0
Completes asked told status = (g : Game) → TellsProblem (told asked.problem) g → HasPiece asked g → (status ≡ Done) ⊎ (status ≡ Open)

abbrev pub IsComplete : Option Asked → (List ℕ → Option (List ℕ)) → Status → Type 0
IsComplete None told status = status ≡ Usage
IsComplete (Some asked) told status = Completes asked told status

-- where memory may run out: words that ask for nothing need none, unless they are so many that some may be keeps
abbrev pub MayRunOut : List (List ℕ) → Option Asked → Type 0
MayRunOut words None = 6 ≤ length words
MayRunOut words (Some asked) = ⊤
