-- What `run` answers and writes.
use Rattle.std.specs.Prelude.{◌≡◌, ◌⊎◌, ℕ, List, [], codes, Option, Some, None}
use Rattle.qc_model.specs.Content.{Game}
use Rattle.qecode_commands.specs.declared.status.Status.{Status}
use Rattle.qecode_commands.specs.declared.status.Status.TheVariants.{Done, Open, Usage, Memory, NoReading}
use Rattle.qecode_commands.specs.Answers.{AnswersProblem}
use Rattle.part_commands.specs.Words.{Asked}
use Rattle.part_commands.specs.Pieces.{unknown_line, IsPiece, HasNoVariable, HasNoCondition, HasNoValue}

-- what is answered where a variable of this name isn't there
abbrev pub TellsUnknown : List ℕ → Status → List ℕ → Type 0
TellsUnknown name NoReading text = text ≡ unknown_line name
TellsUnknown name Memory text = text ≡ []
TellsUnknown name status text = ⊥

-- what is answered where there is no such piece
abbrev pub HasNoPiece : Asked → Game → List ℕ → Type 0
HasNoPiece asked g text = HasNoVariable asked g text ⊎ HasNoCondition asked g text ⊎ HasNoValue asked g text

-- what is answered for a problem
abbrev pub SolvesPiece : Asked → Game → Status → List ℕ → Type 0
SolvesPiece asked g Done text = IsPiece asked g Done text
SolvesPiece asked g Open text = IsPiece asked g Open text
SolvesPiece asked g NoReading text = HasNoPiece asked g text
SolvesPiece asked g Memory text = text ≡ []
SolvesPiece asked g status text = ⊥

-- what is answered for the words; told gives the bytes of the names that are told
abbrev pub Answers : Option Asked → (List ℕ → Option (List ℕ)) → (ℕ → Type 0) → Status → List ℕ → Type 0
Answers None told gave Usage text = text ≡ codes "usage: qpart solve PROBLEM [--keep X L H].. [--reached V] [--turns N]\n"
Answers None told gave Memory text = text ≡ []
Answers None told gave status text = ⊥
Answers (Some asked) told gave status text = AnswersProblem (SolvesPiece asked) asked.problem (told asked.problem) gave status text
