-- What `run` answers and writes.
use Rattle.std.specs.Prelude.{◌≡◌, ℕ, List, codes, Option, Some, None}
use Rattle.qecode_commands.specs.declared.status.Status.{Status}
use Rattle.qecode_commands.specs.declared.status.Status.TheVariants.{Usage}
use Rattle.qecode_commands.specs.Answers.{AnswersProblem, SolvesProblem}
use Rattle.qecode_commands.specs.Readings.{AnswersReading}
use Rattle.tell_commands.specs.Allowed.{ListsFile}
use Rattle.tell_commands.specs.Opening.{BeginsFile}
use Rattle.tell_commands.specs.Words.{Asked, begins, lists, hopes, assures}

-- what is answered for what is asked: a table for each command
abbrev pub AnswersAsked : Asked → (List ℕ → Option (List ℕ)) → (ℕ → Type 0) → Status → List ℕ → Type 0
AnswersAsked (begins problem certificate) told gave status text =
    AnswersProblem (BeginsFile certificate (told certificate) gave) problem (told problem) gave status text
AnswersAsked (lists problem position most) told gave status text =
    AnswersProblem (ListsFile most position (told position) gave) problem (told problem) gave status text
AnswersAsked (hopes name turns) told gave status text = AnswersProblem (SolvesProblem turns) name (told name) gave status text
AnswersAsked (assures name places turns) told gave status text =
    AnswersProblem (AnswersReading places (SolvesProblem turns)) name (told name) gave status text

-- what is answered for the words; told gives the bytes of the names that are told
abbrev pub Answers : Option Asked → (List ℕ → Option (List ℕ)) → (ℕ → Type 0) → Status → List ℕ → Type 0
Answers None told gave Usage text = text ≡ codes "usage: qtell first PROBLEM CERTIFICATE | allowed PROBLEM POSITION [--most N] | gap PROBLEM SCOPE --hopeful [--turns N] | gap PROBLEM SCOPE --sure [--turns N]\n"
Answers None told gave status text = ⊥
Answers (Some asked) told gave status text = AnswersAsked asked told gave status text
