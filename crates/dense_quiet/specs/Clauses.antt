-- Literals of clauses that don't fail.
use Rattle.std.specs.Prelude.{◌≡◌, ◌<◌, ℕ, Some, slice_get, pos, ⊤, IsFalse}
use Rattle.qc_model.specs.declared.problem.Arg.{Arg}
use Rattle.qc_model.specs.Content.{Rule}
use Rattle.qc_model.specs.Domains.{Box}
use Rattle.qc_model.specs.Left.{is_only}
use Rattle.qc_model.specs.Refuted.{left_to}
use Rattle.model_arguments.specs.Written.{args_at}
use Rattle.dense_closing.specs.Takes.{Takes}
use Rattle.dense_quiet.specs.declared.clauses.Found.{Found}
use Rattle.dense_quiet.specs.declared.clauses.Found.TheVariants.{Nothing, Spare, Enough}
use Rattle.dense_quiet.specs.Slack.{SparesTaken}

-- an item of the first array, to which not 0 alone is left, or of the second, to which not 1 alone is left
pub record IsSpare (c : Rule) (box : Box) (a : Arg) : Type 0 where
  pub array : ℕ
  pub place : ℕ
  pub two : array < 2
  pub item : slice_get (args_at c.args array) place ≡ Some a
  pub spare : IsFalse (is_only (pos array) (left_to box a))

-- the literal that was found doesn't fail; enough were found where the clause refutes nothing, whatever it may take
abbrev pub FoundTells : Found → Rule → Box → Type 0
FoundTells Nothing c box = ⊤
FoundTells (Spare a) c box = IsSpare c box a
FoundTells Enough c box = (takes : Takes) → SparesTaken takes c box
