-- How the program ends over the files and the output of the system, of which nothing is told.
use Rattle.std.specs.Prelude.{◌≡◌, ℕ, Option, None}
use Rattle.qc_io.specs.Counts.{Rose, RoseBy}
use Rattle.qecode_commands.specs.declared.status.Status.{Status}
use Rattle.qecode_commands.specs.declared.status.Status.TheVariants.{ReadFault}
use Rattle.part_commands.specs.Words.{Asked}
use Rattle.part_commands.specs.Answers.{Answers}
use Rattle.qecode_commands.specs.Files.{Wrote}

-- what is asked can end so; all counts begin at 0
pub record EndsRight (asked : Option Asked) (status : Status) : Type 0 where
  -- faults of the output
  pub faults : ℕ
  pub given : ℕ
  pub wrote : Wrote None None 0 faults status (Answers asked (λ name. None) (λ n. RoseBy n 0 given))
  -- faults of the files
  pub read_faults : ℕ
  pub read_fault : status ≡ ReadFault → Rose 0 read_faults
  pub no_read_fault : (status ≡ ReadFault → ⊥) → read_faults ≡ 0
