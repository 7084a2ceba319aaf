-- What the meaning of a tree rests on, all of which valid games have.
use Rattle.qc_model.specs.Content.{Game}
use Rattle.qc_model.specs.Valid.{IsValid}
use Rattle.qc_model.specs.Table.{IsOrdered, IsTableSound}
use Rattle.model_table.proofs.Ordered.{valid_ordered}
use Rattle.model_table.proofs.Valid.{valid_table_sound}

-- the game is valid and in order, and its constraints keep the first law of the table
pub record IsSound (g : Game) : Type 0 where
  pub valid : IsValid g
  pub table : IsTableSound g
  pub ordered : IsOrdered g

pub sound_of : (g : Game) → IsValid g → IsSound g
sound_of g v = record { valid = v; table = valid_table_sound g v; ordered = valid_ordered g v }
