-- The first law of the table, for the constraints of a valid game.
use Rattle.qc_model.specs.Content.{Game}
use Rattle.qc_model.specs.Meaning.{meaning_of}
use Rattle.qc_model.specs.Valid.{IsValid}
use Rattle.qc_model.specs.Table.{IsTableSound}
use Rattle.qc_model.proofs.Visible.{given_fits}
use Rattle.model_table.proofs.Typed.{given_of, lefts_of}
use Rattle.model_table.proofs.Kinded.{kinds_of}
use Rattle.model_table.proofs.Refutes.{refutes}
use Rattle.model_table.proofs.Ordered.{constraint_at}

pub valid_table_sound : (g : Game) → IsValid g → IsTableSound g
valid_table_sound g v k c box w e l b r i h =
    refutes (meaning_of c.pred) (given_of w c.args) (lefts_of box c.args)
    (kinds_of g.variables w box c (constraint_at g v k c e) b l)
    (given_fits w box c.args i l) r h
