-- What a reading of a constraint promises of it.
use Rattle.std.specs.Prelude.{⊤, IsTrue}
use Rattle.qc_model.specs.Arguments.{variables_of}
use Rattle.qc_model.specs.Content.{Rule}
use Rattle.qc_model.specs.Domains.{Box}
use Rattle.qc_model.specs.Lists.{Distinct}
use Rattle.qc_model.specs.Refuted.{refuted_by}
use Rattle.dense_closing.specs.Takes.{Takes}
use Rattle.dense_quiet.specs.declared.seeing.Advice.{Advice}
use Rattle.dense_quiet.specs.declared.seeing.Advice.TheVariants.{Room, Filled, Ends}
use Rattle.dense_quiet.specs.declared.seeing.Seen.{Seen}
use Rattle.dense_quiet.specs.declared.seeing.Seen.TheVariants.{Quiet, Refuted, Bounded, Advised, Nothing}
use Rattle.dense_quiet.specs.Slack.{RoomTells, IsBounded, IsLong, SparesTaken}

-- the room of a sum tells how far each of its terms can go; all else is a guess, and one by ends may be sure where no variable stands
-- twice
abbrev pub AdviceTells : Advice → Rule → Box → Type 0
AdviceTells (Room r) c box = IsLong r × RoomTells c r box
AdviceTells (Filled s) c box = ⊤
AdviceTells Ends c box = Distinct (variables_of c.args)

-- it refutes nothing that it may take, or the box; or it is an at-most sum with this room; or there is advice on it
abbrev pub SeenTells : Seen → Takes → Rule → Box → Type 0
SeenTells Quiet takes c box = SparesTaken takes c box
SeenTells Refuted takes c box = IsTrue (refuted_by c box)
SeenTells (Bounded s) takes c box = IsBounded c s box
SeenTells (Advised a) takes c box = AdviceTells a c box
SeenTells Nothing takes c box = ⊤
