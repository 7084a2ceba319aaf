use Rattle.text_valid.proofs.Parts.{declared_names}
use Rattle.text_valid.proofs.laws.names_are_names.Goals as goal

pub returns : goal.returns
returns c = declared_names
