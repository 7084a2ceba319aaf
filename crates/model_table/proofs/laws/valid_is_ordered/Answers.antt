use Rattle.model_table.proofs.Ordered.{valid_ordered}
use Rattle.model_table.proofs.laws.valid_is_ordered.Goals as goal

pub returns : goal.returns
returns c = valid_ordered
