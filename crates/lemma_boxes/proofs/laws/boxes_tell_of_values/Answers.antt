use Rattle.lemma_boxes.proofs.Tells.{boxes_tell}
use Rattle.lemma_boxes.proofs.laws.boxes_tell_of_values.Goals as goal

pub returns : goal.returns
returns c = boxes_tell
