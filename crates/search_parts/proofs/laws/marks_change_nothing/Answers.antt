use Rattle.search_parts.proofs.Sure.{without_marks}
use Rattle.search_parts.proofs.laws.marks_change_nothing.Goals as goal

pub returns : goal.returns
returns c = without_marks
