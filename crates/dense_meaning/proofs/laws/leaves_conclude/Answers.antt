use Rattle.dense_meaning.proofs.Answering.{answers_by_leaves, part_is_mark}
use Rattle.dense_meaning.proofs.Parts.{choosing_by_parts}
use Rattle.dense_meaning.proofs.laws.leaves_conclude.Goals as goal

pub returns-clause-answers : goal.returns-clause-answers
returns-clause-answers c = answers_by_leaves

pub returns-clause-choices : goal.returns-clause-choices
returns-clause-choices c = choosing_by_parts

pub returns-clause-marks : goal.returns-clause-marks
returns-clause-marks c = part_is_mark
