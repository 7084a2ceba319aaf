use Rattle.box_laws.proofs.Declared.{declared_is, declared_full}
use Rattle.box_laws.proofs.Whole.{whole_at}
use Rattle.box_laws.proofs.laws.declared_boxes.Goals as goal

pub returns-clause-declared : goal.returns-clause-declared
returns-clause-declared c = declared_is

pub returns-clause-full : goal.returns-clause-full
returns-clause-full c = declared_full

pub returns-clause-whole : goal.returns-clause-whole
returns-clause-whole c = whole_at
