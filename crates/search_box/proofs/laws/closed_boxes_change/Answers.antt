use Rattle.search_box.proofs.Goings.{closed_full, closed_now, closed_before, closed_in_block}
use Rattle.search_box.proofs.laws.closed_boxes_change.Goals as goal

pub returns-clause-none : goal.returns-clause-none
returns-clause-none c = closed_now

pub returns-clause-one_more : goal.returns-clause-one_more
returns-clause-one_more c = closed_before

pub returns-clause-in_block : goal.returns-clause-in_block
returns-clause-in_block c = closed_in_block

pub returns-clause-full : goal.returns-clause-full
returns-clause-full c = closed_full
