use Rattle.search_box.proofs.Entering.{entered_before, entered_same}
use Rattle.search_box.proofs.Goings.{kept_fewer, marked_same, follows_on}
use Rattle.search_box.proofs.laws.boxes_come_back.Goals as goal

pub returns-clause-before : goal.returns-clause-before
returns-clause-before c = entered_before

pub returns-clause-kept : goal.returns-clause-kept
returns-clause-kept c = kept_fewer

pub returns-clause-entered : goal.returns-clause-entered
returns-clause-entered c = entered_same

pub returns-clause-marked : goal.returns-clause-marked
returns-clause-marked c = marked_same

pub returns-clause-follows : goal.returns-clause-follows
returns-clause-follows c = follows_on
