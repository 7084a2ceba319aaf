use Rattle.std.proofs.Common.{[]}
use Rattle.qc_check.proofs.Ends.{nothing_read}
use Rattle.qc_check.proofs.progress.Checker.new.Goals as goal

pub returns-clause-given : goal.returns-clause-given
returns-clause-given c = record {
  ready = c.in_ok-machine.ensures.ready;
  bytes = [];
  checking = nothing_read _ _ _ c.new-4.ensures c.in_ok-machine.ensures.tells c.in_ok-machine.ensures.same (c.each_standing_is_right.ensures []).begins;
}

pub returns-clause-checking : goal.returns-clause-checking
returns-clause-checking c = nothing_read _ _ _ c.new-4.ensures c.in_ok-machine.ensures.tells c.in_ok-machine.ensures.same (c.each_standing_is_right.ensures []).begins
