use Rattle.std.proofs.Common.{[]}
use Rattle.lemma_judge.proofs.Steps.{nothing_read}
use Rattle.lemma_judge.proofs.progress.ListChecker.new.Goals as goal

pub returns-clause-checking : goal.returns-clause-checking
returns-clause-checking c = nothing_read _ _ c.new-2.ensures c.in_ok-machine.ensures.book (c.each_standing_is_right.ensures []).begins
