use Rattle.dense_quiet.specs.Taking.{takes_of}
use Rattle.dense_quiet.proofs.seeing.seen_of_other.Goals as goal

pub returns-in-Quiet : goal.returns-in-Quiet
returns-in-Quiet c = c.in-Quiet.ensures (takes_of c.args.taking c.args.problem.now)
