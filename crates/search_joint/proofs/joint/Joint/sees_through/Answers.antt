use Rattle.search_joint.proofs.Opens.{open_answer}
use Rattle.search_joint.proofs.joint.Joint.sees_through.Goals as goal

pub returns-clause-seen : goal.returns-clause-seen
returns-clause-seen c =
    open_answer c.see_within.result c.args.levels.now.problem.now c.args.i.0 c.args.stop c.see_within.new.store.box c.args.within.now.box c.see_within.ensures.answer
