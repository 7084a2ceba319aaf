use Rattle.qdimacs.proofs.Known.{with_inserted}
use Rattle.qdimacs.proofs.seen.Seen.insert.Goals as goal

pub returns-clause-with : goal.returns-clause-with
returns-clause-with c = with_inserted c.args.self.now c.self.inside.set.keys c.insert.new.self.keys c.args.variable c.self.view_is c.in_ok-insert.ensures.updates.0
