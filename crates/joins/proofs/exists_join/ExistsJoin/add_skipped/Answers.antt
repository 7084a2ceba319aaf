use Rattle.joins.proofs.Bests.{keeps_skipped}
use Rattle.joins.proofs.exists_join.ExistsJoin.add_skipped.Goals as goal

pub returns-clause-stands : goal.returns-clause-stands
returns-clause-stands c = λ xs k. keeps_skipped c.args.self.now.list.items c.args.self.now.all_lost c.args.self.now.is_open c.args.self.now.has_exact c.args.self.now.best.list.items c.args.self.now.bound xs k
