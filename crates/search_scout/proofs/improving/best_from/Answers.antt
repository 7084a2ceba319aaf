use Rattle.search_scout.proofs.Going.{back_undone}
use Rattle.search_scout.proofs.improving.best_from.Goals as goal

pub returns : goal.returns
returns c =
    let d = c.args.ground.now in
    let e = c.search_best-best.new.ground in
    record { back = back_undone c.args.level.now.problem.now d.engine e.engine d.store e.store c.undo_to.new.self c.mark-mark.result.at c.requires.sound c.search_best-best.ensures.went c.mark-mark.ensures c.undo_to.ensures.past }
