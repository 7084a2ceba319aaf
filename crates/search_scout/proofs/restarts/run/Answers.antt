use Rattle.search_scout.proofs.Going.{back_undone}
use Rattle.search_scout.proofs.restarts.run.Goals as goal

pub returns : goal.returns
returns c =
    let d = c.args.ground.now in
    let e = c.dive-outcome.new.ground in
    record { back = back_undone c.args.level.now.problem.now d.engine e.engine d.store e.store c.undo_to.new.self c.mark-mark.result.at c.requires.sound c.dive-outcome.ensures.went c.mark-mark.ensures c.undo_to.ensures.past }
