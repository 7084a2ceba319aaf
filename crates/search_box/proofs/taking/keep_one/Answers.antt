use Rattle.std.proofs.Common.{sym}
use Rattle.prop_base.proofs.Steps.{follows_same}
use Rattle.box_laws.proofs.Trails.{box_back, past_back}
use Rattle.search_box.proofs.taking.keep_one.Goals as goal

pub returns-in-Err-clause-same : goal.returns-in-Err-clause-same
returns-in-Err-clause-same c = box_back c.args.store.now c.cut_others.new.store c.undo_to.new.self c.mark-mark.result.at (sym c.mark-mark.ensures) c.cut_others.ensures.past c.undo_to.ensures.past

pub returns-in-Err-clause-past : goal.returns-in-Err-clause-past
returns-in-Err-clause-past c =
    let n = c.mark-mark.result.at in
    let at = sym c.mark-mark.ensures in
    follows_same c.args.store.now c.undo_to.new.self
    (box_back c.args.store.now c.cut_others.new.store c.undo_to.new.self n at c.cut_others.ensures.past c.undo_to.ensures.past)
    (past_back c.args.store.now c.cut_others.new.store c.undo_to.new.self n at c.cut_others.ensures.past c.undo_to.ensures.past)
