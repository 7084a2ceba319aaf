use Rattle.std.proofs.Common.{◌≤◌, subst, sym}
use Rattle.prop_engine.proofs.Kept.{inside_exist}
use Rattle.prop_engine.proofs.engine.Engine.close_changed.Goals as goal

pub clear-requires-clause-exist : goal.clear-requires-clause-exist
clear-requires-clause-exist g c =
    let e = c.close_woken-answer.ensures in
    inside_exist c.args.span.first c.args.span.end _ c.close_woken-answer.new.list.queue (subst (λ n. c.args.span.end ≤ n) (sym e.count) c.requires.span) e.inside
