use Rattle.prop_engine.specs.Closing.{is_between}
use Rattle.prop_engine.proofs.Kept.{kept_span}
use Rattle.prop_engine.proofs.engine.close_all.Goals as goal

pub settle-requires-clause-kept : goal.settle-requires-clause-kept
settle-requires-clause-kept g c =
    kept_span (is_between c.args.span.first c.args.span.end) c.args.problem.now c.wake_span.new.list c.args.store.now.box c.wake_span.ensures.spared
