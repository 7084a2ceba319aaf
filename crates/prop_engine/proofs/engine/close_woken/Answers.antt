use Rattle.prop_engine.specs.Closing.{is_between}
use Rattle.prop_engine.proofs.Since.{kept_since}
use Rattle.prop_engine.proofs.engine.close_woken.Goals as goal

pub settle-requires-clause-kept : goal.settle-requires-clause-kept
settle-requires-clause-kept g c =
    kept_since (is_between c.args.span.first c.args.span.end) c.args.problem.now c.args.watches.now c.wake_variables.new.list c.args.store.now.box c.args.changed.now c.requires.watches c.requires.full c.requires.earlier c.wake_variables.ensures.spared
