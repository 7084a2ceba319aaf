use Rattle.prop_compare.proofs.Settled.{can_go, still_full, told_single}
use Rattle.prop_compare.proofs.untold.tell_other.Goals as goal

pub prune-requires-clause-cut : goal.prune-requires-clause-cut
prune-requires-clause-cut c = can_go c.args.asked.rule.now c.args.store.now.box c.args.x c.args.told c.truth_cut-cut.result c.requires.both c.requires.refuted c.truth_cut-cut.ensures

pub returns-clause-full : goal.returns-clause-full
returns-clause-full c = still_full c.args.store.now.box c.prune.new.store.box c.args.x c.args.told c.truth_cut-cut.result c.requires.fits.full c.requires.both c.truth_cut-cut.ensures c.in_ok-prune.ensures.content

pub returns-clause-single : goal.returns-clause-single
returns-clause-single c = told_single c.args.store.now.box c.prune.new.store.box c.args.x c.args.told c.truth_cut-cut.result c.requires.both c.truth_cut-cut.ensures c.in_ok-prune.ensures.content
