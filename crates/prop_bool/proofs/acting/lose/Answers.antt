use Rattle.prop_bool.proofs.Removing.{cut_given, given_after}
use Rattle.prop_bool.proofs.acting.lose.Goals as goal

pub prune-requires-clause-cut : goal.prune-requires-clause-cut
prune-requires-clause-cut c =
    let e = c.value_cut-cut.ensures in
    cut_given c.args.asked.rule.now c.args.store.now.box c.args.x c.args.value c.value_cut-cut.result c.requires.both c.requires.refuted e.x e.lo e.hi

pub returns-clause-content : goal.returns-clause-content
returns-clause-content c =
    let e = c.value_cut-cut.ensures in
    given_after c.args.store.now.box c.prune.new.store.box c.args.x c.args.value c.value_cut-cut.result c.requires.both e.x e.lo e.hi c.in_ok-prune.ensures.content
