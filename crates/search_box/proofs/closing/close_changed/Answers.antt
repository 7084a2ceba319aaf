use Rattle.qc_model.specs.Domains.{declared_box}
use Rattle.prop_base.proofs.Steps.{pruning_sub}
use Rattle.prop_engine.specs.Closing.{is_between}
use Rattle.search_box.proofs.Closings.{pruned_is, pruned_sub, closing_is, was_kept}
use Rattle.search_box.proofs.closing.close_changed.Goals as goal

pub returns-clause-pruned : goal.returns-clause-pruned
returns-clause-pruned g c =
    let l = c.args.level.now in
    pruned_is l.problem.now l.number l.in_force.first l.in_force.end _ _ _ _ c.known.ensures c.requires.declared l.has_force c.close_changed.ensures.pruning

pub returns-clause-fewer : goal.returns-clause-fewer
returns-clause-fewer g c = let l = c.args.level.now in pruned_sub (is_between l.in_force.first l.in_force.end) l.problem.now _ _ _ _ c.requires.declared c.close_changed.ensures.pruning

pub returns-clause-declared : goal.returns-clause-declared
returns-clause-declared g c = let l = c.args.level.now in pruning_sub (is_between l.in_force.first l.in_force.end) l.problem.now _ _ _ _ (declared_box l.problem.now) c.close_changed.ensures.pruning c.requires.declared

pub returns-clause-answer : goal.returns-clause-answer
returns-clause-answer g c = let l = c.args.level.now in closing_is c.close_changed.result l.problem.now l.number l.in_force.first l.in_force.end _ l.has_force c.close_changed.ensures.answer

pub close_changed-requires-clause-earlier : goal.close_changed-requires-clause-earlier
close_changed-requires-clause-earlier g c =
    let l = c.args.level.now in was_kept l.problem.now l.number l.in_force.first l.in_force.end c.args.changed.now c.args.store.now.box l.has_force c.requires.earlier
