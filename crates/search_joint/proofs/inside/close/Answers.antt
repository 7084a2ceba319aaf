use Rattle.prop_base.proofs.Steps.{pruning_sub}
use Rattle.prop_engine.specs.Closing.{is_between}
use Rattle.search_joint.proofs.inside.close.Goals as goal

pub returns-then-was_kept-clause-fewer : goal.returns-then-was_kept-clause-fewer
returns-then-was_kept-clause-fewer g c = λ large h.
    pruning_sub (is_between c.args.span.first c.args.span.end) c.args.problem.now c.args.store.now c.close_changed.new.store _ _ large c.close_changed.ensures.pruning h

pub returns-clause-fewer : goal.returns-clause-fewer
returns-clause-fewer g c = λ large h.
    pruning_sub (is_between c.args.span.first c.args.span.end) c.args.problem.now c.args.store.now c.close_span.new.store _ _ large c.close_span.ensures.pruning h
