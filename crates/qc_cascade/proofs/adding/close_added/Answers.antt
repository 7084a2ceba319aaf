use Rattle.std.proofs.Common.{sym, subst, length, drop, ◌≤◌}
use Rattle.qc_model.specs.Domains.{declared_box}
use Rattle.prop_base.proofs.Steps.{pruning_more, pruning_sub}
use Rattle.prop_engine.specs.Closing.{is_between}
use Rattle.prop_engine.specs.Watching.{WasKept, changed_by}
use Rattle.qc_cascade.specs.Adding.{is_either}
use Rattle.qc_cascade.proofs.Added.{in_second, kept_before, is_longer}
use Rattle.qc_cascade.proofs.Pruned.{pruning_weaker}
use Rattle.qc_cascade.proofs.adding.close_added.Goals as goal

pub returns-in_err-close_span-clause-pruning : goal.returns-in_err-close_span-clause-pruning
returns-in_err-close_span-clause-pruning g c =
    pruning_weaker (is_between c.args.fresh.first c.args.fresh.end) (is_either c.args.closed c.args.fresh) c.args.problem.now _ _ _ _ (in_second c.args.closed c.args.fresh) c.close_span.ensures.pruning

pub returns-in-Empty-clause-pruning : goal.returns-in-Empty-clause-pruning
returns-in-Empty-clause-pruning g c =
    pruning_weaker (is_between c.args.fresh.first c.args.fresh.end) (is_either c.args.closed c.args.fresh) c.args.problem.now _ _ _ _ (in_second c.args.closed c.args.fresh) c.close_span.ensures.pruning

pub close_in_turn-requires-clause-declared : goal.close_in_turn-requires-clause-declared
close_in_turn-requires-clause-declared g c =
    pruning_sub (is_between c.args.fresh.first c.args.fresh.end) c.args.problem.now _ _ _ _ (declared_box c.args.problem.now) c.close_span.ensures.pruning c.requires.declared

pub close_in_turn-requires-clause-earlier : goal.close_in_turn-requires-clause-earlier
close_in_turn-requires-clause-earlier g c =
    subst (λ l. WasKept (is_between c.args.closed.first c.args.closed.end) c.args.problem.now (changed_by (drop (length l) c.close_span.new.steps)) c.close_span.new.store.box) (sym c.items-from.ensures)
    (kept_before (is_between c.args.closed.first c.args.closed.end) (is_between c.args.fresh.first c.args.fresh.end) c.args.problem.now _ _ _ _ c.requires.declared c.requires.kept c.close_span.ensures.pruning)

pub returns-clause-pruning : goal.returns-clause-pruning
returns-clause-pruning g c =
    pruning_more (is_either c.args.closed c.args.fresh) c.args.problem.now _ _ _ _ _ _
    (pruning_weaker (is_between c.args.fresh.first c.args.fresh.end) (is_either c.args.closed c.args.fresh) c.args.problem.now _ _ _ _ (in_second c.args.closed c.args.fresh) c.close_span.ensures.pruning)
    c.close_in_turn.ensures.pruning

pub close_in_turn-requires-clause-from : goal.close_in_turn-requires-clause-from
close_in_turn-requires-clause-from g c =
    subst (λ l. length l ≤ length c.close_span.new.steps) (sym c.items-from.ensures) (is_longer (is_between c.args.fresh.first c.args.fresh.end) c.args.problem.now _ _ _ _ c.close_span.ensures.pruning)
