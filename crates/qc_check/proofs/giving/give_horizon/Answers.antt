use Rattle.std.proofs.Common.{map, sym, subst}
use Rattle.proof_tree.specs.Lines.{step_line, horizon_lines}
use Rattle.qc_check.specs.Giving.{Takes}
use Rattle.qc_check.proofs.Given.{takes_none, takes_both}
use Rattle.qc_check.proofs.giving.give_horizon.Goals as goal

pub returns-in-None-clause-takes : goal.returns-in-None-clause-takes
returns-in-None-clause-takes c = subst (λ z. Takes c.args.space.now c.args.space.now (horizon_lines z)) (sym c.in-None.is) (takes_none c.args.space.now)

pub returns-in-Some-clause-takes : goal.returns-in-Some-clause-takes
returns-in-Some-clause-takes c =
    subst (λ z. Takes c.args.space.now c.give.new.space (horizon_lines z)) (sym c.in-Some.is)
    (takes_both _ _ _ _ _ c.give_scope.ensures.takes (takes_both _ _ _ _ _ (subst (λ ss. Takes c.give_scope.new.space c.give_steps.new.space (map step_line ss)) c.items.ensures c.give_steps.ensures.takes) c.give.ensures.takes))
