use Rattle.std.proofs.Common.{subst, arith}
use Rattle.qc_model.specs.Domains.{declared_box}
use Rattle.prop_base.proofs.Steps.{pruning_more, pruning_total, pruning_sub}
use Rattle.prop_engine.specs.Closing.{has_constraint, IsRound}
use Rattle.prop_engine.proofs.rounds.close.Goals as goal

pub returns-in_err-run_round-clause-pruning : goal.returns-in_err-run_round-clause-pruning
returns-in_err-run_round-clause-pruning g c =
    pruning_more (has_constraint c.args.cons.now) c.args.problem.now _ _ _ _ _ _ c.loop.invariant.pruning c.run_round.ensures.pruning

pub returns-in-Emptied-clause-pruning : goal.returns-in-Emptied-clause-pruning
returns-in-Emptied-clause-pruning g c =
    pruning_more (has_constraint c.args.cons.now) c.args.problem.now _ _ _ _ _ _ c.loop.invariant.pruning c.run_round.ensures.pruning

pub returns-in-Stable-clause-pruning : goal.returns-in-Stable-clause-pruning
returns-in-Stable-clause-pruning g c =
    pruning_more (has_constraint c.args.cons.now) c.args.problem.now _ _ _ _ _ _ c.loop.invariant.pruning c.run_round.ensures.pruning

pub loop-smaller : goal.loop-smaller
loop-smaller g c =
    let a = subst (λ f. IsRound f (has_constraint c.args.cons.now) c.args.problem.now c.run_round.new.store.box c.loop.steps c.run_round.new.steps) c.in-Changed.is c.in_ok-run_round.ensures.answer in
    omega (arith, a.1, pruning_total (has_constraint c.args.cons.now) c.args.problem.now _ _ _ _ c.run_round.ensures.pruning)

pub loop-preserved : goal.loop-preserved
loop-preserved g c =
    let a = subst (λ f. IsRound f (has_constraint c.args.cons.now) c.args.problem.now c.run_round.new.store.box c.loop.steps c.run_round.new.steps) c.in-Changed.is c.in_ok-run_round.ensures.answer in
    record {
      pruning = pruning_more (has_constraint c.args.cons.now) c.args.problem.now _ _ _ _ _ _ c.loop.invariant.pruning c.run_round.ensures.pruning;
      declared = pruning_sub (has_constraint c.args.cons.now) c.args.problem.now _ _ _ _ (declared_box c.args.problem.now) c.run_round.ensures.pruning c.loop.invariant.declared;
      full = a.0;
    }
