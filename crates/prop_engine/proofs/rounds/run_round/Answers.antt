use Rattle.std.proofs.Common.{◌≡◌, ◌∙◌, sym, ap, subst, arith, true, false, Bool, get_or, take, length}
use Rattle.qc_model.specs.Domains.{has_empty}
use Rattle.qc_model.specs.Closed.{keeps_ends}
use Rattle.prop_base.specs.Pruning.{is_just}
use Rattle.prop_base.proofs.Steps.{pruning_more}
use Rattle.prop_engine.specs.Closing.{has_constraint, EachRule, IsRun}
use Rattle.prop_engine.proofs.Rules.{has_at, exist_at, each_of, each_more, pruning_of}
use Rattle.prop_engine.proofs.rounds.run_round.Goals.{in-Stable, in-Changed}
use Rattle.prop_engine.proofs.rounds.run_round.Goals as goal

pub run_filter-requires-clause-known : goal.run_filter-requires-clause-known
run_filter-requires-clause-known g c =
    let cs = c.args.cons.now in
    let i = c.loop-c.c-index in
    each_of (has_constraint cs) (get_or cs i (record { 0 = 0 })).0 c.args.problem.now g.F.Filter.knows (has_at cs i (record { 0 = 0 }) c.loop-c-test.true) c.requires.known

pub returns-in_err-run_filter-clause-pruning : goal.returns-in_err-run_filter-clause-pruning
returns-in_err-run_filter-clause-pruning g c =
    let cs = c.args.cons.now in
    let d = get_or cs c.loop-c.c-index (record { 0 = 0 }) in
    let p = pruning_of (has_constraint cs) d.0 c.args.problem.now _ _ _ _ (has_at cs c.loop-c.c-index (record { 0 = 0 }) c.loop-c-test.true) c.run_filter.ensures.pruning in
    pruning_more (has_constraint cs) c.args.problem.now _ _ _ _ _ _ c.loop-c.invariant.pruning p

pub returns-in-Emptied-clause-pruning : goal.returns-in-Emptied-clause-pruning
returns-in-Emptied-clause-pruning g c =
    let cs = c.args.cons.now in
    let d = get_or cs c.loop-c.c-index (record { 0 = 0 }) in
    let p = pruning_of (has_constraint cs) d.0 c.args.problem.now _ _ _ _ (has_at cs c.loop-c.c-index (record { 0 = 0 }) c.loop-c-test.true) c.run_filter.ensures.pruning in
    pruning_more (has_constraint cs) c.args.problem.now _ _ _ _ _ _ c.loop-c.invariant.pruning p

not_both : (b : Bool) → b ≡ true → b ≡ false → ⊥
not_both true h k = cc
not_both false h k = cc

pub loop-c-preserved : goal.loop-c-preserved
loop-c-preserved g c =
    let cs = c.args.cons.now in
    let n = c.loop-c.c-index in
    let d = get_or cs n (record { 0 = 0 }) in
    let i = c.loop-c.invariant in
    let r = c.in_ok-run_filter.ensures in
    let game = c.args.problem.now in
    let p = pruning_of (has_constraint cs) d.0 game _ _ _ _ (has_at cs n (record { 0 = 0 }) c.loop-c-test.true) c.run_filter.ensures.pruning in
    let pruned = pruning_more (has_constraint cs) game _ _ _ _ _ _ i.pruning p in
    elim c.match-branch-2.branch [
      | in-Stable w ↦
          let a = subst (λ f. IsRun f (is_just d.0) game c.loop-c.store.box c.run_filter.new.store.box c.loop-c.steps c.run_filter.new.steps) w.in-Stable.is r.answer in
          (record {
            pruning = pruned;
            declared = c.run_filter.ensures.declared;
            longer = omega (arith, i.longer, ap length a.1);
            full = ap has_empty a.0 ∙ i.full;
            kept = λ e. each_more cs n (record { 0 = 0 }) game (keeps_ends c.run_filter.new.store.box) c.loop-c-test.true (subst (λ b. EachRule (has_constraint (take n cs)) game (keeps_ends b)) (sym a.0) (i.kept (sym w.changed-is ∙ e))) a.2;
            grown = λ e. omega (arith, i.grown (sym w.changed-is ∙ e), ap length a.1);
          })
      | in-Changed w ↦
          let a = subst (λ f. IsRun f (is_just d.0) game c.loop-c.store.box c.run_filter.new.store.box c.loop-c.steps c.run_filter.new.steps) w.in-Changed.is r.answer in
          (record {
            pruning = pruned;
            declared = c.run_filter.ensures.declared;
            longer = omega (arith, i.longer, a.1);
            full = a.0;
            kept = λ e. absurd (not_both c.match-branch-2.changed w.changed-is e);
            grown = λ e. omega (arith, i.longer, a.1);
          })
    ]

pub run_filter-requires-clause-c : goal.run_filter-requires-clause-c
run_filter-requires-clause-c g c = exist_at c.args.cons.now c.loop-c.c-index (record { 0 = 0 }) (length c.args.problem.now.constraints) c.loop-c-test.true c.requires.exist
