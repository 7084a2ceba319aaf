use Rattle.std.proofs.Common.{◌∙◌, sym, ap, subst, arith, length, drop}
use Rattle.std.specs.Prelude.{◌==◌}
use Rattle.qc_model.specs.Domains.{declared_box}
use Rattle.prop_base.proofs.Steps.{pruning_sub}
use Rattle.prop_engine.specs.Closing.{IsClosing, is_between}
use Rattle.prop_engine.specs.Watching.{WasKept, changed_by}
use Rattle.qc_cascade.proofs.Added.{either_turn, pruned_turn, both_kept, turn_smaller, is_longer, none_changed, some_changed, kept_before}
use Rattle.qc_cascade.proofs.adding.close_in_turn.Goals as goal

pub returns-then-is_empty-clause-answer : goal.returns-then-is_empty-clause-answer
returns-then-is_empty-clause-answer g c =
    let v = c.loop-changed.invariant in (
      v.full,
      both_kept c.args.behind c.args.settled c.loop-changed.due c.loop-changed.other c.args.problem.now c.loop-changed.store.box (changed_by (drop c.loop-changed.since c.loop-changed.steps)) v.either
          (none_changed c.in_ok-changed.changed.items (changed_by (drop c.loop-changed.since c.loop-changed.steps)) c.in_ok-changed.ensures (ap (λ n. n == 0) (sym c.in_ok-changed.changed.ok.0) ∙ (sym c.is_empty.ensures ∙ c.if-is_empty.true)))
          v.earlier v.kept,
    )

pub returns-in_err-close_changed-clause-pruning : goal.returns-in_err-close_changed-clause-pruning
returns-in_err-close_changed-clause-pruning g c =
    pruned_turn c.args.behind c.args.settled c.loop-changed.due c.loop-changed.other c.args.problem.now _ _ _ _ _ _ c.loop-changed.invariant.either c.loop-changed.invariant.pruning c.close_changed.ensures.pruning

pub returns-in-Empty-clause-pruning : goal.returns-in-Empty-clause-pruning
returns-in-Empty-clause-pruning g c =
    pruned_turn c.args.behind c.args.settled c.loop-changed.due c.loop-changed.other c.args.problem.now _ _ _ _ _ _ c.loop-changed.invariant.either c.loop-changed.invariant.pruning c.close_changed.ensures.pruning

pub loop-changed-smaller : goal.loop-changed-smaller
loop-changed-smaller g c =
    turn_smaller (is_between c.loop-changed.due.first c.loop-changed.due.end) c.args.problem.now _ _ _ _ c.loop-changed.since (length c.items-since.result.now) c.close_changed.ensures.pruning
    (some_changed c.loop-changed.steps c.loop-changed.since c.in_ok-changed.changed.items c.in_ok-changed.ensures (ap (λ n. n == 0) (sym c.in_ok-changed.changed.ok.0) ∙ (sym c.is_empty.ensures ∙ c.if-is_empty.false)))
    (ap length c.items-since.ensures)

pub loop-changed-preserved : goal.loop-changed-preserved
loop-changed-preserved g c =
    let v = c.loop-changed.invariant in
    let game = c.args.problem.now in
    let ok = is_between c.loop-changed.due.first c.loop-changed.due.end in
    let p = c.close_changed.ensures.pruning in
    let a = subst (λ a. IsClosing a ok game c.close_changed.new.store.box) c.in-Open.is c.in_ok-close_changed.ensures.answer in
    let same = ap length c.items-since.ensures in
    record {
      ready = c.close_changed.ensures.ready;
      pruning = pruned_turn c.args.behind c.args.settled c.loop-changed.due c.loop-changed.other game _ _ _ _ _ _ v.either v.pruning p;
      declared = pruning_sub ok game _ _ _ _ (declared_box game) p v.declared;
      full = a.0;
      since = omega (arith, same, is_longer ok game _ _ _ _ p);
      due = v.other;
      other = v.due;
      either = λ k. either_turn c.loop-changed.other c.loop-changed.due k ∙ v.either k;
      earlier = subst (λ n. WasKept (is_between c.loop-changed.other.first c.loop-changed.other.end) game (changed_by (drop n c.close_changed.new.steps)) c.close_changed.new.store.box) (sym same)
          (kept_before (is_between c.loop-changed.other.first c.loop-changed.other.end) ok game _ _ _ _ v.declared v.kept p);
      kept = a.1;
    }
