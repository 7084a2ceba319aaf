use Rattle.std.proofs.Common.{◌≡◌, ◌∙◌, inl, inr, sym, subst, arith}
use Rattle.std.specs.Prelude.{slice_get, Some}
use Rattle.qc_model.specs.Content.{Rule}
use Rattle.qc_model.specs.Refuted.{refuted_by}
use Rattle.dense_close.proofs.Indexed.{some_at}
use Rattle.dense_quiet.proofs.Sums.{last_or_before}
use Rattle.dense_close.proofs.OpenMoves.{none_between, any_between}
use Rattle.dense_close.proofs.refuting.some_refuted.Goals as goal

pub returns-then-is_refuted : goal.returns-then-is_refuted
returns-then-is_refuted c =
    let t = c.args.task.now in
    let at = some_at t.problem.now.constraints c.loop-k.k (omega (arith, t.span_is.within, c.loop-k-test.true)) in
    sym (any_between (λ (r : Rule). refuted_by r c.args.store.now.box) t.span.first t.span.end c.loop-k.k t.problem.now.constraints at.0 c.loop-k.auto.k c.loop-k-test.true at.1 (sym (c.is_refuted.ensures at.0 at.1) ∙ c.if-is_refuted.true))

pub loop-k-preserved : goal.loop-k-preserved
loop-k-preserved c = λ j r l m e.
    (let g = c.args.task.now.problem.now in
    elim (last_or_before j c.loop-k.k m) [
      | inl b ↦ c.loop-k.invariant j r l b e
      | inr b ↦ sym (c.is_refuted.ensures r (subst (λ i. slice_get g.constraints i ≡ Some r) b e)) ∙ c.if-is_refuted.false
    ])

pub returns : goal.returns
returns c =
    let t = c.args.task.now in
    sym (none_between (λ (r : Rule). refuted_by r c.args.store.now.box) t.span.first t.span.end t.problem.now.constraints (λ j r l m e. c.loop-k.invariant j r l (omega (arith, m, c.loop-k-test.false)) e))
