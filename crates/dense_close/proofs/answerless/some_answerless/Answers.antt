use Rattle.std.proofs.Common.{◌≡◌, ◌∙◌, inl, inr, sym, subst, arith}
use Rattle.std.specs.Prelude.{slice_get, Some}
use Rattle.dense_close.specs.Answerless.{is_answerless}
use Rattle.dense_close.proofs.Indexed.{some_at}
use Rattle.dense_quiet.proofs.Sums.{last_or_before}
use Rattle.dense_close.proofs.OpenMoves.{none_between, any_between}
use Rattle.dense_close.proofs.answerless.some_answerless.Goals as goal

pub returns-then-is_answerless : goal.returns-then-is_answerless
returns-then-is_answerless c =
    let g = c.args.levels.now.problem.now in
    let at = some_at g.constraints c.loop-k.k (omega arith) in
    sym (any_between (is_answerless g c.args.number c.args.store.now.box) c.args.span.first c.args.span.end c.loop-k.k g.constraints at.0 c.loop-k.auto.k c.loop-k-test.true at.1 (sym (c.is_answerless.ensures at.0 at.1) ∙ c.if-is_answerless.true))

pub loop-k-preserved : goal.loop-k-preserved
loop-k-preserved c = λ j r l m e.
    let g = c.args.levels.now.problem.now in
    elim (last_or_before j c.loop-k.k m) [
      | inl b ↦ c.loop-k.invariant j r l b e
      | inr b ↦ sym (c.is_answerless.ensures r (subst (λ i. slice_get g.constraints i ≡ Some r) b e)) ∙ c.if-is_answerless.false
    ]

pub returns : goal.returns
returns c =
    let g = c.args.levels.now.problem.now in
    sym (none_between (is_answerless g c.args.number c.args.store.now.box) c.args.span.first c.args.span.end g.constraints (λ j r l m e. c.loop-k.invariant j r l (omega arith) e))
