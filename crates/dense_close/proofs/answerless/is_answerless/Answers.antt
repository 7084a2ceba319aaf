use Rattle.std.proofs.Common.{◌≡◌, ◌∙◌, false, sym, ap, subst}
use Rattle.std.specs.List.{list_any}
use Rattle.qc_model.specs.Lists.{Among}
use Rattle.model_arguments.specs.Written.{variable_numbers}
use Rattle.dense_close.specs.Answerless.{is_answerless_by}
use Rattle.dense_close.proofs.Found.{own_at, gone_through}
use Rattle.dense_close.proofs.OpenMoves.{none_more, any_at}
use Rattle.dense_close.proofs.Own.{own_within}
use Rattle.dense_close.proofs.answerless.is_answerless.Goals as goal

pub is_answerless_at-requires-clause-x : goal.is_answerless_at-requires-clause-x
is_answerless_at-requires-clause-x c =
    let g = c.args.levels.now.problem.now in
    let r = c.constraint.result.now in
    let own_is = ap variable_numbers c.own-x-items.ensures ∙ c.requires.index.own_are c.args.c.0 r c.constraint.ensures in
    own_within g c.known.ensures c.args.c.0 r c.args.store.now.box c.constraint.ensures c.requires.declared _ (subst (Among _) own_is (own_at c.own-x-items.result.now c.loop-x.x-index _ c.loop-x-test.true))

pub returns-then-is_answerless_at : goal.returns-then-is_answerless_at
returns-then-is_answerless_at c = λ r e.
    let g = c.args.levels.now.problem.now in
    let p = is_answerless_by g c.args.number c.args.store.now.box r in
    let own_is = ap variable_numbers c.own-x-items.ensures ∙ c.requires.index.own_are c.args.c.0 r e in
    sym (ap (list_any p) (sym own_is) ∙ any_at p c.own-x-items.result.now c.loop-x.x-index _ c.loop-x-test.true (sym (c.is_answerless_at.ensures r e) ∙ c.if-is_answerless_at.true))

pub loop-x-preserved : goal.loop-x-preserved
loop-x-preserved c = λ r e.
    let g = c.args.levels.now.problem.now in
    none_more (is_answerless_by g c.args.number c.args.store.now.box r) c.own-x-items.result.now c.loop-x.x-index _ c.loop-x-test.true (c.loop-x.invariant r e) (sym (c.is_answerless_at.ensures r e) ∙ c.if-is_answerless_at.false)

pub returns : goal.returns
returns c = λ r e.
    let g = c.args.levels.now.problem.now in
    let own_is = ap variable_numbers c.own-x-items.ensures ∙ c.requires.index.own_are c.args.c.0 r e in
    sym (subst (λ xs. list_any (is_answerless_by g c.args.number c.args.store.now.box r) xs ≡ false) (gone_through c.own-x-items.result.now c.loop-x.x-index _ c.loop-x-test.false own_is) (c.loop-x.invariant r e))
