use Rattle.std.proofs.Common.{◌∙◌, sym, arith, append_assoc}
use Rattle.std.proofs.lemmas.Result.{err_from_is_err_and}
use Rattle.std.proofs.lemmas.Bool.{and_from}
use Rattle.proof_tree.specs.Shape.{ending_of, pieces_of, case_of}
use Rattle.proof_text.specs.Parts.{steps_text, ending_text, upto_text, case_text}
use Rattle.proof_text.proofs.TreeParts.{no_leaf, body_fails, no_skip, case_fails, not_some, cases_shorter, branch_spells, to_branch, pushed, at_some, piece_told, piece_fails}
use Rattle.proof_text.proofs.parts.+read.Goals as goal

pub body-returns-in_err-cases-clause-err : goal.body-returns-in_err-cases-clause-err
body-returns-in_err-cases-clause-err t c =
    let p = err_from_is_err_and c.from_residual-in_err-cases.result c.from_residual-in_err-cases.ensures.1 in
    rw (p.1, p.2) (body_fails c.args.version c.args.nesting c.args.text.now c.in_err-cases.field-0.0 c.in_default.ensures c.in_default-after.ensures c.in_err-cases.ensures.err)

pub body-returns-clause-ok : goal.body-returns-clause-ok
body-returns-clause-ok t c =
    let i = c.in_ok-cases in
    let o = i.ensures.ok in (
      (o.0 ∙ sym (append_assoc (steps_text i.cases.steps) (ending_text (ending_of i.cases.end)) i.rest.now), and_from _ _ o.1 o.2, o.3, o.4),
      λ k. no_leaf c.args.version c.args.nesting c.args.text.now k c.in_default.ensures c.in_default-after.ensures ∙ o.5 k,
    )

pub branch-returns-clause-ok : goal.branch-returns-clause-ok
branch-returns-clause-ok t c =
    let r = c.in_ok-rest.ensures.ok in
    let x = c.in_ok-x.ensures.ok in
    let o = c.in_ok-cases.ensures.ok in (
      branch_spells c.args.version c.args.nesting (record { 0 = c.in_ok-x.x }) c.in_ok-cases.cases c.args.line.now c.in_ok-rest.rest.now c.in_ok-x.rest.now c.in_ok-cases.rest.now r.0 x.0 x.1 o.0 o.1 o.2 o.3,
      λ k. to_branch c.args.version c.args.nesting k c.args.line.now (omega arith) ∙ r.1 _ ∙ x.2 _ ∙ o.4 k,
    )

pub branches-loop-list-preserved : goal.branches-loop-list-preserved
branches-loop-list-preserved t c =
    let i = c.loop-list.invariant in
    let o = at_some c.in_ok-found.field-0 _ _ _ c.in-Some.is c.in_ok-found.ensures.ok in
    let p = pushed c.args.version c.args.nesting (pieces_of c.loop-list.list) (pieces_of c.push.new.self) c.in-Some.found c.args.text.now c.loop-list.rest.now c.in-Some.next.now c.in_ok-push.ensures.ok i.told i.fit i.shallow o.0 in
    let less = o.1 in
    let most = i.shorter in
    record { told = p.told; fit = p.fit; shallow = p.shallow; shorter = omega arith; goes = λ k. i.goes k ∙ o.2 k }

pub case-returns-in_err-inner-clause-err : goal.case-returns-in_err-inner-clause-err
case-returns-in_err-inner-clause-err t c =
    let p = err_from_is_err_and c.from_residual-in_err-inner.result c.from_residual-in_err-inner.ensures.1 in
    rw (p.1, p.2) (case_fails c.args.version c.args.nesting c.args.text.now c.in_err-inner.field-0.0 c.in_default.ensures c.in_default-after.ensures c.in_err-inner.ensures.err)

pub case-returns-clause-ok : goal.case-returns-clause-ok
case-returns-clause-ok t c =
    let i = c.in_ok-inner in
    let o = i.ensures.ok in (
      (o.0 ∙ sym (append_assoc (steps_text i.inner.steps) (ending_text (ending_of i.inner.end)) i.rest.now), and_from _ _ o.1 o.2, o.3, o.4),
      cases_shorter (steps_text i.inner.steps) (ending_of i.inner.end) c.args.text.now i.rest.now o.0,
      λ k. no_skip c.args.version c.args.nesting c.args.text.now k c.in_default.ensures c.in_default-after.ensures ∙ o.5 k,
    )

pub cases-returns-in_err-steps-clause-err : goal.cases-returns-in_err-steps-clause-err
cases-returns-in_err-steps-clause-err t c =
    let p = err_from_is_err_and c.from_residual.result c.from_residual.ensures.1 in
    rw (p.1, p.2) (c.in_err-steps.ensures.err c.args.version c.args.nesting c.requires)

pub node-returns-in_err-horizon-clause-err : goal.node-returns-in_err-horizon-clause-err
node-returns-in_err-horizon-clause-err t c =
    let p = err_from_is_err_and c.from_residual.result c.from_residual.ensures.1 in
    rw (p.1, p.2) (c.in_err-horizon.ensures.err c.args.version c.args.nesting c.requires)

pub piece-returns-in_err-upto-clause-err : goal.piece-returns-in_err-upto-clause-err
piece-returns-in_err-upto-clause-err t c =
    let p = err_from_is_err_and c.from_residual.result c.from_residual.ensures.1 in
    rw (p.1, p.2) (c.in_err-upto.ensures.err c.args.nesting c.requires)

pub piece-returns-in_err-case-clause-err : goal.piece-returns-in_err-case-clause-err
piece-returns-in_err-case-clause-err t c =
    let p = err_from_is_err_and c.from_residual-in_err-case.result c.from_residual-in_err-case.ensures.1 in
    let goes_on = not_some c.after.result _ _ (sym c.if-is_some.ensures) c.after.ensures in
    rw (p.1, p.2) (piece_fails c.args.version c.args.nesting c.args.text.now c.in_ok-upto.rest.now c.in_err-case.field-0.0 c.requires goes_on c.in_ok-upto.ensures.ok.3 c.in_err-case.ensures.err)

pub piece-returns-clause-ok : goal.piece-returns-clause-ok
piece-returns-clause-ok t c =
    let u = c.in_ok-upto in
    let o = u.ensures.ok in
    let i = c.in_ok-case in
    let q = i.ensures.ok in
    let s = q.0 in
    let goes_on = not_some c.after.result _ _ (sym c.if-is_some.ensures) c.after.ensures in (
      (piece_told (upto_text u.upto) (case_text (case_of i.case)) c.args.text.now u.rest.now i.rest.now o.0 s.0, and_from _ _ o.1 s.1, s.2, (let a = o.2 in let b = s.3 in omega arith)),
      (let a = o.2 in let b = q.1 in omega arith),
      λ k. o.3 goes_on c.args.nesting c.requires k ∙ q.2 _,
    )
