use Rattle.std.proofs.Common.{◌∙◌, ◌∷◌, [], arith, le-leb}
use Rattle.std.proofs.lemmas.Result.{err_from_is_err_and}
use Rattle.proof_text.specs.Symbols.{signed, number}
use Rattle.proof_text.proofs.Sequences.{fails_by, plain_goes, zero_goes, zero_told}
use Rattle.proof_text.proofs.scan.signed.Goals as goal

pub returns-in_err-size-in-Some-49-to-57-default-clause-err : goal.returns-in_err-size-in-Some-49-to-57-default-clause-err
returns-in_err-size-in-Some-49-to-57-default-clause-err c =
    let p = err_from_is_err_and c.from_residual-in_err-size-in-Some-49-to-57-default.result c.from_residual-in_err-size-in-Some-49-to-57-default.ensures.1 in
    let i = c.in-Some-49-to-57-default in
    rw (p.1, p.2) (fails_by (signed c.args.most c.args.end ∷ []) (number c.args.most c.args.end ∷ []) c.args.text.now c.args.text.now c.in_err-size-in-Some-49-to-57-default.field-0.0
    (λ k. (k, plain_goes c.args.most c.args.end i.field-0-0.now c.args.text.now i.field-0-1.now k i.ensures.cases.0 (omega arith))) c.in_err-size-in-Some-49-to-57-default.ensures.err)

pub returns-in_ok-byte-in-Some-eq48-default-clause-ok : goal.returns-in_ok-byte-in-Some-eq48-default-clause-ok
returns-in_ok-byte-in-Some-eq48-default-clause-ok c =
    let i = c.in-Some-eq48-default in
    let d = c.in_ok-byte-in-Some-eq48-default.ensures.ok in (
      zero_told c.args.end i.field-0-0.now c.args.text.now i.rest.now c.in_ok-byte-in-Some-eq48-default.field-0.now i.ensures.cases.0 (omega arith) d.0,
      le-leb 0 c.args.most (omega arith),
      λ k. zero_goes c.args.most c.args.end i.field-0-0.now c.args.text.now i.rest.now k i.ensures.cases.0 (omega arith) ∙ d.1 k,
    )
