use Rattle.std.proofs.Common.{◌∙◌, arith}
use Rattle.proof_text.proofs.Sequences.{if_ok, first_goes, first_told}
use Rattle.proof_text.proofs.scan.number.Goals as goal

pub returns-in-Some-49-to-57-default-clause-ok : goal.returns-in-Some-49-to-57-default-clause-ok
returns-in-Some-49-to-57-default-clause-ok c =
    let i = c.in-Some-49-to-57-default in
    if_ok _ _ c.digits.result (λ r d. (
      first_told i.first.now c.from.result r.0 c.args.end c.args.text.now i.rest.now r.1.now i.ensures.cases.0 (omega arith) (omega arith) c.from.ensures d.0,
      d.1,
      d.2,
      λ k. first_goes c.args.most c.args.end i.first.now c.from.result c.args.text.now i.rest.now k i.ensures.cases.0 (omega arith) (omega arith) c.requires.0 c.from.ensures ∙ d.3 k,
    )) c.digits.ensures.ok
