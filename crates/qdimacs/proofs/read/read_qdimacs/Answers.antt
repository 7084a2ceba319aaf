use Rattle.std.proofs.Common.{◌≡◌, true, false}
use Rattle.std.proofs.lemmas.Result.{err_from_is_err_and}
use Rattle.qdimacs.proofs.Made.{numbers_good, is_valid, problem_is, refusal_explains}
use Rattle.qdimacs.proofs.read.read_qdimacs.Goals as goal

pub returns-in_err-free-clause-refused : goal.returns-in_err-free-clause-refused
returns-in_err-free-clause-refused c =
    let p = err_from_is_err_and c.from_residual-in_err-free.result c.from_residual-in_err-free.ensures.1 in
    rw (p.1, p.2) (refusal_explains c.args.text.now c.in_ok-tokens.tokens.items c.as_slice.result.now c.in_ok-file.file c.in_err-free.field-0.0 c.as_slice.ensures.value c.in_ok-tokens.ensures c.in_ok-file.ensures.ok c.in_err-free.ensures.refused)

pub draft_of-requires-clause-numbers : goal.draft_of-requires-clause-numbers
draft_of-requires-clause-numbers c = numbers_good c.args.text.now c.in_ok-tokens.tokens.items c.as_slice.result.now c.in_ok-file.file c.as_slice.ensures.value c.in_ok-tokens.ensures c.in_ok-file.ensures.ok

pub unreachable-requires : goal.unreachable-requires
unreachable-requires c =
    let good = numbers_good c.args.text.now c.in_ok-tokens.tokens.items c.as_slice.result.now c.in_ok-file.file c.as_slice.ensures.value c.in_ok-tokens.ensures c.in_ok-file.ensures.ok in
    let k : false ≡ true = c.in-None.ensures.exact.1 (is_valid c.in_ok-file.file c.in_ok-draft_of.field-0 c.in_ok-draft_of.ensures c.in_ok-free.ensures.none good) in
    cc

pub returns-clause-made : goal.returns-clause-made
returns-clause-made c =
    problem_is c.args.text.now c.in_ok-tokens.tokens.items c.as_slice.result.now c.in_ok-file.file c.in-Some.problem c.in_ok-draft_of.field-0
    c.as_slice.ensures.value c.in_ok-tokens.ensures c.in_ok-file.ensures.ok c.in_ok-free.ensures.none c.in_ok-draft_of.ensures c.in-Some.ensures.content
