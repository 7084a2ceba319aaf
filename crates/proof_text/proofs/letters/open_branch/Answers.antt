use Rattle.std.proofs.Common.{arith}
use Rattle.proof_text.proofs.Openings.{opened_case}
use Rattle.proof_text.proofs.letters.open_branch.Goals as goal

pub returns-in_default : goal.returns-in_default
returns-in_default c =
    let i = c.in_default in
    opened_case c.args.version c.args.nesting c.args.byte c.case_letter.result c.requires.limit c.requires.goes_on (λ e. omega arith) c.case_letter.ensures
