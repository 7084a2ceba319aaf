use Rattle.std.proofs.Common.{[]}
use Rattle.proof_text.specs.Symbols.{cases}
use Rattle.proof_text.proofs.Openings.{opened}
use Rattle.proof_text.proofs.letters.open_cases.Goals as goal

pub returns : goal.returns
returns c = opened c.args.version c.args.nesting (cases c.args.version c.args.nesting) [] c.args.byte c.cases_letter.result c.requires c.cases_letter.ensures
