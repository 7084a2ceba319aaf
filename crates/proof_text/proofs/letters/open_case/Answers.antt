use Rattle.std.proofs.Common.{[]}
use Rattle.proof_text.specs.Symbols.{case}
use Rattle.proof_text.proofs.Openings.{opened}
use Rattle.proof_text.proofs.letters.open_case.Goals as goal

pub returns : goal.returns
returns c = opened c.args.version c.args.nesting (case c.args.version c.args.nesting) [] c.args.byte c.case_letter.result c.requires c.case_letter.ensures
