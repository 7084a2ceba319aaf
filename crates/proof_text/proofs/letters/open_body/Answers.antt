use Rattle.std.proofs.Common.{[]}
use Rattle.proof_text.specs.Symbols.{body}
use Rattle.proof_text.proofs.Openings.{opened}
use Rattle.proof_text.proofs.letters.open_body.Goals as goal

pub returns : goal.returns
returns c = opened c.args.version c.args.nesting (body c.args.version c.args.nesting) [] c.args.byte c.body_letter.result c.requires c.body_letter.ensures
