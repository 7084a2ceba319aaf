use Rattle.std.proofs.Common.{arith}
use Rattle.proof_text.proofs.Numerals.{counted_first}
use Rattle.proof_text.proofs.numeral.first_digit_of.Goals as goal

pub returns-in-49-to-57 : goal.returns-in-49-to-57
returns-in-49-to-57 c = counted_first c.args.most c.args.end c.args.byte c.from.result (omega arith) (omega arith) c.requires.range.0 c.from.ensures
