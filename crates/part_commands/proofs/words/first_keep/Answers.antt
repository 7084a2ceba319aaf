use Rattle.std.proofs.Common.{arith}
use Rattle.part_commands.proofs.Fronts.{few_words}
use Rattle.part_commands.proofs.words.first_keep.Goals as goal

pub returns-in_default : goal.returns-in_default
returns-in_default c = λ name. few_words name c.args.words.now (omega (arith, c.in_default.len_below))
