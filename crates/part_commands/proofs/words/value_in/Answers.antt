use Rattle.part_commands.proofs.Values.{no_value}
use Rattle.part_commands.proofs.words.value_in.Goals as goal

pub returns-in-Err-clause-value : goal.returns-in-Err-clause-value
returns-in-Err-clause-value c = no_value c.args.most c.args.word.now c.requires c.in-Err.ensures.value.0
