use Rattle.part_commands.proofs.Fronts.{one_word, three_words, many_words}
use Rattle.part_commands.proofs.words.tail_in.Goals as goal

pub returns-in_default-clause-tail : goal.returns-in_default-clause-tail
returns-in_default-clause-tail c = one_word c.args.words.now c.in_default.len_at_least c.in_default.len_below

pub returns-in_default-2-clause-tail : goal.returns-in_default-2-clause-tail
returns-in_default-2-clause-tail c = three_words c.args.words.now c.in_default.len_at_least c.in_default.len_below

pub returns-in_default-3-clause-tail : goal.returns-in_default-3-clause-tail
returns-in_default-3-clause-tail c = many_words c.args.words.now c.in_default.len_at_least
