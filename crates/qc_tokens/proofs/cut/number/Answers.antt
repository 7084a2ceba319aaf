use Rattle.qc_tokens.proofs.Values.{run_is_numeral}
use Rattle.qc_tokens.proofs.cut.number.Goals as goal

pub value_of-requires : goal.value_of-requires
value_of-requires c = run_is_numeral c.args.text.now c.args.first c.args.rest.now c.count_word_bytes-more.result c.requires.text c.count_word_bytes-more.ensures.count c.requires.begins
