use Rattle.text_grammar.proofs.Problems.{one_problem}
use Rattle.text_grammar.proofs.laws.texts_are_read_in_one_way.Goals as goal

pub returns : goal.returns
returns c = one_problem
