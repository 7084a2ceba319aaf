use Rattle.dense_text.specs.Grammar.{at}
use Rattle.dense_text.proofs.Saying.{goes_over}
use Rattle.dense_text.proofs.reader.DenseReader.feed_line.Goals as goal

pub returns-clause-line : goal.returns-clause-line
returns-clause-line c =
    let line = c.in-Some-whole_line in
    goes_over (at c.in-Some.due) tt c.args.bytes.now line.piece line.rest.now line.ensures c.args.self.now c.go_over.new.self c.in-Some.ensures c.go_over.ensures
