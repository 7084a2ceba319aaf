use Rattle.dense_text.specs.Grammar.{at_value}
use Rattle.dense_text.proofs.Saying.{goes_over}
use Rattle.dense_text.proofs.reader.DenseReader.feed_value.Goals as goal

pub returns-clause-line : goal.returns-clause-line
returns-clause-line c =
    let line = c.in-Some-whole_value in
    goes_over (at_value c.in-Some.of) tt c.args.bytes.now line.piece line.rest.now line.ensures c.args.self.now c.go_over.new.self c.in-Some.ensures c.go_over.ensures
