use Rattle.dense_text.specs.Kept.{kept}
use Rattle.dense_text.proofs.Saying.{stands_for, says_for}
use Rattle.dense_text.proofs.reader.DenseReader.feed.Goals as goal

pub returns-clause-stands : goal.returns-clause-stands
returns-clause-stands c =
    stands_for c.args.self.now (kept c.self.inside.part c.self.inside.branches) (kept c.next_byte-part.result.0 c.next_byte-part.result.1) c.args.byte c.next_byte-part.result.2 c.self.view_is c.next_byte-part.ensures.goes

pub returns-clause-says : goal.returns-clause-says
returns-clause-says c =
    says_for c.args.self.now (kept c.self.inside.part c.self.inside.branches) (kept c.next_byte-part.result.0 c.next_byte-part.result.1) c.args.byte c.next_byte-part.result.2 c.self.view_is c.next_byte-part.ensures.goes
