use Rattle.lemma_text.specs.Kept.{kept_state}
use Rattle.lemma_text.proofs.Saying.{stands_for, says_for}
use Rattle.lemma_text.proofs.reader.LemmaReader.feed.Goals as goal

pub returns-clause-stands : goal.returns-clause-stands
returns-clause-stands c =
    stands_for c.args.self.now (kept_state c.self.inside.part) (kept_state c.next_byte-part.result.0) c.args.byte c.next_byte-part.result.1 c.self.view_is c.next_byte-part.ensures.goes

pub returns-clause-says : goal.returns-clause-says
returns-clause-says c =
    says_for c.args.self.now (kept_state c.self.inside.part) (kept_state c.next_byte-part.result.0) c.args.byte c.next_byte-part.result.1 c.self.view_is c.next_byte-part.ensures.goes
