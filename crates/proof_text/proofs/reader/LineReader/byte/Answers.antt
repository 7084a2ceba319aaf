use Rattle.proof_text.specs.Walks.{reading_of}
use Rattle.proof_text.proofs.Saying.{stands_for, says_for}
use Rattle.proof_text.proofs.reader.LineReader.byte.Goals as goal

pub returns-clause-stands : goal.returns-clause-stands
returns-clause-stands c =
    let given = reading_of c.self.inside.tree c.self.inside.at in
    let new = reading_of c.read_byte-at.new.tree c.read_byte-at.result.0 in
    stands_for c.args.self.now given new c.args.byte c.read_byte-at.result.1 c.self.view_is c.read_byte-at.ensures.goes

pub returns-clause-says : goal.returns-clause-says
returns-clause-says c =
    let given = reading_of c.self.inside.tree c.self.inside.at in
    let new = reading_of c.read_byte-at.new.tree c.read_byte-at.result.0 in
    says_for c.args.self.now given new c.args.byte c.read_byte-at.result.1 c.self.view_is c.read_byte-at.ensures.goes
