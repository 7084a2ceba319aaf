use Rattle.proof_text.specs.Walks.{reading_of}
use Rattle.proof_text.proofs.Saying.{ended_for}
use Rattle.proof_text.proofs.Telling.{told_whole}
use Rattle.proof_text.proofs.reader.LineReader.is_ended.Goals as goal

pub returns-clause-ended : goal.returns-clause-ended
returns-clause-ended c = ended_for c.args.self.now (reading_of c.self.inside.tree c.self.inside.at) c.is_over.result c.self.view_is c.is_over.ensures.owes

pub returns-clause-told : goal.returns-clause-told
returns-clause-told c =
    told_whole c.args.self.now (reading_of c.self.inside.tree c.self.inside.at) c.is_over.result c.self.view_is (λ e. c.is_over.ensures.owes.0 e) c.is_over.ensures.between
