use Rattle.lemma_ground.proofs.Going.{past_back}
use Rattle.lemma_ground.proofs.filtered.filtered.Goals as goal

pub returns-clause-past : goal.returns-clause-past
returns-clause-past c = past_back c.args.store.now c.ask-answer.new.store c.undo_to.new.self c.mark-mark.result.at c.mark-mark.ensures c.ask-answer.ensures.follows c.undo_to.ensures.past
