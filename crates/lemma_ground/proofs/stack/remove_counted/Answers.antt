use Rattle.lemma_ground.proofs.Going.{goes_cut, full_cut}
use Rattle.lemma_ground.proofs.stack.remove_counted.Goals as goal

pub returns-clause-goes : goal.returns-clause-goes
returns-clause-goes c = goes_cut c.args.x.0 _ _ c.args.store.now c.remove.new.self c.remove.ensures.content c.remove.ensures.past

pub returns-clause-full : goal.returns-clause-full
returns-clause-full c = full_cut c.args.x.0 _ _ c.args.store.now c.remove.new.self c.size.result c.requires.var c.remove.ensures.content c.size.ensures
