use Rattle.dense_nest.specs.Opened.{rest}
use Rattle.dense_nest.proofs.Closing.{back}
use Rattle.dense_nest.proofs.nest.Nest.back_to.Goals as goal

pub returns-clause-ends : goal.returns-clause-ends
returns-clause-ends c =
    let m = c.args.self.now in
    back m c.args.k (rest m.open) c.undo_to.new.self c.requires.top c.undo_to.ensures.past c.undo_to.ensures.content
