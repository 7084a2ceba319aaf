use Rattle.model_arguments.proofs.Boxes.{left_small}
use Rattle.dense_nest.specs.Telling.{game_of}
use Rattle.dense_nest.proofs.Opening.{branch_tells}
use Rattle.dense_nest.proofs.nest.Nest.branch.Goals as goal

pub returns-clause-goes : goal.returns-clause-goes
returns-clause-goes c = λ us boxes d p.
    let m = c.args.self.now in
    branch_tells m us boxes d p c.push.new.self c.mark.result c.mark.ensures c.requires.full c.args.bounded c.args.x c.in_ok-push.ensures c.requires.variable
    (left_small (game_of m) m.remains.box c.args.x.0 c.known.ensures.domains p.box)
