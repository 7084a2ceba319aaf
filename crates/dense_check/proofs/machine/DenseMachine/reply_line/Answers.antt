use Rattle.qc_model.specs.Domains.{declared_box}
use Rattle.dense_ledger.specs.Ledger.{setting_of}
use Rattle.dense_check.specs.Telling.{game_of, here_in}
use Rattle.dense_check.proofs.Stepping.{here_at, reply_goes}
use Rattle.dense_check.proofs.Ending.{box_there, box_few}
use Rattle.dense_check.proofs.machine.DenseMachine.reply_line.Goals as goal

pub returns-clause-goes : goal.returns-clause-goes
returns-clause-goes c = λ t gathered.
    reply_goes c.args.self.now c.args.bounded c.args.tuple.now t (box_few c.args.self.now c.requires.part c.known.ensures) gathered c.step_on.new.self c.reply-placed.new.remains c.reply-placed.result c.step_on.ensures c.reply-placed.ensures.past
    (c.reply-placed.ensures.fewer (declared_box (game_of c.args.self.now)) (box_there c.args.self.now c.requires.part))
    (λ d h. c.reply-placed.ensures.placed (setting_of (game_of c.args.self.now) d) (here_in c.args.self.now c.args.bounded) (here_at c.args.self.now d c.args.bounded c.scope-i.result.0 c.scope-i.ensures)) (λ e d h. c.reply-placed.ensures.content e (setting_of (game_of c.args.self.now) d) (here_in c.args.self.now c.args.bounded) (here_at c.args.self.now d c.args.bounded c.scope-i.result.0 c.scope-i.ensures))
