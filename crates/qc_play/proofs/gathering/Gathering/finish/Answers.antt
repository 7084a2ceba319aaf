use Rattle.qc_play.specs.declared.gathering.Gathering.TheVariants.{Player, Opponent}
use Rattle.qc_play.proofs.Finished.{finishes_as}
use Rattle.qc_play.proofs.gathering.Gathering.finish.Goals as goal

pub returns-in-Player : goal.returns-in-Player
returns-in-Player c = finishes_as c.finish.result c.args.self (Player c.in-Player.leaves) c.args.found c.in-Player.is c.finish.ensures

pub returns-in-Opponent : goal.returns-in-Opponent
returns-in-Opponent c = finishes_as c.finish-in-Opponent.result c.args.self (Opponent c.in-Opponent.leaves) c.args.found c.in-Opponent.is c.finish-in-Opponent.ensures
