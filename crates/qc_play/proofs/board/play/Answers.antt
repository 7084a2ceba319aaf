use Rattle.qc_play.specs.Sides.{kind_of, choices_of}
use Rattle.qc_play.proofs.Endings.{ends_well}
use Rattle.qc_play.proofs.board.play.Goals as goal

pub returns-in_err-with_capacity-clause-ends : goal.returns-in_err-with_capacity-clause-ends
returns-in_err-with_capacity-clause-ends c = ends_well c.args.problem.now (kind_of c.args.side) (choices_of c.args.side) c.args.moves.now c.requires

pub returns-in_err-go_on-clause-ends : goal.returns-in_err-go_on-clause-ends
returns-in_err-go_on-clause-ends c = ends_well c.args.problem.now (kind_of c.args.side) (choices_of c.args.side) c.args.moves.now c.requires

pub returns-clause-ends : goal.returns-clause-ends
returns-clause-ends c = ends_well c.args.problem.now (kind_of c.args.side) (choices_of c.args.side) c.args.moves.now c.requires
