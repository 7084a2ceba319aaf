use Rattle.std.proofs.Common.{◌∙◌, ap, take, drop}
use Rattle.qc_model.specs.Demands.{demands}
use Rattle.joins.specs.Joins.{game_of as game_joined}
use Rattle.joins.specs.Verdicts.{stuck_of}
use Rattle.dense_nest.proofs.NodeFinds.{stuck_here}
use Rattle.dense_nest.proofs.nest.Nest.find_stuck.Goals as goal

pub returns-clause-finds : goal.returns-clause-finds
returns-clause-finds c =
    let e = c.args.e in
    let r = c.read_position-count in
    let g = game_joined r.new.self.joins in
    let s = c.stuck-self in
    stuck_here c.args.self.now r.new.self e s.new.self s.result r.result r.ensures.rest r.ensures.made r.ensures.read s.ensures.others s.ensures.same
    (s.ensures.verdict ∙ ap (λ xs. stuck_of (drop e.spot.number g.scopes) g (demands g e.spot.number) (take r.result xs)) c.deref.ensures.value)
