use Rattle.std.proofs.Common.{◌∙◌, ap, sym, subst, take, length, true}
use Rattle.qc_model.specs.Demands.{demands}
use Rattle.qc_model.specs.ForallVerdict.{goal_verdict}
use Rattle.joins.specs.Joins.{game_of as game_joined}
use Rattle.dense_nest.specs.declared.nest.Nest.{Nest}
use Rattle.dense_nest.specs.Places.{entry_told}
use Rattle.dense_nest.specs.Telling.{game_of}
use Rattle.dense_nest.specs.Goes.{Finds, goal_of}
use Rattle.dense_nest.proofs.NodeFinds.{goal_here}
use Rattle.dense_nest.proofs.nest.Nest.find_goal.Goals as goal

pub returns-in-Holds-clause-finds : goal.returns-in-Holds-clause-finds
returns-in-Holds-clause-finds c =
    let r = c.read_position-count in
    let g = game_joined r.new.self.joins in
    let s = c.goal-self in
    let m = c.args.self.now in
    let now : Nest = record (r.new.self) { joins = s.new.self; found = s.result } in
    subst (λ x. Finds m c.args.e now (λ us d. goal_of (entry_told (game_of m) m.remains c.args.e).place (game_of m) x)) (sym c.in-Holds.is)
    (goal_here c.args.self.now r.new.self c.args.e s.new.self s.result r.result c.requires.goal r.ensures.rest r.ensures.made r.ensures.read s.ensures.all s.ensures.same
    (s.ensures.verdict ∙ ap (λ xs. goal_verdict g true (demands g (length g.scopes)) (take r.result xs)) c.deref.ensures.value))
