use Rattle.std.proofs.Common.{◌∙◌, sym, Some}
use Rattle.dense_tree.specs.InPlace.{horizon_placed}
use Rattle.dense_ledger.specs.Ledger.{setting_of, body_due, with_horizon_at}
use Rattle.dense_check.specs.Telling.{game_of}
use Rattle.dense_check.proofs.Going.{with_nest, accepts}
use Rattle.dense_check.proofs.Noding.{Told, nest_node, in_node_on, node_moves}
use Rattle.dense_check.proofs.machine.DenseMachine.horizon_line.Goals as goal

pub look_to-requires-clause-node : goal.look_to-requires-clause-node
look_to-requires-clause-node c = nest_node c.may_look_to.new.self c.args.e (in_node_on c.args.self.now c.may_look_to.new.self c.args.e c.may_look_to.ensures.rest c.may_look_to.ensures.left c.requires.node)

pub returns-then-may_look_to-clause-goes : goal.returns-then-may_look_to-clause-goes
returns-then-may_look_to-clause-goes c = λ d h.
    accepts (with_nest c.look_to.new.self c.may_look_to.new.self) (horizon_placed (setting_of (game_of c.args.self.now) d) (Some c.args.k) (Told c.args.self.now c.args.e).place) (record d { due = body_due (with_horizon_at c.args.k (Told c.args.self.now c.args.e)) })
    (sym (c.may_look_to.ensures.placed d h) ∙ c.if-may_look_to.true)
    (node_moves c.args.self.now c.may_look_to.new.self c.args.e c.look_to.new.self (λ g t d. record d { due = body_due (with_horizon_at c.args.k t) }) c.may_look_to.ensures.rest c.may_look_to.ensures.left c.look_to.ensures.same c.look_to.ensures.goes d h)
