use Rattle.std.proofs.Common.{◌∙◌, sym}
use Rattle.dense_tree.specs.InPlace.{stuck_placed}
use Rattle.dense_ledger.specs.Ledger.{setting_of, node_ended}
use Rattle.dense_tree.specs.Verdicts.{loosened, stuck_comes_to}
use Rattle.dense_check.specs.Telling.{game_of}
use Rattle.dense_check.proofs.Going.{with_nest}
use Rattle.dense_check.proofs.Noding.{Told, accepted_node, node_goes}
use Rattle.dense_check.proofs.machine.DenseMachine.stuck_line.Goals as goal

pub returns-clause-goes : goal.returns-clause-goes
returns-clause-goes c =
    accepted_node c.stop.result c.args.self.now c.args.e (with_nest c.stop.new.self c.args.self.now) (λ d. stuck_placed (Told c.args.self.now c.args.e).place) (λ d. node_ended (setting_of (game_of c.args.self.now) d) d (Told c.args.self.now c.args.e) (loosened (setting_of (game_of c.args.self.now) d) (Told c.args.self.now c.args.e).place (stuck_comes_to (setting_of (game_of c.args.self.now) d) (Told c.args.self.now c.args.e).place (Told c.args.self.now c.args.e).place.later)) d.frames)
    (λ d h. sym c.is_at_horizon.ensures ∙ c.if-not-is_at_horizon.false)
    (node_goes c.stop.result c.args.self.now c.args.e c.stop.new.self (λ d. node_ended (setting_of (game_of c.args.self.now) d) d (Told c.args.self.now c.args.e) (loosened (setting_of (game_of c.args.self.now) d) (Told c.args.self.now c.args.e).place (stuck_comes_to (setting_of (game_of c.args.self.now) d) (Told c.args.self.now c.args.e).place (Told c.args.self.now c.args.e).place.later)) d.frames) c.stop.ensures.same c.stop.ensures.goes)
