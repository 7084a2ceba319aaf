use Rattle.std.proofs.Common.{◌∙◌, sym, ap, true, false}
use Rattle.dense_tree.specs.InPlace.{goal_placed}
use Rattle.dense_ledger.specs.Ledger.{setting_of, node_ended}
use Rattle.dense_tree.specs.Verdicts.{loosened, goal_comes_to}
use Rattle.dense_check.specs.declared.machine.DenseMachine.{DenseMachine}
use Rattle.dense_check.specs.Telling.{game_of}
use Rattle.dense_check.proofs.Noding.{Told, refused_node, goal_goes, goal_are}
use Rattle.dense_check.proofs.machine.DenseMachine.goal_line.Goals as goal

pub returns-then-not-is_at_goal-clause-goes : goal.returns-then-not-is_at_goal-clause-goes
returns-then-not-is_at_goal-clause-goes c =
    refused_node c.refuse-then-not-is_at_goal.result c.args.self.now c.args.e c.refuse-then-not-is_at_goal.new.self (λ d. goal_placed (Told c.args.self.now c.args.e).place) (λ d. node_ended (setting_of (game_of c.args.self.now) d) d (Told c.args.self.now c.args.e) (loosened (setting_of (game_of c.args.self.now) d) (Told c.args.self.now c.args.e).place (goal_comes_to (setting_of (game_of c.args.self.now) d) (Told c.args.self.now c.args.e).place)) d.frames) (ap (λ (z : DenseMachine). z.nest.due) c.refuse-then-not-is_at_goal.ensures)
    (λ d h. sym (goal_are c.args.self.now c.args.e false false (sym c.if-is_at_horizon.false ∙ c.is_at_horizon.ensures) (sym c.if-not-is_at_goal.true ∙ c.is_at_goal.ensures)))

pub returns-clause-goes : goal.returns-clause-goes
returns-clause-goes c = goal_goes c.reach.result c.args.self.now c.args.e c.reach.new.self c.reached-reached.result c.reach.ensures.same (sym (goal_are c.args.self.now c.args.e false true (sym c.if-is_at_horizon.false ∙ c.is_at_horizon.ensures) (sym c.if-not-is_at_goal.false ∙ c.is_at_goal.ensures))) c.reached-reached.ensures c.reach.ensures.goes
