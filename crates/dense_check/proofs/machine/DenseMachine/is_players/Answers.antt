use Rattle.std.proofs.Common.{◌∙◌, sym}
use Rattle.qc_model.specs.declared.problem.Kind.TheVariants.{Exists, Forall}
use Rattle.dense_check.proofs.Placing.{players_here}
use Rattle.dense_check.proofs.machine.DenseMachine.is_players.Goals as goal

pub returns-in-Exists : goal.returns-in-Exists
returns-in-Exists c = λ bounded. sym (players_here c.args.self.now c.level.result.now Exists bounded c.level.ensures.problem (c.level.ensures.number ∙ c.scope-i.ensures) c.in-Exists.is)

pub returns-in-Forall : goal.returns-in-Forall
returns-in-Forall c = λ bounded. sym (players_here c.args.self.now c.level.result.now Forall bounded c.level.ensures.problem (c.level.ensures.number ∙ c.scope-i.ensures) c.in-Forall.is)
