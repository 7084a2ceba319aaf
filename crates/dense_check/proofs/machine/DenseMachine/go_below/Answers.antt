use Rattle.std.proofs.Common.{◌∙◌, ap}
use Rattle.qc_model.specs.Content.{Game}
use Rattle.fd_store.specs.Held.{Held}
use Rattle.proof_tree.specs.Place.{is_fixed}
use Rattle.dense_check.specs.Telling.{game_of}
use Rattle.dense_check.proofs.machine.DenseMachine.go_below.Goals as goal

pub go_below-requires-clause-fixed : goal.go_below-requires-clause-fixed
go_below-requires-clause-fixed c =
    c.is_fixed-fixed.ensures
    ∙ (ap (λ (g : Game). is_fixed g c.level.result.now.number c.store.result.now.box) c.level.ensures.problem
    ∙ (ap (λ k. is_fixed (game_of c.args.self.now) k c.store.result.now.box) (c.level.ensures.number ∙ c.scope-i.ensures)
    ∙ ap (λ (h : Held). is_fixed (game_of c.args.self.now) c.args.self.now.nest.entry.spot.number h.box) c.store.ensures))

pub go_below-requires-clause-players : goal.go_below-requires-clause-players
go_below-requires-clause-players c = c.is_players-players.ensures c.args.bounded
