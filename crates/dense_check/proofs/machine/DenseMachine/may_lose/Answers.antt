use Rattle.std.proofs.Common.{◌∙◌, refl, sym, subst, true, false}
use Rattle.dense_box.specs.Here.{IsHere}
use Rattle.dense_tree.specs.Place.{is_free_choice}
use Rattle.dense_check.specs.Telling.{game_of, here_in}
use Rattle.dense_check.proofs.Ending.{may_lose_at}
use Rattle.dense_check.proofs.machine.DenseMachine.may_lose.Goals as goal

pub returns-then-is_players : goal.returns-then-is_players
returns-then-is_players c = λ s bounded q. may_lose_at c.args.self.now s bounded true (is_free_choice s (here_in c.args.self.now bounded)) (sym c.if-is_players.true ∙ c.is_players.ensures bounded) refl

pub returns : goal.returns
returns c = λ s bounded q.
    let here : IsHere (game_of c.args.self.now) c.args.self.now.nest.entry.spot.number c.args.self.now.nest.remains.box s (here_in c.args.self.now bounded) = record { game = q; number = refl; later = refl; list = refl; left = refl } in
    may_lose_at c.args.self.now s bounded false c.is_free_choice.result (sym c.if-is_players.false ∙ c.is_players.ensures bounded) (c.is_free_choice.ensures c.args.self.now.nest.remains.box s (here_in c.args.self.now bounded) (subst (λ k. IsHere (game_of c.args.self.now) k c.args.self.now.nest.remains.box s (here_in c.args.self.now bounded)) (sym c.scope-i.ensures) here))
