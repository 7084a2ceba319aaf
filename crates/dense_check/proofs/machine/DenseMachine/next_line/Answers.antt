use Rattle.std.proofs.Common.{◌∙◌, sym, ap, false, ◌∷◌}
use Rattle.dense_tree.specs.Place.{place_below}
use Rattle.dense_tree.specs.InPlace.{next_placed}
use Rattle.dense_ledger.specs.Ledger.{setting_of, node_due, entry_at, waiting}
use Rattle.dense_check.specs.declared.machine.DenseMachine.{DenseMachine}
use Rattle.dense_check.specs.Telling.{game_of, here_in}
use Rattle.dense_check.proofs.Stepping.{here_at}
use Rattle.dense_check.proofs.Ending.{refused_end, accepted_end, next_full}
use Rattle.dense_check.proofs.machine.DenseMachine.next_line.Goals as goal

pub go_below-requires-clause-full : goal.go_below-requires-clause-full
go_below-requires-clause-full c =
    let d = c.requires.part.0 in
    next_full (setting_of (game_of c.args.self.now) d) (here_in c.args.self.now c.args.bounded) (sym (c.may_go_on.ensures (setting_of (game_of c.args.self.now) d) (here_in c.args.self.now c.args.bounded) (here_at c.args.self.now d c.args.bounded c.scope-i.result.0 c.scope-i.ensures)) ∙ c.if-not-may_go_on.false)

pub returns-then-not-may_go_on-clause-goes : goal.returns-then-not-may_go_on-clause-goes
returns-then-not-may_go_on-clause-goes c = refused_end c.refuse.result c.args.self.now c.refuse.new.self (λ d. next_placed (setting_of (game_of c.args.self.now) d) (here_in c.args.self.now c.args.bounded)) (λ d. record d { due = node_due (entry_at (place_below (setting_of (game_of c.args.self.now) d) (here_in c.args.self.now c.args.bounded)) false); frames = waiting d.own ∷ d.frames }) (ap (λ (z : DenseMachine). z.nest.due) c.refuse.ensures) (λ d h. sym (c.may_go_on.ensures (setting_of (game_of c.args.self.now) d) (here_in c.args.self.now c.args.bounded) (here_at c.args.self.now d c.args.bounded c.scope-i.result.0 c.scope-i.ensures)) ∙ c.if-not-may_go_on.true)

pub returns-clause-goes : goal.returns-clause-goes
returns-clause-goes c = accepted_end c.go_below.result c.args.self.now c.go_below.new.self (λ d. next_placed (setting_of (game_of c.args.self.now) d) (here_in c.args.self.now c.args.bounded)) (λ d. record d { due = node_due (entry_at (place_below (setting_of (game_of c.args.self.now) d) (here_in c.args.self.now c.args.bounded)) false); frames = waiting d.own ∷ d.frames }) (λ d h. sym (c.may_go_on.ensures (setting_of (game_of c.args.self.now) d) (here_in c.args.self.now c.args.bounded) (here_at c.args.self.now d c.args.bounded c.scope-i.result.0 c.scope-i.ensures)) ∙ c.if-not-may_go_on.false) c.go_below.ensures.goes
