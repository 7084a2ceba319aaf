use Rattle.std.proofs.Common.{◌≡◌, ◌∙◌, subst, sym, true}
use Rattle.qc_model.specs.Game.{restriction}
use Rattle.fd_store.specs.Held.{Held}
use Rattle.dense_tree.specs.Tuples.{all_hold}
use Rattle.dense_check.specs.Telling.{game_of}
use Rattle.dense_check.proofs.Apart.{goal_holds}
use Rattle.dense_check.proofs.machine.DenseMachine.reached.Goals as goal

pub returns-then-is_entailed_throughout : goal.returns-then-is_entailed_throughout
returns-then-is_entailed_throughout c = λ s p game number box.
    let g = game_of c.args.self.now in
    let i = c.args.e.spot.number in
    let holds : all_hold (restriction g i) c.args.self.now.nest.remains.box ≡ true =
    subst (λ (h : Held). all_hold (restriction g i) h.box ≡ true) c.store-store.ensures (sym c.is_entailed_throughout.ensures ∙ c.if-is_entailed_throughout.true) in
    goal_holds g i c.args.self.now.nest.remains.box s p c.known.ensures c.requires.full holds game number box
