use Rattle.std.proofs.Common.{◌≡◌, sym, subst, true, [], ◌∷◌, ◌++◌}
use Rattle.fd_store.specs.Held.{Held}
use Rattle.dense_alike.specs.Laid.{is_full_box}
use Rattle.dense_check.proofs.Noding.{named_goes, keeps_full}
use Rattle.dense_check.proofs.machine.DenseMachine.named_line.Goals as goal

pub keep-requires : goal.keep-requires
keep-requires c = subst (λ (h : Held). is_full_box c.args.self.now.positions.game h.box ≡ true) (sym c.store.ensures) (keeps_full c.args.self.now c.args.e c.requires.node)

pub returns-clause-goes : goal.returns-clause-goes
returns-clause-goes c = named_goes c.name.result c.args.self.now c.args.e c.name.new.self c.keep.new.self (subst (λ (h : Held). c.keep.new.self ≡ record (c.args.self.now.positions) { boxes = c.args.self.now.positions.boxes ++ h.box ∷ [] }) c.store.ensures c.in_ok-keep.ensures.kept) c.name.ensures.same c.name.ensures.goes
