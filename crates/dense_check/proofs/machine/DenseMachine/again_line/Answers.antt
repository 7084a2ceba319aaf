use Rattle.std.proofs.Common.{◌≡◌, ◌∙◌, sym, ap, subst, true}
use Rattle.std.specs.Prelude.{slice_get}
use Rattle.dense_nest.specs.Goes.{is_told_in}
use Rattle.dense_check.specs.declared.machine.DenseMachine.{DenseMachine}
use Rattle.dense_check.specs.Telling.{InNode}
use Rattle.dense_check.proofs.Ending.{always}
use Rattle.dense_check.proofs.Noding.{nest_node, again_goes, again_refused}
use Rattle.dense_check.proofs.machine.DenseMachine.again_line.Goals as goal

pub tell_again-requires-clause-node : goal.tell_again-requires-clause-node
tell_again-requires-clause-node c = nest_node c.is_alike.new.self c.args.e (subst (λ z. InNode z c.args.e) (sym c.is_alike.ensures.same) c.requires.node)

pub tell_again-requires-clause-told : goal.tell_again-requires-clause-told
tell_again-requires-clause-told c = subst (λ (z : DenseMachine). is_told_in (slice_get z.nest.named.items c.args.n) c.args.e.spot.number ≡ true) (sym c.is_alike.ensures.same) (c.is_alike.ensures.told c.if-not-is_alike.false)

pub returns-then-not-is_alike-clause-goes : goal.returns-then-not-is_alike-clause-goes
returns-then-not-is_alike-clause-goes c = always c.refuse.result (again_refused c.args.self.now c.refuse.new.self c.args.e c.args.n (ap (λ (z : DenseMachine). z.nest.due) c.refuse.ensures) (λ d h. sym c.if-not-is_alike.true ∙ c.is_alike.ensures.alike d h))

pub returns-clause-goes : goal.returns-clause-goes
returns-clause-goes c = again_goes c.tell_again.result c.args.self.now c.is_alike.new.self c.args.e c.tell_again.new.self c.args.n c.is_alike.ensures.same c.tell_again.ensures.same (λ d h. sym c.if-not-is_alike.false ∙ c.is_alike.ensures.alike d h) c.tell_again.ensures.goes
