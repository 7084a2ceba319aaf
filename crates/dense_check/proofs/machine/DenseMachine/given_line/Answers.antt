use Rattle.std.proofs.Common.{◌∙◌, refl, sym, ap}
use Rattle.dense_nest.specs.declared.nest.Nest.{Nest}
use Rattle.dense_check.specs.Telling.{game_of}
use Rattle.dense_check.proofs.Going.{with_nest}
use Rattle.dense_check.proofs.Casing.{same_held, few_declared, given_refused, given_goes}
use Rattle.dense_check.proofs.machine.DenseMachine.given_line.Goals as goal

pub returns-then-not-may_give-clause-goes : goal.returns-then-not-may_give-clause-goes
returns-then-not-may_give-clause-goes c = λ t gathered d h due.
    given_refused c.args.self.now c.args.scope c.args.tuple.now t (few_declared c.args.self.now c.requires.root c.known.ensures) gathered (with_nest c.refuse-then-not-may_give.new.self c.args.self.now) d (ap (λ (z : Nest). z.due) c.refuse-then-not-may_give.ensures)
    (sym (c.may_give.ensures.placed (record { scope = c.args.scope; tuple = c.args.tuple.now }) refl refl) ∙ c.if-not-may_give.true)

pub returns-clause-goes : goal.returns-clause-goes
returns-clause-goes c = λ t gathered d h due.
    let placed = sym (c.may_give.ensures.placed (record { scope = c.args.scope; tuple = c.args.tuple.now }) refl refl) ∙ c.if-not-may_give.false in
    given_goes c.args.self.now c.args.scope c.args.tuple.now t (few_declared c.args.self.now c.requires.root c.known.ensures) gathered c.may_give.new.remains c.give.new.self d c.requires.due due
    (same_held c.args.self.now.nest.remains c.may_give.new.remains c.may_give.ensures.content c.may_give.ensures.past)
    (c.give.ensures (game_of c.args.self.now) d.given (record { scope = c.args.scope; tuple = c.args.tuple.now }) h.knows.given refl placed) placed
    (sym (c.comes_next.ensures (game_of c.args.self.now) d.given (record { scope = c.args.scope; tuple = c.args.tuple.now }) h.knows.given refl h.knows.order) ∙ c.if-not-comes_next.false) h
