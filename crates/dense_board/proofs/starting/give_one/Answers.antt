use Rattle.std.proofs.Common.{◌<◌, ◌∙◌, ◌++◌, ◌∷◌, [], sym, subst, refl}
use Rattle.dense_tree.specs.Tree.{Given}
use Rattle.dense_board.proofs.starting.give_one.Goals as goal

pub give-requires : goal.give-requires
give-requires c = subst (λ n. c.args.it.now.scope.0 < n) (sym c.requires.knows.stands.count) (c.may_give.ensures.within c.if-may_give.true)

pub returns-then-may_give-clause-knows : goal.returns-then-may_give-clause-knows
returns-then-may_give-clause-knows c =
    let k = c.requires.knows in
    let u : Given = record { scope = c.args.it.now.scope; tuple = c.as_slice.result.now } in
    record {
      given = k.given ++ u ∷ [];
      stands = c.give.ensures c.args.levels.now.problem.now k.given u k.stands refl (sym (c.may_give.ensures.placed u refl refl) ∙ c.if-may_give.true);
    }
