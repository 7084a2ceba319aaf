use Rattle.std.proofs.Common.{sym, ◌∙◌, subst}
use Rattle.model_arguments.proofs.Bools.{not_false}
use Rattle.prop_engine.specs.Literals.{Stands}
use Rattle.prop_engine.proofs.Open.{one_shows, both_show}
use Rattle.prop_engine.proofs.literals.are_enough.Goals as goal

pub returns-in-Holds : goal.returns-in-Holds
returns-in-Holds c t plain negated i j =
    let box = c.args.store.now.box in
    let s = subst (λ z. Stands z box c.args.one) c.in-Holds.is c.standing_of.ensures in
    one_shows box plain negated c.args.one i s.0 s.1

pub returns-in-Holds-standing_of : goal.returns-in-Holds-standing_of
returns-in-Holds-standing_of c t plain negated i j =
    let box = c.args.store.now.box in
    let s = subst (λ z. Stands z box c.args.other) c.in-Holds-standing_of.is c.standing_of-in-Fails.ensures in
    one_shows box plain negated c.args.other j s.0 s.1

pub returns-in-Holds-standing_of-2 : goal.returns-in-Holds-standing_of-2
returns-in-Holds-standing_of-2 c t plain negated i j =
    let box = c.args.store.now.box in
    let s = subst (λ z. Stands z box c.args.other) c.in-Holds-standing_of-2.is c.standing_of-in-Unfixed.ensures in
    one_shows box plain negated c.args.other j s.0 s.1

pub returns-in-Unfixed-standing_of : goal.returns-in-Unfixed-standing_of
returns-in-Unfixed-standing_of c t plain negated i j =
    let box = c.args.store.now.box in
    let s = subst (λ z. Stands z box c.args.one) c.in-Unfixed.is c.standing_of.ensures in
    let u = subst (λ z. Stands z box c.args.other) c.in-Unfixed-standing_of.is c.standing_of-in-Unfixed.ensures in
    both_show box plain negated c.args.one c.args.other i j s u (sym c.is_same.ensures ∙ not_false c.is_same.result t)
