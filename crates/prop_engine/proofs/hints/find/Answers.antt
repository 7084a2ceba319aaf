use Rattle.std.proofs.Common.{◌≡◌, false, length, sym, ◌∙◌, subst}
use Rattle.std.specs.Prelude.{IfSome}
use Rattle.prop_engine.specs.Literals.{IsLiteralOf, Stands, is_fixed}
use Rattle.prop_engine.proofs.Open.{literal_placed, one_shows, both_show}
use Rattle.prop_engine.proofs.hints.find.Goals as goal

pub standing_of-requires : goal.standing_of-requires
standing_of-requires c =
    literal_placed (length c.args.store.now.box) c.args.plain.now c.args.negated.now c.in-Some.literal c.requires.plain c.requires.negated c.in-Some.ensures

pub returns-in-Holds-clause-open : goal.returns-in-Holds-clause-open
returns-in-Holds-clause-open c =
    let box = c.args.store.now.box in
    let s = subst (λ z. Stands z box c.in-Some.literal) c.in-Holds.is c.standing_of.ensures in
    one_shows box c.args.plain.now c.args.negated.now c.in-Some.literal c.in-Some.ensures s.0 s.1

pub returns-then-not-is_same-clause-open : goal.returns-then-not-is_same-clause-open
returns-then-not-is_same-clause-open c =
    let box = c.args.store.now.box in
    let plain = c.args.plain.now in
    let negated = c.args.negated.now in
    let l = c.in-Some-free.first in
    let m = c.in-Some.literal in
    let f = subst (λ z. IfSome z (λ f. IsLiteralOf plain negated f × (is_fixed box f ≡ false))) c.in-Some-free.is c.loop-k.invariant in
    let u = subst (λ z. Stands z box m) c.in-Unfixed.is c.standing_of.ensures in
    both_show box plain negated l m f.0 c.in-Some.ensures f.1 u (sym c.is_same.ensures ∙ c.if-not-is_same.true)

pub returns-then-not-is_same-clause-one : goal.returns-then-not-is_same-clause-one
returns-then-not-is_same-clause-one c =
    let box = c.args.store.now.box in
    let f = subst (λ z. IfSome z (λ f. IsLiteralOf c.args.plain.now c.args.negated.now f × (is_fixed box f ≡ false))) c.in-Some-free.is c.loop-k.invariant in
    f.0
