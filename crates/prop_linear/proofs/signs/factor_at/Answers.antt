use Rattle.std.proofs.Common.{◌≡◌, ◌∙◌, sym, subst, get_or, rules, false}
use Rattle.std.specs.Prelude.{pos}
use Rattle.std.proofs.lemmas.Int.{to_z-of_z}
use mir.Val.{SFits}
use mir.Syntax.{w64}
use Rattle.prop_linear.specs.Sides.{signed}
use Rattle.prop_linear.proofs.Lows.{signed_number, opposite_at}
use Rattle.prop_linear.proofs.signs.factor_at.Goals as goal

pub negated-requires : goal.negated-requires
negated-requires c =
    let n_fits : SFits w64 (get_or c.args.factors.now c.args.k (pos 0)) = search rules in
    simp to_z-of_z (signed_number false c.args.factors.now c.args.k c.requires.place c.requires.factors)

pub returns-then-negative : goal.returns-then-negative
returns-then-negative c =
    let n_fits : SFits w64 (get_or c.args.factors.now c.args.k (pos 0)) = search rules in
    let fits : SFits w64 c.negated.result = search rules in
    let e = simp to_z-of_z at c.negated.ensures in
    let turned = e ∙ sym (opposite_at c.args.factors.now c.args.k c.requires.place) in
    simp to_z-of_z (subst (λ b. c.negated.result ≡ get_or (signed b c.args.factors.now) c.args.k (pos 0)) (sym c.if-negative.true) turned)
