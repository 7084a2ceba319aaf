use Rattle.std.proofs.Common.{◌≡◌, ◌∙◌, rules, subst, sym, ap, true}
use Rattle.std.specs.Prelude.{◌*ℤ◌}
use Rattle.std.proofs.lemmas.Int.{to_z-of_z}
use mir.Val.{SFits}
use mir.Syntax.{w64}
use Rattle.qc_model.specs.Refuted.{left_to}
use Rattle.qc_model.specs.Valid.{is_number}
use Rattle.qc_refuter.specs.Met.{seen}
use Rattle.qc_refuter.proofs.Terms.{least_small, greatest_small, rising_least, falling_least}
use Rattle.qc_refuter.proofs.sums.least_term.Goals as goal

pub product-requires-clause-b : goal.product-requires-clause-b
product-requires-clause-b c =
    let f : SFits w64 c.greatest_behind.result = search rules in
    simp to_z-of_z (subst (λ z. is_number z ≡ true) (sym c.greatest_behind.ensures) (greatest_small (left_to (seen c.args.view.now) c.args.arg.now) c.requires.open))

pub product-requires-else-factor-lt0-clause-b : goal.product-requires-else-factor-lt0-clause-b
product-requires-else-factor-lt0-clause-b c =
    let f : SFits w64 c.least_behind.result = search rules in
    simp to_z-of_z (subst (λ z. is_number z ≡ true) (sym c.least_behind.ensures) (least_small (left_to (seen c.args.view.now) c.args.arg.now) c.requires.open))

pub returns-then-factor-lt0-clause-value : goal.returns-then-factor-lt0-clause-value
returns-then-factor-lt0-clause-value c =
    let n_fits : SFits w64 c.args.factor = search rules in
    let v_fits : SFits w64 c.greatest_behind.result = search rules in
    let p_fits : SFits w64 c.product.result = search rules in
    let d = left_to (seen c.args.view.now) c.args.arg.now in
    let falls = simp to_z-of_z at c.if-factor-lt0.true in
    let p = simp to_z-of_z at c.product.ensures.value in
    simp to_z-of_z (p ∙ (ap (λ z. c.args.factor *ℤ z) c.greatest_behind.ensures ∙ falling_least c.args.factor d falls))

pub returns-else-factor-lt0-clause-value : goal.returns-else-factor-lt0-clause-value
returns-else-factor-lt0-clause-value c =
    let n_fits : SFits w64 c.args.factor = search rules in
    let v_fits : SFits w64 c.least_behind.result = search rules in
    let p_fits : SFits w64 c.product-else-factor-lt0.result = search rules in
    let d = left_to (seen c.args.view.now) c.args.arg.now in
    let rises = simp to_z-of_z at c.if-factor-lt0.false in
    let p = simp to_z-of_z at c.product-else-factor-lt0.ensures.value in
    simp to_z-of_z (p ∙ (ap (λ z. c.args.factor *ℤ z) c.least_behind.ensures ∙ rising_least c.args.factor d rises))
