use mir.Val.{SFits}
use mir.Syntax.{w128}
use Rattle.std.proofs.Common.{◌≡◌, ◌∙◌, ap, arith, rules, ℤ, ◌*ℤ◌, nat_eq, to_z, of_z, w64}
use Rattle.std.specs.Ordering.{int_eq}
use Rattle.std.proofs.lemmas.Int.{to_z-of_z, ints}
use Rattle.model_evaluation.proofs.arithmetic.times.Goals as goal

-- numbers of 128 bits are equal where their bits are equal
same_bits : (p z : ℤ) → SFits w128 p → SFits w128 z → nat_eq (of_z w128 p) (of_z w128 z) ≡ int_eq p z
same_bits p z f g = grind (arith, to_z-of_z)

-- a number of 64 bits fits 128
wider : (z : ℤ) → SFits w64 z → SFits w128 (to_z w64 (of_z w64 z))
wider z f = omega (arith, ints, f)

-- a product of two numbers that were passed on, beside a third one
product_told : (p x y z a b c : ℤ) → SFits w128 p → SFits w64 x → SFits w64 y → SFits w64 z
    → p ≡ to_z w64 (of_z w64 x) *ℤ to_z w64 (of_z w64 y) → x ≡ a → y ≡ b → z ≡ c
    → nat_eq (of_z w128 p) (of_z w128 (to_z w64 (of_z w64 z))) ≡ int_eq (a *ℤ b) c
product_told p x y z a b c fp fx fy fz e h k l =
    same_bits p (to_z w64 (of_z w64 z)) fp (wider z fz)
    ∙ (ap (λ w. int_eq p w) (to_z-of_z w64 z fz ∙ l)
    ∙ ap (λ w. int_eq w c) (e ∙ (ap (λ w. w *ℤ to_z w64 (of_z w64 y)) (to_z-of_z w64 x fx ∙ h) ∙ ap (λ w. a *ℤ w) (to_z-of_z w64 y fy ∙ k))))

pub returns : goal.returns
returns c =
    let p_fits : SFits w128 c.product.result = search rules in
    let x_fits : SFits w64 c.one_value-x.result = search rules in
    let y_fits : SFits w64 c.one_value-y.result = search rules in
    let z_fits : SFits w64 c.one_value.result = search rules in
    product_told c.product.result c.one_value-x.result c.one_value-y.result c.one_value.result _ _ _ p_fits x_fits y_fits z_fits
    c.product.ensures c.one_value-x.ensures c.one_value-y.ensures c.one_value.ensures
