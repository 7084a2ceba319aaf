use Rattle.std.proofs.Common.{rules, ◌≡◌, ◌∙◌}
use Rattle.std.specs.Prelude.{◌*ℤ◌}
use Rattle.std.specs.Int.{int_min, int_max}
use Rattle.std.proofs.lemmas.Int.{to_z-of_z}
use mir.Val.{SFits}
use mir.Syntax.{w64}
use Rattle.dense_quiet.proofs.Related.{of_four}
use Rattle.dense_quiet.proofs.Shared.{same_range}
use Rattle.dense_quiet.proofs.relating.products.Goals as goal

pub returns : goal.returns
returns c =
    let a = c.args.a in
    let b = c.args.b in
    let p = c.product-low.result in
    let q = c.product-falling.result in
    let r = c.product-rising.result in
    let s = c.product-high.result in
    let al_fits : SFits w64 a.least = search rules in
    let ag_fits : SFits w64 a.greatest = search rules in
    let bl_fits : SFits w64 b.least = search rules in
    let bg_fits : SFits w64 b.greatest = search rules in
    let p_fits : SFits w64 p = search rules in
    let q_fits : SFits w64 q = search rules in
    let r_fits : SFits w64 r = search rules in
    let s_fits : SFits w64 s = search rules in
    let l_fits : SFits w64 c.min.result = search rules in
    let m_fits : SFits w64 c.min-2.result = search rules in
    let n_fits : SFits w64 c.min-3.result = search rules in
    let u_fits : SFits w64 c.max.result = search rules in
    let v_fits : SFits w64 c.max-2.result = search rules in
    let w_fits : SFits w64 c.max-3.result = search rules in
    let p_is : p ≡ a.least *ℤ b.least = simp to_z-of_z at c.product-low.ensures.value in
    let q_is : q ≡ a.least *ℤ b.greatest = simp to_z-of_z at c.product-falling.ensures.value in
    let r_is : r ≡ a.greatest *ℤ b.least = simp to_z-of_z at c.product-rising.ensures.value in
    let s_is : s ≡ a.greatest *ℤ b.greatest = simp to_z-of_z at c.product-high.ensures.value in
    let l_is : c.min.result ≡ int_min r s = simp to_z-of_z at c.min.ensures.value in
    let m_is : c.min-2.result ≡ int_min q c.min.result = simp to_z-of_z at c.min-2.ensures.value in
    let n_is : c.min-3.result ≡ int_min p c.min-2.result = simp to_z-of_z at c.min-3.ensures.value in
    let u_is : c.max.result ≡ int_max r s = simp to_z-of_z at c.max.ensures.value in
    let v_is : c.max-2.result ≡ int_max q c.max.result = simp to_z-of_z at c.max-2.ensures.value in
    let w_is : c.max-3.result ≡ int_max p c.max-2.result = simp to_z-of_z at c.max-3.ensures.value in
    same_range _ _ _ _
    (to_z-of_z w64 c.min-3.result n_fits ∙ of_four int_min p q r s c.min.result c.min-2.result c.min-3.result (a.least *ℤ b.least) (a.least *ℤ b.greatest) (a.greatest *ℤ b.least) (a.greatest *ℤ b.greatest) l_is m_is n_is p_is q_is r_is s_is)
    (to_z-of_z w64 c.max-3.result w_fits ∙ of_four int_max p q r s c.max.result c.max-2.result c.max-3.result (a.least *ℤ b.least) (a.least *ℤ b.greatest) (a.greatest *ℤ b.least) (a.greatest *ℤ b.greatest) u_is v_is w_is p_is q_is r_is s_is)
