use Rattle.std.proofs.Common.{rules, ◌∙◌, ◌<◌, ◌≤◌, ◌+◌, [], length, map, drop, get_or, pos, sym, ap, subst, arith}
use Rattle.std.specs.Prelude.{unsigned_abs, ◌+ℤ◌, ◌*ℤ◌}
use Rattle.std.proofs.Math.IntN.{+ℤ_idr}
use Rattle.std.proofs.lemmas.Int.{to_z-of_z}
use mir.Val.{SFits, to_z}
use mir.Syntax.{w64, w128}
use Rattle.qc_model.specs.declared.problem.Arg.TheVariants.{Var}
use Rattle.qc_model.specs.Holds.{arg_value, sum_of_products}
use Rattle.check_assignment.proofs.Zeros.{product_next, product_past, number_at, value_at_small, sum_more, small_more}
use Rattle.check_assignment.proofs.begin.first_sum.Goals as goal

pub grown-total-requires-clause-step : goal.grown-total-requires-clause-step
grown-total-requires-clause-step c =
    let fits : SFits w64 c.first_value.result = search rules in
    let l : c.loop-k.k < length c.args.items.now = omega arith in
    let s = value_at_small c.args.items.now c.loop-k.k (Var (record { 0 = 0 })) c.requires.values l in
    simp to_z-of_z (subst (λ z. unsigned_abs z ≤ 2000000000) (sym c.first_value.ensures) (omega (arith, s)))

pub loop-k-preserved : goal.loop-k-preserved
loop-k-preserved c =
    let i = c.loop-k.invariant in
    let fs = c.args.factors.now in
    let items = c.args.items.now in
    let k = c.loop-k.k in
    let f = get_or fs k (pos 0) in
    let v = arg_value [] (get_or items k (Var (record { 0 = 0 }))) in
    let total = to_z w128 c.loop-k.total-bits in
    let next = c.grown-total.result in
    let value_fits : SFits w64 c.first_value.result = search rules in
    let factor_fits : SFits w64 (get_or c.args.factors.now c.loop-k.k (pos 0)) = search rules in
    let next_fits : SFits w128 c.grown-total.result = search rules in
    let l : c.loop-k.k < length c.args.factors.now = omega arith in
    let m : c.loop-k.k < length c.args.items.now = omega arith in
    let e = (simp to_z-of_z at c.grown-total.ensures) ∙ ap (λ z. total +ℤ (f *ℤ z)) c.first_value.ensures in
    record {
      value =
          simp to_z-of_z
          (sum_more total next f v (sum_of_products (drop (k + 1) fs) (map (arg_value []) (drop (k + 1) items))) (sum_of_products (drop k fs) (map (arg_value []) (drop k items))) (sum_of_products fs (map (arg_value []) items))
          e (product_next k fs items (pos 0) (Var (record { 0 = 0 })) l m) i.value);
      small =
          simp to_z-of_z
          (small_more total next f v k e (number_at fs k (pos 0) c.requires.factors l) (value_at_small items k (Var (record { 0 = 0 })) c.requires.values m) i.small);
    }

pub returns-clause-value : goal.returns-clause-value
returns-clause-value c =
    sym (+ℤ_idr (to_z w128 c.loop-k.total-bits))
    ∙ ap (λ z. to_z w128 c.loop-k.total-bits +ℤ z) (sym (product_past c.loop-k.k c.args.factors.now c.args.items.now (omega arith)))
    ∙ c.loop-k.invariant.value
