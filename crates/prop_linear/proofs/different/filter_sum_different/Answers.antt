use Rattle.std.proofs.Common.{◌≡◌, ◌∙◌, ◌<◌, sym, ap, refl, get_or, length, arith, false}
use Rattle.std.specs.Prelude.{pos}
use Rattle.qc_model.specs.declared.problem.Arg.TheVariants.{Var, Num}
use Rattle.model_arguments.specs.Repeats.{same_variable}
use Rattle.prop_linear.proofs.Last.{any_default}
use Rattle.prop_linear.proofs.Loose.{two_loose}
use Rattle.prop_linear.proofs.different.filter_sum_different.Goals as goal

pub returns-then-q-items-clause-answer : goal.returns-then-q-items-clause-answer
returns-then-q-items-clause-answer c =
    let xs = c.args.items.now in
    let p = c.first_loose-p.result in
    let q = c.first_loose-q.result in
    let l : p < length xs = omega (arith, c.first_loose-p.ensures.most, c.if-p-items.false) in
    let k : q < length xs = c.if-q-items.true in
    let a = any_default xs p (Num (pos 0)) (Var (record { 0 = 0 })) l in
    let b = any_default xs q (Num (pos 0)) (Var (record { 0 = 0 })) k in
    let differ : same_variable (get_or xs p (Num (pos 0))) (get_or xs q (Num (pos 0))) ≡ false =
    ap (λ z. same_variable z (get_or xs q (Num (pos 0)))) a ∙ (ap (same_variable (get_or xs p (Var (record { 0 = 0 })))) b ∙ (sym c.is_same.ensures ∙ c.if-is_same.false)) in
    (c.requires.fits.full, refl, two_loose c.args.asked.rule.now c.args.factors.now xs c.args.bound c.args.store.now.box p q (Num (pos 0)) c.requires.unequal c.requires.open c.requires.equal l k (c.first_loose-p.ensures.found l) (c.first_loose-q.ensures.found k) differ)
