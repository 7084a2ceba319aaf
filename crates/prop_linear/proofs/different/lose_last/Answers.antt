use Rattle.std.proofs.Common.{◌≡◌, ◌∙◌, sym, ap, subst, rules, refl, length, get_or, arith, true, false, not}
use Rattle.std.specs.Prelude.{pos}
use Rattle.std.proofs.lemmas.Int.{to_z-of_z}
use mir.Val.{SFits}
use mir.Syntax.{w64, w128}
use Rattle.qc_model.specs.declared.problem.Arg.TheVariants.{Var, Num}
use Rattle.qc_model.specs.Closed.{keeps_ends}
use Rattle.qc_model.specs.Domains.{has_empty, is_single, values_left, values_outside}
use Rattle.qc_model.specs.Ranges.{Range}
use Rattle.qc_model.specs.Refuted.{left_to}
use Rattle.qc_model.proofs.Readable.{second}
use Rattle.model_arguments.specs.Asked.{IsAsked}
use Rattle.model_arguments.proofs.Boxes.{set_full}
use Rattle.std.specs.List.{list_all}
use Rattle.model_arguments.proofs.Bools.{not_false}
use Rattle.qc_refuter.specs.Met.{is_open}
use Rattle.std.specs.Ordering.{int_eq}
use Rattle.prop_linear.specs.Tightening.{least_sum}
use Rattle.prop_linear.specs.Unequal.{IsHit, is_loose}
use Rattle.prop_linear.proofs.Found.{placed, open_there}
use Rattle.prop_linear.proofs.Last.{any_default, all_stay, factor_of, hit_cut, last_keeps, one_leaves, others_miss}
use Rattle.prop_linear.proofs.Still.{open_again}
use Rattle.prop_base.proofs.Prunings.{fits_after}
use Rattle.prop_linear.proofs.different.lose_last.Goals as goal

pub missing_value-requires-clause-factor : goal.missing_value-requires-clause-factor
missing_value-requires-clause-factor c =
    let n_fits : SFits w64 (get_or c.args.factors.now c.args.p (pos 0)) = search rules in
    simp to_z-of_z (factor_of (get_or c.args.factors.now c.args.p (pos 0)) (left_to c.args.store.now.box (get_or c.args.items.now c.args.p (Num (pos 0)))) c.requires.loose)

pub missing_value-requires-clause-x : goal.missing_value-requires-clause-x
missing_value-requires-clause-x c =
    placed c.args.asked.problem.now c.args.asked.rule.now c.args.store.now.box c.args.items.now c.args.p c.in-Var.x (Var (record { 0 = 0 })) c.requires.fits c.requires.sees c.requires.place c.in-Var.is

pub missing_value-requires-clause-open : goal.missing_value-requires-clause-open
missing_value-requires-clause-open c =
    open_there c.args.asked.problem.now c.args.asked.rule.now c.args.store.now.box c.args.items.now c.args.p c.in-Var.x (Var (record { 0 = 0 })) c.known.ensures.domains c.requires.fits c.requires.sees c.requires.place c.in-Var.is

pub returns-in_default-missing_value-clause-answer : goal.returns-in_default-missing_value-clause-answer
returns-in_default-missing_value-clause-answer c =
    let b_fits : SFits w64 c.args.bound = search rules in
    let n_fits : SFits w64 (get_or c.args.factors.now c.args.p (pos 0)) = search rules in
    let f_fits : SFits w128 c.sum_extent-least.result.from = search rules in
    let t_fits : SFits w128 c.sum_extent-least.result.to = search rules in
    let r = c.args.asked.rule.now in
    let ns = c.args.factors.now in
    let xs = c.args.items.now in
    let box = c.args.store.now.box in
    let p = c.args.p in
    let n = get_or ns p (pos 0) in
    let d = values_left box c.in-Var.x.0 in
    let q = any_default xs p (Num (pos 0)) (Var (record { 0 = 0 })) c.requires.place ∙ c.in-Var.is in
    let m = placed c.args.asked.problem.now r box xs p c.in-Var.x (Num (pos 0)) c.requires.fits c.requires.sees c.requires.place q in
    let low = ap (λ (z : Range). z.from) c.sum_extent-least.ensures.value in
    let none = simp to_z-of_z at c.in_default-missing_value.ensures.none in
    let z = factor_of n (left_to box (get_or xs p (Num (pos 0)))) c.requires.loose in
    (c.requires.fits.full, refl, all_stay r ns xs c.args.bound box p c.in-Var.x c.requires.unequal c.requires.once c.requires.equal c.requires.place q m c.requires.open c.requires.tight z (λ w h k. none w h (subst (λ l. IsHit l n d c.args.bound w) (sym low) k)))

pub prune-requires-clause-cut : goal.prune-requires-clause-cut
prune-requires-clause-cut c =
    let b_fits : SFits w64 c.args.bound = search rules in
    let n_fits : SFits w64 (get_or c.args.factors.now c.args.p (pos 0)) = search rules in
    let f_fits : SFits w128 c.sum_extent-least.result.from = search rules in
    let t_fits : SFits w128 c.sum_extent-least.result.to = search rules in
    let v_fits : SFits w64 c.in-Some.v = search rules in
    let r = c.args.asked.rule.now in
    let ns = c.args.factors.now in
    let xs = c.args.items.now in
    let box = c.args.store.now.box in
    let p = c.args.p in
    let n = get_or ns p (pos 0) in
    let d = values_left box c.in-Var.x.0 in
    let q = any_default xs p (Num (pos 0)) (Var (record { 0 = 0 })) c.requires.place ∙ c.in-Var.is in
    let m = placed c.args.asked.problem.now r box xs p c.in-Var.x (Num (pos 0)) c.requires.fits c.requires.sees c.requires.place q in
    let o = open_there c.args.asked.problem.now r box xs p c.in-Var.x (Num (pos 0)) c.known.ensures.domains c.requires.fits c.requires.sees c.requires.place q in
    let low = ap (λ (z : Range). z.from) c.sum_extent-least.ensures.value in
    let some = simp to_z-of_z at c.in-Some.ensures.some in
    simp to_z-of_z
    (hit_cut r ns xs c.args.bound box p c.in-Var.x c.in-Some.v c.requires.unequal c.requires.once c.requires.equal c.requires.place q m c.requires.open o c.requires.tight some.0 (subst (λ l. IsHit l n d c.args.bound c.in-Some.v) low some.1))

pub returns-clause-answer : goal.returns-clause-answer
returns-clause-answer c =
    let b_fits : SFits w64 c.args.bound = search rules in
    let n_fits : SFits w64 (get_or c.args.factors.now c.args.p (pos 0)) = search rules in
    let f_fits : SFits w128 c.sum_extent-least.result.from = search rules in
    let t_fits : SFits w128 c.sum_extent-least.result.to = search rules in
    let v_fits : SFits w64 c.in-Some.v = search rules in
    let g = c.args.asked.problem.now in
    let r = c.args.asked.rule.now in
    let ns = c.args.factors.now in
    let xs = c.args.items.now in
    let box = c.args.store.now.box in
    let new = c.prune.new.store.box in
    let p = c.args.p in
    let n = get_or ns p (pos 0) in
    let x = c.in-Var.x in
    let v = c.in-Some.v in
    let d = values_left box x.0 in
    let us = values_outside v v d in
    let q = any_default xs p (Num (pos 0)) (Var (record { 0 = 0 })) c.requires.place ∙ c.in-Var.is in
    let m = placed g r box xs p x (Num (pos 0)) c.requires.fits c.requires.sees c.requires.place q in
    let o = open_there g r box xs p x (Num (pos 0)) c.known.ensures.domains c.requires.fits c.requires.sees c.requires.place q in
    let low = ap (λ (z : Range). z.from) c.sum_extent-least.ensures.value in
    let some = simp to_z-of_z at c.in-Some.ensures.some in
    let content = simp to_z-of_z at c.in_ok-prune.ensures.content in
    let loose = subst (λ a. is_loose n (left_to box a) ≡ true) q c.requires.loose in
    let several = not_false (is_single d) (second (not (int_eq n (pos 0))) (not (is_single d)) loose) in
    let full : has_empty new ≡ false = ap has_empty content ∙ set_full box x.0 us c.requires.fits.full (one_leaves d v o several) in
    let asked : IsAsked g r new =
    fits_after c.args.asked c.requires.fits c.prune.ensures.pruning full in
    let opened = ap (λ b. list_all (is_open b) xs) (sym content) ∙ open_again g r box new xs c.known.ensures.domains asked c.requires.sees c.requires.open in
    let z = factor_of n (left_to box (get_or xs p (Num (pos 0)))) c.requires.loose in
    let hit = subst (λ l. IsHit l n d c.args.bound v) low some.1 in
    (full, (λ e. omega (arith, ap length e, c.in_ok-prune.ensures.grown)), ap (λ b. keeps_ends b r) content ∙ last_keeps r ns xs c.args.bound box p x us c.requires.unequal c.requires.once c.requires.equal c.requires.place q m opened c.requires.tight z (λ w h k. others_miss (least_sum ns xs box) n d c.args.bound v w z some.0 hit h k))
