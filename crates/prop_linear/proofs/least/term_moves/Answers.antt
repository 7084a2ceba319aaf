use Rattle.std.proofs.Common.{◌≡◌, sym, subst, rules, arith, true}
use Rattle.std.specs.Prelude.{◌≤ℤ◌}
use Rattle.std.proofs.lemmas.Int.{to_z-of_z, ints}
use mir.Val.{SFits}
use mir.Syntax.{w64}
use Rattle.qc_model.specs.Domains.{values_left}
use Rattle.qc_model.specs.Refuted.{left_to}
use Rattle.qc_model.specs.Valid.{is_number}
use Rattle.model_arguments.proofs.Kept.{ordered}
use Rattle.qc_refuter.specs.Met.{is_open}
use Rattle.qc_refuter.proofs.Domains.{some_left}
use Rattle.qc_refuter.proofs.Terms.{least_small, greatest_small}
use Rattle.prop_linear.specs.Tightening.{IsNear}
use Rattle.prop_linear.proofs.Ends.{near_of}
use Rattle.prop_linear.proofs.Moves.{near_number}
use Rattle.prop_compare.proofs.Sides.{open_place}
use Rattle.prop_linear.proofs.least.term_moves.Goals as goal

pub width-requires-clause-low : goal.width-requires-clause-low
width-requires-clause-low c =
    let f : SFits w64 c.min.result = search rules in
    let o = subst (λ a. is_open c.args.store.now.box a ≡ true) c.in-Var.is c.requires.open in
    simp to_z-of_z (subst (λ z. is_number z ≡ true) (sym c.min.ensures) (least_small (values_left c.args.store.now.box c.in-Var.x.0) o))

pub width-requires-clause-high : goal.width-requires-clause-high
width-requires-clause-high c =
    let f : SFits w64 c.max.result = search rules in
    let o = subst (λ a. is_open c.args.store.now.box a ≡ true) c.in-Var.is c.requires.open in
    simp to_z-of_z (subst (λ z. is_number z ≡ true) (sym c.max.ensures) (greatest_small (values_left c.args.store.now.box c.in-Var.x.0) o))

pub width-requires-clause-order : goal.width-requires-clause-order
width-requires-clause-order c =
    let f : SFits w64 c.min.result = search rules in
    let h : SFits w64 c.max.result = search rules in
    let o = subst (λ a. is_open c.args.store.now.box a ≡ true) c.in-Var.is c.requires.open in
    let d = values_left c.args.store.now.box c.in-Var.x.0 in
    let e = ordered d (some_left d o) in
    let l = c.min.ensures in
    let g = c.max.ensures in
    let r : c.min.result ≤ℤ c.max.result = omega (arith, ints, e, l, g) in
    simp to_z-of_z r

pub returns-in-Num : goal.returns-in-Num
returns-in-Num c s e =
    subst (λ a. IsNear c.args.factor s (left_to c.args.store.now.box a)) (sym c.in-Num.is) (near_number c.args.factor s c.in-Num.field-0)

pub returns-in-Var : goal.returns-in-Var
returns-in-Var c s e =
    let f : SFits w64 c.min.result = search rules in
    let h : SFits w64 c.max.result = search rules in
    let a_fits : SFits w64 c.args.factor = search rules in
    let o = subst (λ a. is_open c.args.store.now.box a ≡ true) c.in-Var.is c.requires.open in
    let d = values_left c.args.store.now.box c.in-Var.x.0 in
    let l = c.min.ensures in
    let g = c.max.ensures in
    let w = simp to_z-of_z at c.width.ensures.value in
    let v = simp to_z-of_z at c.short_moves.ensures in
    subst (λ a. IsNear c.args.factor s (left_to c.args.store.now.box a)) (sym c.in-Var.is) (near_of c.args.factor s c.width.result d o (omega (arith, v, e)) (omega (arith, ints, l, g, w)))

pub min-requires-clause-var : goal.min-requires-clause-var
min-requires-clause-var c = open_place c.args.store.now.box c.in-Var.x (subst (λ a. is_open c.args.store.now.box a ≡ true) c.in-Var.is c.requires.open)

pub max-requires-clause-var : goal.max-requires-clause-var
max-requires-clause-var c = open_place c.args.store.now.box c.in-Var.x (subst (λ a. is_open c.args.store.now.box a ≡ true) c.in-Var.is c.requires.open)
