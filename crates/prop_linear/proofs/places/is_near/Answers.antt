use Rattle.std.proofs.Common.{◌≡◌, ◌≤◌, sym, subst, rules, arith, true}
use Rattle.std.specs.Prelude.{◌≤ℤ◌}
use Rattle.std.proofs.lemmas.Int.{to_z-of_z, ints}
use Rattle.std.proofs.lemmas.Bool.{leb-true}
use mir.Val.{SFits}
use mir.Syntax.{w64}
use Rattle.qc_model.specs.Domains.{values_left}
use Rattle.qc_model.specs.Valid.{is_number}
use Rattle.model_arguments.proofs.Kept.{ordered}
use Rattle.qc_refuter.proofs.Domains.{some_left}
use Rattle.qc_refuter.proofs.Terms.{least_small, greatest_small}
use Rattle.prop_linear.proofs.Ends.{near_of}
use Rattle.prop_linear.proofs.places.is_near.Goals as goal

pub width-requires-clause-low : goal.width-requires-clause-low
width-requires-clause-low c =
    let f : SFits w64 c.min.result = search rules in
    simp to_z-of_z (subst (λ z. is_number z ≡ true) (sym c.min.ensures) (least_small (values_left c.args.store.now.box c.args.x.0) c.requires.open))

pub width-requires-clause-high : goal.width-requires-clause-high
width-requires-clause-high c =
    let f : SFits w64 c.max.result = search rules in
    simp to_z-of_z (subst (λ z. is_number z ≡ true) (sym c.max.ensures) (greatest_small (values_left c.args.store.now.box c.args.x.0) c.requires.open))

pub width-requires-clause-order : goal.width-requires-clause-order
width-requires-clause-order c =
    let f : SFits w64 c.min.result = search rules in
    let h : SFits w64 c.max.result = search rules in
    let d = values_left c.args.store.now.box c.args.x.0 in
    let o = ordered d (some_left d c.requires.open) in
    let l = c.min.ensures in
    let g = c.max.ensures in
    let r : c.min.result ≤ℤ c.max.result = omega (arith, ints, o, l, g) in
    simp to_z-of_z r

pub returns : goal.returns
returns c e =
    let f : SFits w64 c.min.result = search rules in
    let h : SFits w64 c.max.result = search rules in
    let a_fits : SFits w64 c.args.factor = search rules in
    let d = values_left c.args.store.now.box c.args.x.0 in
    let l = c.min.ensures in
    let g = c.max.ensures in
    let w = simp to_z-of_z at c.width.ensures.value in
    let v = simp to_z-of_z at c.moves.ensures in
    let within : c.moves.result ≤ c.args.s = leb-true c.moves.result c.args.s e in
    near_of c.args.factor c.args.s c.width.result d c.requires.open (omega (arith, v, within)) (omega (arith, ints, l, g, w))
