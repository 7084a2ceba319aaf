use Rattle.std.proofs.Common.{◌≡◌, sym, subst, rules, arith, refl, true}
use Rattle.std.specs.Prelude.{◌≤ℤ◌, unsigned_abs}
use Rattle.std.proofs.lemmas.Int.{to_z-of_z, ints}
use mir.Val.{SFits}
use mir.Syntax.{w64}
use Rattle.qc_model.specs.Domains.{values_left}
use Rattle.qc_model.specs.Valid.{is_number}
use Rattle.model_arguments.proofs.Kept.{ordered}
use Rattle.qc_refuter.proofs.Domains.{some_left}
use Rattle.qc_refuter.proofs.Terms.{least_small, greatest_small}
use Rattle.prop_linear.proofs.Ends.{near_of, more_steps, cut_below}
use Rattle.prop_linear.proofs.places.cut_low.Goals as goal

pub width-requires-clause-low : goal.width-requires-clause-low
width-requires-clause-low c =
    let f : SFits w64 c.min-low.result = search rules in
    simp to_z-of_z (subst (λ z. is_number z ≡ true) (sym c.min-low.ensures) (least_small (values_left c.args.store.now.box c.args.x.0) c.requires.open))

pub width-requires-clause-high : goal.width-requires-clause-high
width-requires-clause-high c =
    let f : SFits w64 c.max-high.result = search rules in
    simp to_z-of_z (subst (λ z. is_number z ≡ true) (sym c.max-high.ensures) (greatest_small (values_left c.args.store.now.box c.args.x.0) c.requires.open))

pub width-requires-clause-order : goal.width-requires-clause-order
width-requires-clause-order c =
    let f : SFits w64 c.min-low.result = search rules in
    let h : SFits w64 c.max-high.result = search rules in
    let d = values_left c.args.store.now.box c.args.x.0 in
    let o = ordered d (some_left d c.requires.open) in
    let l = c.min-low.ensures in
    let g = c.max-high.ensures in
    let r : c.min-low.result ≤ℤ c.max-high.result = omega (arith, ints, o, l, g) in
    simp to_z-of_z r

pub returns-then-moves-s-clause-none : goal.returns-then-moves-s-clause-none
returns-then-moves-s-clause-none c =
    let f : SFits w64 c.min-low.result = search rules in
    let h : SFits w64 c.max-high.result = search rules in
    let a_fits : SFits w64 c.args.factor = search rules in
    let d = values_left c.args.store.now.box c.args.x.0 in
    let l = c.min-low.ensures in
    let g = c.max-high.ensures in
    let w = simp to_z-of_z at c.width.ensures.value in
    let v = simp to_z-of_z at c.moves.ensures in
    near_of c.args.factor c.args.s c.width.result d c.requires.open (omega (arith, v, c.if-moves-s.true)) (omega (arith, ints, l, g, w))

pub before-hi-requires-clause-high : goal.before-hi-requires-clause-high
before-hi-requires-clause-high c =
    let f : SFits w64 c.max-high.result = search rules in
    simp to_z-of_z (subst (λ z. is_number z ≡ true) (sym c.max-high.ensures) (greatest_small (values_left c.args.store.now.box c.args.x.0) c.requires.open))

pub before-hi-requires-clause-steps : goal.before-hi-requires-clause-steps
before-hi-requires-clause-steps c =
    let a_fits : SFits w64 c.args.factor = search rules in
    let m = simp to_z-of_z at c.steps_within-steps.ensures.most in
    let v = simp to_z-of_z at c.moves.ensures in
    let room = more_steps (unsigned_abs c.args.factor) c.steps_within-steps.result c.width.result c.args.s m (omega (arith, v, c.if-moves-s.false)) in
    omega (arith, room, c.width.ensures.small)

pub returns-clause-some : goal.returns-clause-some
returns-clause-some c =
    let f : SFits w64 c.min-low.result = search rules in
    let h : SFits w64 c.max-high.result = search rules in
    let r : SFits w64 c.before-hi.result = search rules in
    let a_fits : SFits w64 c.args.factor = search rules in
    let d = values_left c.args.store.now.box c.args.x.0 in
    let l = c.min-low.ensures in
    let g = c.max-high.ensures in
    let w = simp to_z-of_z at c.width.ensures.value in
    let m = simp to_z-of_z at c.steps_within-steps.ensures.most in
    let n = simp to_z-of_z at c.steps_within-steps.ensures.next in
    let v = simp to_z-of_z at c.moves.ensures in
    let room = more_steps (unsigned_abs c.args.factor) c.steps_within-steps.result c.width.result c.args.s m (omega (arith, v, c.if-moves-s.false)) in
    let e = simp to_z-of_z at c.before-hi.ensures in
    simp to_z-of_z
    (refl, cut_below c.args.factor c.args.s c.steps_within-steps.result d c.min-low.result c.before-hi.result c.requires.open c.requires.factor m n l (omega (arith, ints, e, g)) (omega (arith, ints, e, w, room)))
