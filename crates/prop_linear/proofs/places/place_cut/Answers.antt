use Rattle.std.proofs.Common.{rules, subst, sym, ℤ}
use Rattle.std.proofs.lemmas.Int.{to_z-of_z}
use mir.Val.{SFits}
use mir.Syntax.{w64}
use Rattle.qc_model.specs.Domains.{values_left}
use Rattle.prop_linear.specs.Tightening.{IsNear}
use Rattle.prop_linear.proofs.Ends.{near_zero, zero_of}
use Rattle.prop_linear.proofs.places.place_cut.Goals as goal

pub returns-clause-none : goal.returns-clause-none
returns-clause-none c =
    let a_fits : SFits w64 c.args.factor = search rules in
    let d = values_left c.args.store.now.box c.args.x.0 in
    let p = simp to_z-of_z at c.if-factor-gt0.false in
    let n = simp to_z-of_z at c.if-factor-lt0.false in
    let N : ℤ → Type 0 = λ a. IsNear a c.args.s d in
    subst N (sym (zero_of c.args.factor p n)) (near_zero c.args.s d c.requires.open)
