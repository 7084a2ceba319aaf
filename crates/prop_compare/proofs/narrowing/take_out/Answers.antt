use Rattle.std.proofs.Common.{◌≡◌, ◌∙◌, sym, subst, rules, true}
use Rattle.std.proofs.lemmas.Int.{to_z-of_z}
use mir.Val.{SFits}
use mir.Syntax.{w64}
use Rattle.qc_model.specs.Domains.{values_outside}
use Rattle.qc_model.specs.Refuted.{left_to}
use Rattle.qc_refuter.specs.Met.{is_open}
use Rattle.prop_compare.proofs.Narrowed.{cut_of, taken, not_taken, number_same}
use Rattle.prop_compare.proofs.Sides.{open_place}
use Rattle.prop_compare.proofs.narrowing.take_out.Goals as goal

pub returns-in-Num-clause-content : goal.returns-in-Num-clause-content
returns-in-Num-clause-content c =
    let box = c.args.store.now.box in
    number_same box c.args.a c.in-Num.field-0 (values_outside c.args.lo c.args.hi (left_to box c.args.a)) c.in-Num.is

pub has_some-requires : goal.has_some-requires
has_some-requires c = open_place c.args.store.now.box c.in-Var.x (subst (λ z. is_open c.args.store.now.box z ≡ true) c.in-Var.is c.requires.open)

pub returns-then-not-has_some-clause-content : goal.returns-then-not-has_some-clause-content
returns-then-not-has_some-clause-content c =
    let lo_fits : SFits w64 c.args.lo = search rules in
    let hi_fits : SFits w64 c.args.hi = search rules in
    let e = simp to_z-of_z at c.has_some.ensures in
    not_taken c.args.store.now.box c.args.a c.in-Var.x c.args.lo c.args.hi c.in-Var.is (sym e ∙ c.if-not-has_some.true)

pub prune-requires-clause-cut : goal.prune-requires-clause-cut
prune-requires-clause-cut c =
    let lo_fits : SFits w64 c.args.lo = search rules in
    let hi_fits : SFits w64 c.args.hi = search rules in
    let e = simp to_z-of_z at c.has_some.ensures in
    simp to_z-of_z
    (cut_of c.args.asked.rule.now c.args.store.now.box c.args.a c.in-Var.x c.args.lo c.args.hi c.in-Var.is c.requires.open c.requires.low c.requires.high c.requires.refuted (sym e ∙ c.if-not-has_some.false))

pub returns-in_ok-prune-in-Var-clause-content : goal.returns-in_ok-prune-in-Var-clause-content
returns-in_ok-prune-in-Var-clause-content c =
    let lo_fits : SFits w64 c.args.lo = search rules in
    let hi_fits : SFits w64 c.args.hi = search rules in
    let e = simp to_z-of_z at c.in_ok-prune-in-Var.ensures.content in
    taken c.args.store.now.box c.prune.new.store.box c.args.a c.in-Var.x c.args.lo c.args.hi c.in-Var.is e
