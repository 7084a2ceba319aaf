use Rattle.std.proofs.Common.{◌≡◌, rules, subst, true}
use Rattle.std.proofs.lemmas.Int.{to_z-of_z}
use mir.Val.{SFits}
use mir.Syntax.{w64}
use Rattle.qc_model.specs.declared.problem.Arg.{Arg}
use Rattle.qc_model.specs.Domains.{set_has}
use Rattle.qc_model.specs.Refuted.{left_to}
use Rattle.qc_refuter.specs.Met.{is_open}
use Rattle.prop_element.specs.Members.{IsMembership, IsFirst, IsLast}
use Rattle.prop_element.proofs.Sets.{none_refuted, members_hull}
use Rattle.prop_element.proofs.members.set_cut.Goals as goal

pub whole_cut-requires-clause-refuted : goal.whole_cut-requires-clause-refuted
whole_cut-requires-clause-refuted c =
    none_refuted c.args.rule.now c.args.store.now.box c.args.a c.args.set.now c.requires.member c.in_default.ensures.none

pub arg_cut-requires-clause-hull : goal.arg_cut-requires-clause-hull
arg_cut-requires-clause-hull c x q =
    let first_fits : SFits w64 c.in-Some.first = search rules in
    let last_fits : SFits w64 c.in-Some-last_member.last = search rules in
    let r = c.args.rule.now in
    let box = c.args.store.now.box in
    let s = c.args.set.now in
    let f = c.in-Some.ensures.some in
    let l = c.in-Some-last_member.ensures.some in
    let M : Arg → Type 0 = λ z. IsMembership r z s in
    let F : Arg → Type 0 = λ z. IsFirst (set_has s) (left_to box z) c.in-Some.first in
    let L : Arg → Type 0 = λ z. IsLast (set_has s) (left_to box z) c.in-Some-last_member.last in
    simp to_z-of_z (members_hull r box x s c.in-Some.first c.in-Some-last_member.last (subst (λ z. is_open box z ≡ true) q c.requires.open) (subst M q c.requires.member) (subst F q f) (subst L q l))
