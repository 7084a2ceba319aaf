use Rattle.std.proofs.Common.{◌≡◌, rules, subst, true}
use Rattle.std.proofs.lemmas.Int.{to_z-of_z}
use mir.Val.{SFits}
use mir.Syntax.{w64}
use Rattle.qc_model.specs.declared.problem.Arg.{Arg}
use Rattle.qc_model.specs.Refuted.{left_to}
use Rattle.qc_refuter.specs.Met.{is_open}
use Rattle.prop_element.specs.Members.{is_wanted, IsToldMember, IsFirst, IsLast}
use Rattle.prop_element.proofs.Told.{told_refuted, told_hull, told_kept}
use Rattle.prop_element.proofs.told_members.known_cut.Goals as goal

pub any_cut-requires-clause-refuted : goal.any_cut-requires-clause-refuted
any_cut-requires-clause-refuted c =
    told_refuted c.args.rule.now c.args.store.now.box c.args.a c.args.set.now c.args.r c.args.told c.requires.member c.requires.answer c.in_default.ensures.none

pub arg_cut-requires-clause-hull : goal.arg_cut-requires-clause-hull
arg_cut-requires-clause-hull c x q =
    let first_fits : SFits w64 c.in-Some.first = search rules in
    let last_fits : SFits w64 c.in-Some-last_wanted.last = search rules in
    let box = c.args.store.now.box in
    let p = is_wanted c.args.told c.args.set.now in
    let M : Arg → Type 0 = λ z. IsToldMember c.args.rule.now z c.args.set.now c.args.r in
    let F : Arg → Type 0 = λ z. IsFirst p (left_to box z) c.in-Some.first in
    let L : Arg → Type 0 = λ z. IsLast p (left_to box z) c.in-Some-last_wanted.last in
    simp to_z-of_z (told_hull c.args.rule.now box x c.args.set.now c.args.r c.args.told c.in-Some.first c.in-Some-last_wanted.last (subst (λ z. is_open box z ≡ true) q c.requires.open) (subst M q c.requires.member) c.requires.answer (subst F q c.in-Some.ensures.some) (subst L q c.in-Some-last_wanted.ensures.some))

pub returns-clause-none : goal.returns-clause-none
returns-clause-none c =
    told_kept c.args.rule.now c.args.store.now.box c.args.a c.args.set.now c.args.r c.args.told c.in-Some.first c.arg_cut.result c.requires.member c.requires.answer c.in-Some.ensures.some c.arg_cut.ensures.none
