use Rattle.std.proofs.Common.{◌≡◌, ◌∙◌, ap, subst, rules, ◌∷◌, false}
use Rattle.std.specs.Prelude.{pos, ◌+ℤ◌}
use Rattle.std.proofs.lemmas.Int.{to_z-of_z}
use mir.Val.{SFits}
use mir.Syntax.{w64}
use Rattle.qc_model.specs.Domains.{values_left}
use Rattle.proof_tree.specs.Cover.{is_cover}
use Rattle.fd_store.specs.Held.{Held, values_from}
use Rattle.check_lines.specs.declared.open.Open.TheVariants.{Branch}
use Rattle.check_lines.specs.declared.open.Due.TheVariants as due
use Rattle.check_box.specs.Cases.{IsCase}
use Rattle.check_lines.specs.Places.{rest}
use Rattle.box_laws.proofs.Numbers.{passed_after}
use Rattle.check_lines.proofs.Forks.{skip_ready, skip_tells, not_skipped, variable_inside, inside_there, is_back}
use Rattle.check_lines.proofs.machine.Machine.skip_line.Goals as goal
use Rattle.check_lines.proofs.machine.Machine.skip_line.Goals.{In-Some}

pub case_ends-requires : goal.case_ends-requires
case_ends-requires c =
    let m = c.args.self.now in
    record { var = inside_there c.store.result.now m.remains c.args.x.0 c.store.ensures (variable_inside m c.args.x c.args.mark c.args.from (rest m.nesting) c.requires.top c.requires.fork) }

pub returns-in-None-clause-tells : goal.returns-in-None-clause-tells
returns-in-None-clause-tells c = λ n d es xs u few p k.
    let from_fits : SFits w64 c.args.from = search rules in
    let m = c.args.self.now in
    let x = c.args.x in
    let none : is_cover c.args.upto (values_from c.args.from (values_left c.store.result.now.box x.0)) ≡ false = simp to_z-of_z at c.in-None.ensures.none in
    let here = subst (λ (h : Held). is_cover c.args.upto (values_from c.args.from (values_left h.box x.0)) ≡ false) c.store.ensures none in
    let there = subst (λ b. is_cover c.args.upto (values_from c.args.from (values_left b x.0)) ≡ false) (is_back m x c.args.mark c.args.from (rest m.nesting) c.requires.top c.requires.fork) here in
    not_skipped m x c.args.mark c.args.from (rest m.nesting) c.requires.top c.requires.fork c.args.upto c.args.is_open due.Wrong there d es xs u p

found : (c : In-Some) → IsCase (values_left c.args.self.now.remains.box c.args.x.0) c.args.from c.args.upto c.in-Some.ends.first c.in-Some.ends.last
found c =
    let from_fits : SFits w64 c.args.from = search rules in
    let first_fits : SFits w64 c.in-Some.ends.first = search rules in
    let last_fits : SFits w64 c.in-Some.ends.last = search rules in
    let x = c.args.x in
    let seen : IsCase (values_left c.store.result.now.box x.0) c.args.from c.args.upto c.in-Some.ends.first c.in-Some.ends.last = simp to_z-of_z at c.in-Some.ensures.some in
    subst (λ (h : Held). IsCase (values_left h.box x.0) c.args.from c.args.upto c.in-Some.ends.first c.in-Some.ends.last) c.store.ensures seen

pub returns-in-Some-clause-tells : goal.returns-in-Some-clause-tells
returns-in-Some-clause-tells c =
    let m = c.args.self.now in
    let x = c.args.x in
    let case = found (goal.at.returns-in-Some-clause-tells c).In-Some in
    let new : c.set_top.new.self ≡ Branch x c.args.mark (c.in-Some.ends.last +ℤ pos 1) ∷ rest m.nesting = c.set_top.ensures ∙ ap (λ v. Branch x c.args.mark v ∷ rest m.nesting) (passed_after c.in-Some.ends.last case.last_number) in
    skip_tells m x c.args.mark c.args.from (rest m.nesting) c.requires.top c.requires.fork c.args.upto c.in-Some.ends.first c.in-Some.ends.last case c.set_top.new.self c.add_skipped.new.self c.either-self.result new
    c.add_skipped.ensures.others c.add_skipped.ensures.same c.args.is_open c.either-self.ensures c.add_skipped.ensures.stands

pub returns-in-Some-clause-ready : goal.returns-in-Some-clause-ready
returns-in-Some-clause-ready c =
    let m = c.args.self.now in
    let x = c.args.x in
    let case = found (goal.at.returns-in-Some-clause-ready c).In-Some in
    let new : c.set_top.new.self ≡ Branch x c.args.mark (c.in-Some.ends.last +ℤ pos 1) ∷ rest m.nesting = c.set_top.ensures ∙ ap (λ v. Branch x c.args.mark v ∷ rest m.nesting) (passed_after c.in-Some.ends.last case.last_number) in
    skip_ready m x c.args.mark c.args.from (rest m.nesting) c.requires.top c.requires.fork c.args.upto c.in-Some.ends.first c.in-Some.ends.last case c.set_top.new.self c.add_skipped.new.self c.either-self.result new
    c.add_skipped.ensures.others c.add_skipped.ensures.same
