use Rattle.std.proofs.Common.{◌≡◌, ◌∙◌, ◌||◌, false, length, refl, sym, ap, subst, arith, rules}
use Rattle.std.proofs.lemmas.Int.{to_z-of_z}
use mir.Val.{SFits}
use mir.Syntax.{w64}
use Rattle.qc_model.specs.Domains.{values_left}
use Rattle.proof_tree.specs.Cover.{is_cover}
use Rattle.fd_store.specs.Held.{Held, values_from}
use Rattle.check_box.specs.Cases.{IsCase}
use Rattle.dense_nest.specs.declared.nest.Nest.{Nest}
use Rattle.dense_nest.specs.Telling.{game_of, IsMade}
use Rattle.dense_nest.proofs.Casing.{is_forked, variable_inside, not_passed, pass_tells}
use Rattle.dense_nest.specs.declared.place.Due.TheVariants as due
use Rattle.dense_nest.proofs.nest.Nest.pass.Goals as goal
use Rattle.dense_nest.proofs.nest.Nest.pass.Goals.{In-Some-case_ends, then-self, else-self}

pub returns-in_default-clause-goes : goal.returns-in_default-clause-goes
returns-in_default-clause-goes c = λ us boxes d w. absurd (is_forked c.args.self.now.remains c.args.self.now.open w.back c.in_default.ensures.none)

pub case_ends-requires : goal.case_ends-requires
case_ends-requires c =
    let r = c.requires.fork in
    let l = variable_inside c.args.self.now r.0 r.1 r.2 r.3 c.in-Some.k c.in-Some.ensures.some in
    let e = ap (λ (h : Held). length h.box) c.store.ensures in
    record { var = omega (arith, l, e) }

pub returns-in_default-case_ends-clause-goes : goal.returns-in_default-case_ends-clause-goes
returns-in_default-case_ends-clause-goes c = λ us boxes d w.
    let m = c.args.self.now in
    let k = c.in-Some.k in
    let from_fits : SFits w64 k.from = search rules in
    let none : is_cover c.args.upto (values_from k.from (values_left c.store.result.now.box k.x.0)) ≡ false = simp to_z-of_z at c.in_default-case_ends.ensures.none in
    not_passed m us boxes d w k c.in-Some.ensures.some (record m { due = due.Wrong }) c.args.upto c.args.is_open refl (subst (λ (h : Held). is_cover c.args.upto (values_from k.from (values_left h.box k.x.0)) ≡ false) c.store.ensures none)

found : (c : In-Some-case_ends) → IsCase (values_left c.args.self.now.remains.box c.in-Some.k.x.0) c.in-Some.k.from c.args.upto c.in-Some-case_ends.ends.first c.in-Some-case_ends.ends.last
found c =
    let k = c.in-Some.k in
    let ends = c.in-Some-case_ends.ends in
    let from_fits : SFits w64 k.from = search rules in
    let first_fits : SFits w64 ends.first = search rules in
    let last_fits : SFits w64 ends.last = search rules in
    let seen : IsCase (values_left c.store.result.now.box k.x.0) k.from c.args.upto ends.first ends.last = simp to_z-of_z at c.in-Some-case_ends.ensures.some in
    subst (λ (h : Held). IsCase (values_left h.box k.x.0) k.from c.args.upto ends.first ends.last) c.store.ensures seen

pub move_on-requires-clause-top : goal.move_on-requires-clause-top
move_on-requires-clause-top c = c.in-Some.ensures.some

pub move_on-requires-clause-number : goal.move_on-requires-clause-number
move_on-requires-clause-number c = (found (goal.at.move_on-requires-clause-number c).In-Some-case_ends).last_number

pub add_skipped-requires-clause-made : goal.add_skipped-requires-clause-made
add_skipped-requires-clause-made c =
    let made = c.requires.fork.3.part.keeps.made in
    subst IsMade (sym c.move_on.ensures) (record { joined = made.joined; lists = made.lists; values = made.values; numbers = made.numbers; tallies = made.tallies })

pub add_skipped-requires-clause-scope : goal.add_skipped-requires-clause-scope
add_skipped-requires-clause-scope c =
    let at = ap (λ (n : Nest). n.entry.spot.number) c.move_on.ensures in
    let size = ap (λ (n : Nest). length (game_of n).scopes) c.move_on.ensures in
    let s = c.requires.fork.3.part.own.scope in
    omega (arith, at, size, s, c.scope-i.ensures)

pub returns-clause-goes : goal.returns-clause-goes
returns-clause-goes c = λ us boxes d w.
    let new = c.add_skipped.new.self in
    let unfinished : c.if-self.self ≡ (new.has_open || c.args.is_open) = elim c.if-self.branch [
      | then-self w ↦ (w.self-is ∙ w.if-self.true) ∙ sym (ap (λ b. b || c.args.is_open) w.if-self.true)
      | else-self w ↦ w.self-is ∙ sym (ap (λ b. b || c.args.is_open) w.if-self.false)
    ] in
    pass_tells c.args.self.now us boxes d w c.in-Some.k c.in-Some.ensures.some c.args.upto c.in-Some-case_ends.ends.first c.in-Some-case_ends.ends.last (found (goal.at.returns-clause-goes c).In-Some-case_ends)
    c.move_on.new.self c.move_on.ensures c.scope-i.result.0 c.scope-i.ensures new c.add_skipped.ensures c.args.is_open c.if-self.self unfinished

pub returns-clause-same : goal.returns-clause-same
returns-clause-same c = ap (λ (n : Nest). game_of n) c.add_skipped.ensures.rest ∙ ap (λ (n : Nest). game_of n) c.move_on.ensures
