use Rattle.std.proofs.Common.{◌≡◌, ◌∙◌, false, length, refl, sym, ap, subst, arith, rules}
use Rattle.std.proofs.lemmas.Int.{to_z-of_z}
use mir.Val.{SFits}
use mir.Syntax.{w64}
use Rattle.qc_model.specs.Domains.{values_left, box_within, declared_box}
use Rattle.proof_tree.specs.Cover.{is_cover}
use Rattle.fd_store.specs.Held.{Held, values_from}
use Rattle.check_box.specs.Cases.{IsCase}
use Rattle.box_laws.proofs.Readings.{box_size}
use Rattle.dense_nest.specs.declared.nest.Nest.{Nest}
use Rattle.dense_nest.specs.declared.place.Due.TheVariants as due
use Rattle.dense_nest.specs.Telling.{game_of}
use Rattle.dense_nest.proofs.Casing.{is_forked, variable_inside, not_entered, not_narrower, enters}
use Rattle.dense_nest.proofs.nest.Nest.enter.Goals as goal
use Rattle.dense_nest.proofs.nest.Nest.enter.Goals.{In-Some-case_ends, After-keep, After-size}

pub returns-in_default-clause-none : goal.returns-in_default-clause-none
returns-in_default-clause-none c = λ us boxes d w. absurd (is_forked c.args.self.now.remains c.args.self.now.open w.back c.in_default.ensures.none)

pub case_ends-requires : goal.case_ends-requires
case_ends-requires c =
    let r = c.requires.fork in
    let l = variable_inside c.args.self.now r.0 r.1 r.2 r.3 c.in-Some.k c.in-Some.ensures.some in
    let e = ap (λ (h : Held). length h.box) c.store.ensures in
    record { var = omega (arith, l, e) }

pub returns-in_default-case_ends-clause-none : goal.returns-in_default-case_ends-clause-none
returns-in_default-case_ends-clause-none c = λ us boxes d w.
    let m = c.args.self.now in
    let k = c.in-Some.k in
    let from_fits : SFits w64 k.from = search rules in
    let none : is_cover c.args.upto (values_from k.from (values_left c.store.result.now.box k.x.0)) ≡ false = simp to_z-of_z at c.in_default-case_ends.ensures.none in
    not_entered m us boxes d w k c.in-Some.ensures.some (record m { due = due.Wrong }) c.args.upto refl (subst (λ (h : Held). is_cover c.args.upto (values_from k.from (values_left h.box k.x.0)) ≡ false) c.store.ensures none)

found : (c : In-Some-case_ends) → IsCase (values_left c.args.self.now.remains.box c.in-Some.k.x.0) c.in-Some.k.from c.args.upto c.in-Some-case_ends.ends.first c.in-Some-case_ends.ends.last
found c =
    let k = c.in-Some.k in
    let ends = c.in-Some-case_ends.ends in
    let from_fits : SFits w64 k.from = search rules in
    let first_fits : SFits w64 ends.first = search rules in
    let last_fits : SFits w64 ends.last = search rules in
    let seen : IsCase (values_left c.store.result.now.box k.x.0) k.from c.args.upto ends.first ends.last = simp to_z-of_z at c.in-Some-case_ends.ensures.some in
    subst (λ (h : Held). IsCase (values_left h.box k.x.0) k.from c.args.upto ends.first ends.last) c.store.ensures seen

pub size-before-requires : goal.size-before-requires
size-before-requires c =
    let r = c.requires.fork in
    let l = variable_inside c.args.self.now r.0 r.1 r.2 r.3 c.in-Some.k c.in-Some.ensures.some in
    let e = ap (λ (h : Held). length h.box) c.store-2.ensures in
    omega (arith, l, e)

pub keep-requires-clause-var : goal.keep-requires-clause-var
keep-requires-clause-var c = let r = c.requires.fork in variable_inside c.args.self.now r.0 r.1 r.2 r.3 c.in-Some.k c.in-Some.ensures.some

pub keep-requires-clause-first : goal.keep-requires-clause-first
keep-requires-clause-first c =
    let first_fits : SFits w64 c.in-Some-case_ends.ends.first = search rules in
    simp to_z-of_z ((found (goal.at.keep-requires-clause-first c).In-Some-case_ends).first_number)

pub keep-requires-clause-last : goal.keep-requires-clause-last
keep-requires-clause-last c =
    let last_fits : SFits w64 c.in-Some-case_ends.ends.last = search rules in
    simp to_z-of_z ((found (goal.at.keep-requires-clause-last c).In-Some-case_ends).last_number)

kept : (c : After-keep) → c.keep.new.self.box ≡ box_within c.args.self.now.remains.box c.in-Some.k.x.0 c.in-Some-case_ends.ends.first c.in-Some-case_ends.ends.last
kept c =
    let ends = c.in-Some-case_ends.ends in
    let first_fits : SFits w64 ends.first = search rules in
    let last_fits : SFits w64 ends.last = search rules in
    simp to_z-of_z at c.keep.ensures.content

pub size-requires : goal.size-requires
size-requires c =
    let m = c.args.self.now in
    let r = c.requires.fork in
    let l = variable_inside m r.0 r.1 r.2 r.3 c.in-Some.k c.in-Some.ensures.some in
    let old = box_size (game_of m) m.remains.box r.3.part.box in
    let new = box_size (game_of m) c.keep.new.self.box (c.keep.ensures.fewer (declared_box (game_of m)) r.3.part.box) in
    let e = ap (λ (h : Held). length h.box) c.store-3.ensures in
    omega (arith, l, old, new, e)

before : (c : After-size) → c.size-before.result ≡ length (values_left c.args.self.now.remains.box c.in-Some.k.x.0)
before c = c.size-before.ensures ∙ ap (λ (h : Held). length (values_left h.box c.in-Some.k.x.0)) c.store-2.ensures

after : (c : After-size) → c.size.result ≡ length (values_left c.keep.new.self.box c.in-Some.k.x.0)
after c = c.size.ensures ∙ ap (λ (h : Held). length (values_left h.box c.in-Some.k.x.0)) c.store-3.ensures

pub returns-then-size-before-clause-none : goal.returns-then-size-before-clause-none
returns-then-size-before-clause-none c = λ us boxes d w.
    let m = c.args.self.now in
    let at = goal.at.returns-then-size-before-clause-none c in
    not_narrower m us boxes d w c.in-Some.k c.in-Some.ensures.some c.args.upto c.in-Some-case_ends.ends.first c.in-Some-case_ends.ends.last (found at.In-Some-case_ends) (record m { remains = c.keep.new.self; due = due.Wrong }) c.keep.new.self.box refl (kept at.After-keep)
    (sym (after at.After-size) ∙ (c.if-size-before.true ∙ before at.After-size))

pub move_on-requires-clause-top : goal.move_on-requires-clause-top
move_on-requires-clause-top c = c.in-Some.ensures.some

pub move_on-requires-clause-number : goal.move_on-requires-clause-number
move_on-requires-clause-number c = (found (goal.at.move_on-requires-clause-number c).In-Some-case_ends).last_number

pub returns-clause-some : goal.returns-clause-some
returns-clause-some c = λ us boxes d w.
    let m = c.args.self.now in
    let at = goal.at.returns-clause-some c in
    enters m us boxes d w c.in-Some.k c.in-Some.ensures.some c.args.upto c.in-Some-case_ends.ends.first c.in-Some-case_ends.ends.last (found at.In-Some-case_ends) c.keep.new.self c.keep.ensures.past
    (c.keep.ensures.fewer (declared_box (game_of m)) w.part.box) (kept at.After-keep) (λ e. c.if-size-before.false (after at.After-size ∙ (e ∙ sym (before at.After-size)))) c.move_on.new.self c.move_on.ensures c.saturating_add-self.result c.saturating_add-self.ensures

pub returns-clause-same : goal.returns-clause-same
returns-clause-same c = ap (λ (n : Nest). game_of n) c.move_on.ensures
