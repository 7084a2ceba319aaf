use Rattle.std.proofs.Common.{◌≡◌, ◌∙◌, Some, length, refl, sym, ap, subst, arith, rules}
use Rattle.std.proofs.lemmas.Int.{to_z-of_z}
use mir.Val.{SFits}
use mir.Syntax.{w64}
use Rattle.qc_model.specs.Domains.{values_left}
use Rattle.fd_store.specs.Held.{Held, values_from, least_of}
use Rattle.dense_nest.specs.declared.place.Due.TheVariants as due
use Rattle.dense_ledger.specs.Ledger.{setting_of, part_ended}
use Rattle.dense_nest.specs.Telling.{game_of}
use Rattle.dense_nest.specs.Goes.{InPart, PartGoes}
use Rattle.dense_nest.proofs.Casing.{is_forked, variable_inside, least_none, least_some, not_over, some_closed, dot_tells, popped, ok_to}
use Rattle.dense_nest.proofs.nest.Nest.end_cases.Goals as goal
use Rattle.dense_nest.proofs.nest.Nest.end_cases.Goals.{After-is_some}

pub returns-in_default-clause-goes : goal.returns-in_default-clause-goes
returns-in_default-clause-goes c = λ us boxes d w. absurd (is_forked c.args.self.now.remains c.args.self.now.open w.back c.in_default.ensures.none)

pub next-requires : goal.next-requires
next-requires c =
    let r = c.requires.fork in
    let l = variable_inside c.args.self.now r.0 r.1 r.2 r.3 c.in-Some.k c.in-Some.ensures.some in
    let e = ap (λ (h : Held). length h.box) c.store.ensures in
    omega (arith, l, e)

left : (c : After-is_some) → c.next.result ≡ least_of (values_from c.in-Some.k.from (values_left c.args.self.now.remains.box c.in-Some.k.x.0))
left c =
    let k = c.in-Some.k in
    let from_fits : SFits w64 k.from = search rules in
    let found : c.next.result ≡ least_of (values_from k.from (values_left c.store.result.now.box k.x.0)) = simp to_z-of_z at c.next.ensures in
    found ∙ ap (λ (h : Held). least_of (values_from k.from (values_left h.box k.x.0))) c.store.ensures

pub returns-then-is_some-clause-goes : goal.returns-then-is_some-clause-goes
returns-then-is_some-clause-goes c = λ us boxes d w.
    let m = c.args.self.now in
    let k = c.in-Some.k in
    not_over m us boxes d w k c.in-Some.ensures.some (record m { due = due.Wrong }) refl
    (least_some (values_from k.from (values_left m.remains.box k.x.0)) c.next.result (left (goal.at.returns-then-is_some-clause-goes c).After-is_some) (sym c.is_some.ensures ∙ c.if-is_some.true))

pub part_over-requires : goal.part_over-requires
part_over-requires c =
    let m = c.args.self.now in
    let r = c.requires.fork in
    let closed = some_closed m r.0 r.1 r.2 r.3 c.in-Some.k c.in-Some.ensures.some in
    record { part = subst (λ os. InPart (record m { «open» = os })) (sym (popped c.pop.result c.in-Some.k m.open c.pop.new.self c.in-Some.ensures.some c.pop.ensures.none c.pop.ensures.some)) (r.0, r.1, closed.0, closed.1) }

pub returns-clause-goes : goal.returns-clause-goes
returns-clause-goes c =
    let m = c.args.self.now in
    let k = c.in-Some.k in
    let open_is = popped c.pop.result k m.open c.pop.new.self c.in-Some.ensures.some c.pop.ensures.none c.pop.ensures.some in
    let none = least_none (values_from k.from (values_left m.remains.box k.x.0)) c.next.result (left (goal.at.returns-clause-goes c).After-is_some) (sym c.is_some.ensures ∙ c.if-is_some.false) in
    ok_to c.part_over.result
    (λ goes us boxes d w. dot_tells m us boxes d w k c.in-Some.ensures.some c.part_over.new.self none
    (subst (λ os. PartGoes (record m { «open» = os }) c.part_over.new.self (λ p. Some (part_ended (setting_of (game_of m) p) p p.own p.frames))) open_is goes)) c.part_over.ensures.goes

pub returns-clause-same : goal.returns-clause-same
returns-clause-same c = c.part_over.ensures.same
