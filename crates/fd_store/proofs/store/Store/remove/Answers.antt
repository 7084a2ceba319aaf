use Rattle.std.proofs.Common.{length, ◌<◌, ◌∙◌, refl, sym, ap, subst, arith, rules}
use Rattle.std.proofs.lemmas.Int.{to_z-of_z}
use mir.Val.{SFits}
use mir.Syntax.{w64}
use Rattle.qc_model.specs.Domains.{values_left, values_within, values_outside}
use Rattle.fd_store.specs.Held.{Held, Follows, removal}
use Rattle.fd_store.specs.Takes.{box_in}
use Rattle.fd_store.specs.Trail.{held}
use Rattle.fd_store.proofs.Past.{follows}
use Rattle.fd_store.proofs.Answered.{held_trail, held_spare, counted, answer_counted}
use Rattle.fd_store.proofs.store.Store.remove.Goals as goal

pub returns-clause-past : goal.returns-clause-past
returns-clause-past c =
    let t = c.self.inside.table in
    let u = c.cut.new.self in
    subst (λ (h : Held). Follows h (held u.words.items u.cells.items u.trail.items u.trail.spare)) c.self.view_is
    (follows t.words.items u.words.items t.cells.items u.cells.items t.trail.items u.trail.items t.trail.spare u.trail.spare c.cut.ensures.takes.back)

pub returns-clause-spare : goal.returns-clause-spare
returns-clause-spare c =
    let t = c.self.inside.table in
    let u = c.cut.new.self in
    omega (
      arith,
      c.cut.ensures.takes.spare,
      held_trail t.words.items t.cells.items t.trail.items t.trail.spare c.args.self.now c.self.view_is,
      held_spare t.words.items t.cells.items t.trail.items t.trail.spare c.args.self.now c.self.view_is,
      held_trail u.words.items u.cells.items u.trail.items u.trail.spare _ refl,
    )

pub returns-clause-few : goal.returns-clause-few
returns-clause-few c =
    let t = c.self.inside.table in
    let u = c.cut.new.self in
    omega (
      arith,
      c.cut.ensures.takes.few,
      ap (λ (h : Held). length (values_left h.box c.args.x.0)) c.self.view_is,
      held_trail t.words.items t.cells.items t.trail.items t.trail.spare c.args.self.now c.self.view_is,
      held_trail u.words.items u.cells.items u.trail.items u.trail.spare _ refl,
    )

pub returns-clause-answer : goal.returns-clause-answer
returns-clause-answer c =
    let t = c.self.inside.table in
    let u = c.cut.new.self in
    let lo = c.args.lo in
    let hi = c.args.hi in
    let lo_fits : SFits w64 c.args.lo = search rules in
    let hi_fits : SFits w64 c.args.hi = search rules in
    let var = subst (λ (h : Held). c.args.x.0 < length h.box) (sym c.self.view_is) c.requires.var in
    let content = simp to_z-of_z at c.cut.ensures.takes.content in
    c.cut.ensures.answer
    ∙ (answer_counted (box_in t) (box_in u) c.args.x.0 lo hi (counted (box_in t) (box_in u) c.args.x.0 lo hi var content)
    ∙ ap (λ (h : Held). removal (values_within lo hi (values_left h.box c.args.x.0)) (values_outside lo hi (values_left h.box c.args.x.0))) c.self.view_is)
