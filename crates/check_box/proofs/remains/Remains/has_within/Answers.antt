use Rattle.std.proofs.Common.{◌≡◌, ◌∙◌, sym, ap, rules}
use Rattle.std.proofs.lemmas.Int.{to_z-of_z}
use mir.Val.{SFits}
use mir.Syntax.{w64}
use Rattle.qc_model.specs.Domains.{values_left}
use Rattle.fd_store.specs.Held.{Held, values_from, least_of}
use Rattle.box_laws.proofs.Emptying.{some_within, none_within}
use Rattle.check_box.proofs.remains.Remains.has_within.Goals as goal

pub returns-in-None : goal.returns-in-None
returns-in-None c =
    let lo_fits : SFits w64 c.args.lo = search rules in
    let found : c.next.result ≡ least_of (values_from c.args.lo (values_left c.self.inside.store.box c.args.x.0)) = simp to_z-of_z at c.next.ensures in
    none_within (values_left c.args.self.now.box c.args.x.0) c.args.lo c.args.hi (sym c.in-None.is ∙ (found ∙ ap (λ (h : Held). least_of (values_from c.args.lo (values_left h.box c.args.x.0))) c.self.view_is))

pub returns-in-Some : goal.returns-in-Some
returns-in-Some c =
    let lo_fits : SFits w64 c.args.lo = search rules in
    let hi_fits : SFits w64 c.args.hi = search rules in
    let v_fits : SFits w64 c.in-Some.v = search rules in
    let found : c.next.result ≡ least_of (values_from c.args.lo (values_left c.self.inside.store.box c.args.x.0)) = simp to_z-of_z at c.next.ensures in
    simp to_z-of_z (some_within (values_left c.args.self.now.box c.args.x.0) c.args.lo c.args.hi c.in-Some.v (sym c.in-Some.is ∙ (found ∙ ap (λ (h : Held). least_of (values_from c.args.lo (values_left h.box c.args.x.0))) c.self.view_is)))
