use Rattle.std.proofs.Common.{◌≡◌, ◌∙◌, sym, subst, ap, false, rules}
use Rattle.std.proofs.lemmas.Int.{to_z-of_z}
use mir.Val.{SFits, to_z}
use mir.Syntax.{w64}
use Rattle.qc_model.specs.Domains.{values_left, values_within, is_none_left, least_value}
use Rattle.fd_store.specs.Held.{values_from, least_of}
use Rattle.fd_store.proofs.Within.{min_found, min_missed, single_least}
use Rattle.fd_store.proofs.store.Store.min_in.Goals as goal

pub unreachable-requires : goal.unreachable-requires
unreachable-requires c =
    let lo_fits : SFits w64 c.args.lo = search rules in
    let found : c.next.result ≡ least_of (values_from c.args.lo (values_left c.args.self.now.box c.args.x.0)) = simp to_z-of_z at c.next.ensures in
    min_missed c.args.lo c.args.hi (values_left c.args.self.now.box c.args.x.0) c.requires.left (sym c.in-None.is ∙ found)

pub returns : goal.returns
returns c =
    let lo_fits : SFits w64 c.args.lo = search rules in
    let found : c.next.result ≡ least_of (values_from c.args.lo (values_left c.args.self.now.box c.args.x.0)) = simp to_z-of_z at c.next.ensures in
    let v_fits : SFits w64 c.in-Some.v = search rules in
    simp to_z-of_z (min_found c.args.lo c.args.hi c.in-Some.v (values_left c.args.self.now.box c.args.x.0) c.requires.left (sym c.in-Some.is ∙ found))

pub returns-then-lo-hi : goal.returns-then-lo-hi
returns-then-lo-hi c =
    let lo_fits : SFits w64 c.args.lo = search rules in
    let hi_fits : SFits w64 c.args.hi = search rules in
    let vs = values_left c.args.self.now.box c.args.x.0 in
    let same : c.args.lo ≡ c.args.hi = simp to_z-of_z at (ap (to_z w64) c.if-lo-hi.true) in
    simp to_z-of_z (subst (λ h. is_none_left (values_within c.args.lo h vs) ≡ false → c.args.lo ≡ least_value (values_within c.args.lo h vs)) same (single_least c.args.lo vs) c.requires.left)
