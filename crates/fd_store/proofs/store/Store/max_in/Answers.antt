use Rattle.std.proofs.Common.{◌≡◌, ◌∙◌, sym, subst, ap, false, rules}
use Rattle.std.proofs.lemmas.Int.{to_z-of_z}
use mir.Val.{SFits, to_z}
use mir.Syntax.{w64}
use Rattle.qc_model.specs.Domains.{values_left, values_within, is_none_left, greatest_value}
use Rattle.fd_store.specs.Held.{values_up_to, greatest_of}
use Rattle.fd_store.proofs.Within.{max_found, max_missed, single_greatest}
use Rattle.fd_store.proofs.store.Store.max_in.Goals as goal

pub unreachable-requires : goal.unreachable-requires
unreachable-requires c =
    let hi_fits : SFits w64 c.args.hi = search rules in
    let found : c.prev.result ≡ greatest_of (values_up_to c.args.hi (values_left c.args.self.now.box c.args.x.0)) = simp to_z-of_z at c.prev.ensures in
    max_missed c.args.lo c.args.hi (values_left c.args.self.now.box c.args.x.0) c.requires.left (sym c.in-None.is ∙ found)

pub returns : goal.returns
returns c =
    let hi_fits : SFits w64 c.args.hi = search rules in
    let found : c.prev.result ≡ greatest_of (values_up_to c.args.hi (values_left c.args.self.now.box c.args.x.0)) = simp to_z-of_z at c.prev.ensures in
    let v_fits : SFits w64 c.in-Some.v = search rules in
    simp to_z-of_z (max_found c.args.lo c.args.hi c.in-Some.v (values_left c.args.self.now.box c.args.x.0) c.requires.left (sym c.in-Some.is ∙ found))

pub returns-then-lo-hi : goal.returns-then-lo-hi
returns-then-lo-hi c =
    let lo_fits : SFits w64 c.args.lo = search rules in
    let hi_fits : SFits w64 c.args.hi = search rules in
    let vs = values_left c.args.self.now.box c.args.x.0 in
    let same : c.args.lo ≡ c.args.hi = simp to_z-of_z at (ap (to_z w64) c.if-lo-hi.true) in
    simp to_z-of_z (subst (λ l. is_none_left (values_within l c.args.hi vs) ≡ false → c.args.hi ≡ greatest_value (values_within l c.args.hi vs)) (sym same) (single_greatest c.args.hi vs) c.requires.left)
