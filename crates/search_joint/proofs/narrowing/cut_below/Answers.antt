use Rattle.std.proofs.Common.{◌≡◌, ◌∙◌, sym, ap, rules, true}
use Rattle.std.specs.Prelude.{int_le, pos, negsuc, ◌-ℤ◌}
use Rattle.std.proofs.lemmas.Int.{to_z-of_z}
use mir.Val.{SFits}
use mir.Syntax.{w64}
use Rattle.qc_model.specs.Domains.{values_left, box_without}
use Rattle.search_joint.proofs.Among.{from_least}
use Rattle.search_joint.proofs.Narrower.{above_cut}
use Rattle.search_joint.proofs.Sizes.{before_fits}
use Rattle.search_joint.proofs.narrowing.cut_below.Goals as goal

pub returns-then-lo-min-clause-above : goal.returns-then-lo-min-clause-above
returns-then-lo-min-clause-above c = λ v h.
    let lo_fits : SFits w64 c.args.lo = search rules in
    let least_fits : SFits w64 c.min.result = search rules in
    let low : int_le c.args.lo c.min.result ≡ true = simp to_z-of_z at c.if-lo-min.true in
    from_least (values_left c.args.store.now.box c.args.x.0) c.args.lo v (sym (ap (int_le c.args.lo) c.min.ensures) ∙ low) h

pub returns-clause-above : goal.returns-clause-above
returns-clause-above c =
    let lo_fits : SFits w64 c.args.lo = search rules in
    let under_fits : SFits w64 (c.args.lo -ℤ pos 1) = before_fits c.args.lo c.requires.lo in
    let low : c.cut.new.store.box ≡ box_without c.args.store.now.box c.args.x.0 (negsuc 999999999) (c.args.lo -ℤ pos 1) = simp to_z-of_z at c.in_ok-cut.ensures.content in
    above_cut c.args.store.now.box c.cut.new.store.box c.args.x.0 c.args.lo c.requires.var c.known.ensures.numbers low
