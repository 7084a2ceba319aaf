use Rattle.std.proofs.Common.{◌≡◌, ◌∙◌, sym, ap, subst, rules, false}
use Rattle.std.proofs.lemmas.Int.{to_z-of_z}
use mir.Val.{SFits}
use mir.Syntax.{w64}
use Rattle.qc_model.specs.Domains.{values_left, values_within, is_none_left}
use Rattle.prop_base.specs.Wider.{refutes_range}
use Rattle.prop_base.proofs.Widening.{wider_left}
use Rattle.prop_base.proofs.ranges.refutes_wider.Goals as goal

pub refutes_in-requires-clause-left : goal.refutes_in-requires-clause-left
refutes_in-requires-clause-left g c =
    let l_fits : SFits w64 c.widened-next.result.lo = search rules in
    let h_fits : SFits w64 c.widened-next.result.hi = search rules in
    let box = c.args.store.now.box in
    let e = c.widened-next.ensures in
    simp to_z-of_z
    (subst (λ k. is_none_left (values_within k.lo k.hi (values_left box k.x.0)) ≡ false) (sym e) (wider_left c.args.after c.args.range c.args.more box c.requires.range.some))

pub returns : goal.returns
returns g c =
    let l_fits : SFits w64 c.widened-next.result.lo = search rules in
    let h_fits : SFits w64 c.widened-next.result.hi = search rules in
    let e = c.widened-next.ensures in
    let d = simp to_z-of_z at c.refutes_in.ensures in
    d ∙ ap (refutes_range c.args.rule.now c.args.store.now.box) e
