use Rattle.std.proofs.Common.{◌∙◌, ◌<◌, ap, sym, length, refl, arith, get_or, w64, rules, SFits, pos}
use Rattle.std.proofs.lemmas.Int.{to_z-of_z}
use Rattle.qc_model.specs.Domains.{domain_values, has_value}
use Rattle.qc_model.specs.Valid.{is_domain}
use Rattle.qc_play.proofs.Ranges.{lies_step, one_of}
use Rattle.qc_play.proofs.tuple.lie_in.Goals as goal

pub has_value-requires : goal.has_value-requires
has_value-requires c =
    let h : c.loop-k.k < length c.args.variables.now = omega (arith, c.requires.each) in
    one_of (λ x. is_domain x.domain) c.args.variables.now c.loop-k.k c.index-variables-k.result h c.requires.domains

pub loop-k-preserved : goal.loop-k-preserved
loop-k-preserved c =
    let f : SFits w64 (get_or c.args.tuple.now c.loop-k.k (pos 0)) = search rules in
    let e = simp to_z-of_z at c.has_value.ensures in
    lies_step (λ x. domain_values x.domain) c.loop-k.k c.args.tuple.now c.args.variables.now c.index-variables-k.result (get_or c.args.tuple.now c.loop-k.k (pos 0)) (pos 0) c.loop-k-test.true c.requires.each refl c.index-variables-k.is
    (ap (λ x. has_value (domain_values x.domain) (get_or c.args.tuple.now c.loop-k.k (pos 0))) c.index-variables-k.is ∙ (sym e ∙ c.if-not-has_value.false))
    ∙ c.loop-k.invariant
