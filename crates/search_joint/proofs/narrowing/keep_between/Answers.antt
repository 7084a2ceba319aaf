use Rattle.std.proofs.Common.{◌≡◌, ◌∙◌, sym, ap, rules, true}
use Rattle.std.specs.Prelude.{int_le}
use Rattle.std.proofs.lemmas.Int.{to_z-of_z}
use Rattle.std.proofs.lemmas.Bool.{and_from}
use mir.Val.{SFits}
use mir.Syntax.{w64}
use Rattle.qc_model.specs.Domains.{values_left}
use Rattle.search_joint.proofs.Among.{below_greatest, from_least, up_to_most}
use Rattle.search_joint.proofs.Narrower.{narrowed_more}
use Rattle.search_joint.proofs.narrowing.keep_between.Goals as goal

pub cut_above-requires-clause-most : goal.cut_above-requires-clause-most
cut_above-requires-clause-most c = λ v h.
    let fits : SFits w64 c.max-most.result = search rules in
    let most : int_le v c.max-most.result ≡ true = ap (int_le v) c.max-most.ensures ∙ below_greatest (values_left c.args.store.now.box c.args.x.0) v (c.cut_below.ensures.narrowed.fewer.each v h) in
    simp to_z-of_z most

pub returns-clause-narrowed : goal.returns-clause-narrowed
returns-clause-narrowed c = narrowed_more c.args.x.0 c.args.store.now c.cut_below.new.store c.cut_above.new.store c.cut_below.ensures.narrowed c.cut_above.ensures.narrowed

pub returns-then-most-hi-clause-between : goal.returns-then-most-hi-clause-between
returns-then-most-hi-clause-between c = λ v h.
    let lo_fits : SFits w64 c.args.lo = search rules in
    let hi_fits : SFits w64 c.args.hi = search rules in
    let least_fits : SFits w64 c.min.result = search rules in
    let most_fits : SFits w64 c.max-most.result = search rules in
    let vs = values_left c.args.store.now.box c.args.x.0 in
    let low : int_le c.args.lo c.min.result ≡ true = simp to_z-of_z at c.if-lo-min.true in
    let high : int_le c.max-most.result c.args.hi ≡ true = simp to_z-of_z at c.if-most-hi.true in
    and_from (int_le c.args.lo v) (int_le v c.args.hi) (from_least vs c.args.lo v (sym (ap (int_le c.args.lo) c.min.ensures) ∙ low) h)
    (up_to_most c.max-most.result c.args.hi v high (ap (int_le v) c.max-most.ensures ∙ below_greatest vs v h))

pub returns-clause-between : goal.returns-clause-between
returns-clause-between c = λ v h.
    let lo_fits : SFits w64 c.args.lo = search rules in
    let hi_fits : SFits w64 c.args.hi = search rules in
    let low : int_le c.args.lo v ≡ true = simp to_z-of_z at (c.in_ok-cut_below.ensures.above v (c.cut_above.ensures.narrowed.fewer.each v h)) in
    let high : int_le v c.args.hi ≡ true = simp to_z-of_z at (c.in_ok-cut_above.ensures.below v h) in
    and_from (int_le c.args.lo v) (int_le v c.args.hi) low high
