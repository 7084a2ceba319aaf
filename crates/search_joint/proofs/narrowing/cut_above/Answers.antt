use Rattle.std.proofs.Common.{◌≡◌, rules, true}
use Rattle.std.specs.Prelude.{int_le, pos, ◌+ℤ◌}
use Rattle.std.proofs.lemmas.Int.{to_z-of_z}
use mir.Val.{SFits}
use mir.Syntax.{w64}
use Rattle.qc_model.specs.Domains.{box_without}
use Rattle.search_joint.proofs.Among.{up_to_most}
use Rattle.search_joint.proofs.Narrower.{below_cut}
use Rattle.search_joint.proofs.Sizes.{after_fits}
use Rattle.search_joint.proofs.narrowing.cut_above.Goals as goal

pub returns-then-most-hi-clause-below : goal.returns-then-most-hi-clause-below
returns-then-most-hi-clause-below c = λ v h.
    let most_fits : SFits w64 c.args.most = search rules in
    let hi_fits : SFits w64 c.args.hi = search rules in
    let high : int_le c.args.most c.args.hi ≡ true = simp to_z-of_z at c.if-most-hi.true in
    up_to_most c.args.most c.args.hi v high (c.requires.most v h)

pub returns-clause-below : goal.returns-clause-below
returns-clause-below c =
    let hi_fits : SFits w64 c.args.hi = search rules in
    let over_fits : SFits w64 (c.args.hi +ℤ pos 1) = after_fits c.args.hi c.requires.hi in
    let high : c.cut.new.store.box ≡ box_without c.args.store.now.box c.args.x.0 (c.args.hi +ℤ pos 1) (pos 1000000000) = simp to_z-of_z at c.in_ok-cut.ensures.content in
    below_cut c.args.store.now.box c.cut.new.store.box c.args.x.0 c.args.hi c.requires.var c.known.ensures.numbers high
