use Rattle.std.proofs.Common.{rules, to_z}
use Rattle.std.proofs.lemmas.Int.{to_z-of_z}
use mir.Val.{SFits}
use mir.Syntax.{w64}
use Rattle.prop_element.proofs.ChosenItems.{lower_more, lowest_stop, lowest_all, some_met, lowest_start}
use Rattle.prop_element.proofs.choices.lowest_met.Goals as goal

pub returns-then-best-low : goal.returns-then-best-low
returns-then-best-low c =
    let end_fits : SFits w64 c.least-low.result = search rules in
    lowest_stop c.args.store.now.box c.args.a c.args.items.now c.args.r (to_z w64 c.loop-k.best-bits) c.least-low.result c.loop-k.invariant.some c.least-low.ensures (simp to_z-of_z at c.if-best-low.true)

pub loop-k-init : goal.loop-k-init
loop-k-init c =
    let v_fits : SFits w64 c.args.some = search rules in
    simp to_z-of_z
    (record {
      some = some_met c.args.store.now.box c.args.a c.args.items.now c.args.r c.args.start c.args.some c.requires.start c.requires.some;
      all = lowest_start c.args.store.now.box c.args.a c.args.items.now c.args.r c.args.start c.args.some c.requires.start c.requires.some;
    })

pub loop-k-preserved : goal.loop-k-preserved
loop-k-preserved c =
    let b_fits : SFits w64 c.lower_met-best.result = search rules in
    let p = c.lower_met-best.ensures in
    simp to_z-of_z
    (record {
      some = p.some;
      all = lower_more c.args.store.now.box c.args.a c.args.items.now c.args.r (to_z w64 c.loop-k.best-bits) c.loop-k.k c.lower_met-best.result p c.loop-k.invariant.all;
    })

pub returns : goal.returns
returns c = lowest_all c.args.store.now.box c.args.a c.args.items.now c.args.r c.args.end c.loop-k.k (to_z w64 c.loop-k.best-bits) c.requires.end c.loop-k-test.false c.loop-k.invariant.some c.loop-k.invariant.all
