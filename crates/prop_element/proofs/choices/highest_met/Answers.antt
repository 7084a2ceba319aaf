use Rattle.std.proofs.Common.{rules, to_z}
use Rattle.std.proofs.lemmas.Int.{to_z-of_z}
use mir.Val.{SFits}
use mir.Syntax.{w64}
use Rattle.prop_element.proofs.ChosenItems.{higher_more, highest_stop, highest_all, none_before}
use Rattle.prop_element.proofs.choices.highest_met.Goals as goal

pub returns-then-high-best : goal.returns-then-high-best
returns-then-high-best c =
    let end_fits : SFits w64 c.greatest-high.result = search rules in
    highest_stop c.args.store.now.box c.args.a c.args.items.now c.args.r (to_z w64 c.loop-k.best-bits) c.greatest-high.result c.loop-k.invariant.some c.greatest-high.ensures (simp to_z-of_z at c.if-high-best.true)

pub loop-k-init : goal.loop-k-init
loop-k-init c =
    let v_fits : SFits w64 c.args.some = search rules in
    simp to_z-of_z
    (record {
      some = c.requires.some;
      all = λ j w h m. absurd (none_before c.args.store.now.box c.args.a c.args.items.now c.args.r c.args.start j w c.requires.start h m);
    })

pub loop-k-preserved : goal.loop-k-preserved
loop-k-preserved c =
    let b_fits : SFits w64 c.higher_met-best.result = search rules in
    let p = c.higher_met-best.ensures in
    simp to_z-of_z
    (record {
      some = p.some;
      all = higher_more c.args.store.now.box c.args.a c.args.items.now c.args.r (to_z w64 c.loop-k.best-bits) c.loop-k.k c.higher_met-best.result p c.loop-k.invariant.all;
    })

pub returns : goal.returns
returns c = highest_all c.args.store.now.box c.args.a c.args.items.now c.args.r c.args.end c.loop-k.k (to_z w64 c.loop-k.best-bits) c.requires.end c.loop-k-test.false c.loop-k.invariant.some c.loop-k.invariant.all
