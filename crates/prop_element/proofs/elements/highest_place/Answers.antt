use Rattle.std.proofs.Common.{rules, get_or}
use Rattle.std.specs.Prelude.{pos}
use Rattle.std.proofs.lemmas.Int.{to_z-of_z}
use mir.Val.{SFits}
use mir.Syntax.{w64}
use Rattle.qc_model.specs.Refuted.{left_to}
use Rattle.model_arguments.proofs.Bools.{clash}
use Rattle.model_arguments.proofs.Kept.{through}
use Rattle.prop_element.specs.Elements.{place_fits}
use Rattle.prop_element.proofs.Supports.{higher_more, highest_stop, highest_done}
use Rattle.prop_element.proofs.elements.highest_place.Goals as goal

pub returns-then-high-numbers : goal.returns-then-high-numbers
returns-then-high-numbers c =
    let v_fits : SFits w64 c.greatest-high.result = search rules in
    let n_fits : SFits w64 (get_or c.args.numbers.now c.loop-k.best (pos 0)) = search rules in
    let i = c.loop-k.invariant in
    let t = simp to_z-of_z at c.if-high-numbers.true in
    highest_stop (left_to c.args.store.now.box c.args.a) c.args.numbers.now (left_to c.args.store.now.box c.args.r) c.loop-k.best c.greatest-high.result i.place i.fits c.greatest-high.ensures t

pub loop-k-init : goal.loop-k-init
loop-k-init c =
    let p = c.higher_place-best.ensures in
    record {
      place = p.place;
      fits = p.fits;
      all = λ j h f. absurd (clash (place_fits (left_to c.args.store.now.box c.args.a) c.args.numbers.now (left_to c.args.store.now.box c.args.r) j) f (c.requires.start.none j h));
      end = p.other c.requires.end.fits;
    }

pub loop-k-preserved : goal.loop-k-preserved
loop-k-preserved c =
    let p = c.higher_place-best-in-loop-k.ensures in
    record {
      place = p.place;
      fits = p.fits;
      all = higher_more (left_to c.args.store.now.box c.args.a) c.args.numbers.now (left_to c.args.store.now.box c.args.r) c.loop-k.best c.loop-k.k c.higher_place-best-in-loop-k.result p c.loop-k.invariant.all;
      end = through (get_or c.args.numbers.now c.args.end (pos 0)) (get_or c.args.numbers.now c.loop-k.best (pos 0)) (get_or c.args.numbers.now c.higher_place-best-in-loop-k.result (pos 0)) c.loop-k.invariant.end p.best;
    }

pub returns : goal.returns
returns c =
    let i = c.loop-k.invariant in
    highest_done (left_to c.args.store.now.box c.args.a) c.args.numbers.now (left_to c.args.store.now.box c.args.r) c.loop-k.k c.args.end c.loop-k.best c.requires.end c.loop-k-test.false i.place i.fits i.end i.all
