use Rattle.std.proofs.Common.{◌∙◌, sym, rules, arith, get_or}
use Rattle.std.specs.Prelude.{pos}
use Rattle.std.proofs.lemmas.Int.{to_z-of_z}
use mir.Val.{SFits}
use mir.Syntax.{w64}
use Rattle.qc_model.specs.Refuted.{left_to}
use Rattle.qc_refuter.specs.Met.{seen}
use Rattle.qc_refuter.proofs.Places.{number_found, number_missed, numbers_before, numbers_after}
use Rattle.qc_refuter.proofs.elements.some_number.Goals as goal

pub returns-then-place_fits : goal.returns-then-place_fits
returns-then-place_fits c =
    let box = seen c.args.view.now in
    let k = c.loop-k.k in
    let ns = c.args.numbers.now in
    let n_fits : SFits w64 (get_or ns k (pos 0)) = search rules in
    let e = simp to_z-of_z at c.place_fits.ensures in
    number_found (left_to box c.args.b) (left_to box c.args.c) ns k (omega arith) (sym c.if-place_fits.true ∙ e) ∙ c.loop-k.invariant

pub loop-k-preserved : goal.loop-k-preserved
loop-k-preserved c =
    let box = seen c.args.view.now in
    let k = c.loop-k.k in
    let ns = c.args.numbers.now in
    let n_fits : SFits w64 (get_or ns k (pos 0)) = search rules in
    let e = simp to_z-of_z at c.place_fits.ensures in
    number_missed (left_to box c.args.b) (left_to box c.args.c) ns k (omega arith) (sym c.if-place_fits.false ∙ e) ∙ c.loop-k.invariant

pub loop-k-init : goal.loop-k-init
loop-k-init c =
    let box = seen c.args.view.now in
    numbers_before (left_to box c.args.b) (left_to box c.args.c) c.args.numbers.now c.first_place-k.result c.first_place-k.ensures.most c.first_place-k.ensures.missed

pub returns : goal.returns
returns c =
    let box = seen c.args.view.now in
    sym (numbers_after (left_to box c.args.b) (left_to box c.args.c) c.args.numbers.now c.loop-k.k (λ j l m. c.end_place-k-end.ensures.missed j (omega (arith, l, c.loop-k-test.false)) m)) ∙ c.loop-k.invariant
