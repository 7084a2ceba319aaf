use Rattle.std.proofs.Common.{◌∙◌, ◌∷◌, inr, rules, length, map, get_or}
use Rattle.std.specs.Prelude.{pos}
use Rattle.std.proofs.lemmas.Int.{to_z-of_z}
use mir.Val.{SFits}
use mir.Syntax.{w64}
use Rattle.qc_model.specs.Holds.{rows}
use Rattle.qc_model.specs.Refuted.{left_to}
use Rattle.prop_element.specs.Tables.{IsNext, NoneIs, fits_beyond}
use Rattle.prop_element.proofs.Rows.{next_fitting, lowest_first, lowest_next, lowest_done, highest_first, highest_next, highest_done}
use Rattle.prop_element.proofs.tables.end_rows.Goals as goal

pub loop-row-init : goal.loop-row-init
loop-row-init c =
    let w = length c.args.items.now in
    let ds = map (left_to c.args.store.now.box) c.args.items.now in
    record {
      low_width = c.requires.width;
      high_width = c.requires.width;
      lowest = lowest_first ds c.args.k c.args.first.now (rows w c.args.numbers.now) c.requires.fits;
      highest = highest_first ds c.args.k c.args.first.now (rows w c.args.numbers.now) c.requires.fits;
      sub = λ r a. inr a;
    }

pub loop-row-preserved : goal.loop-row-preserved
loop-row-preserved c =
    let w = length c.args.items.now in
    let k = c.args.k in
    let ds = map (left_to c.args.store.now.box) c.args.items.now in
    let rs = c.args.first.now ∷ rows w c.args.numbers.now in
    let low = c.loop-row.low.now in
    let high = c.loop-row.high.now in
    let row = c.in-Some.row.now in
    let rest = rows w c.loop-row.rest.now in
    let later = rows w c.in-Some.later.now in
    let i = c.loop-row.invariant in
    let low_fits : SFits w64 (get_or low k (pos 0)) = search rules in
    let high_fits : SFits w64 (get_or high k (pos 0)) = search rules in
    let n : IsNext (fits_beyond ds k (get_or low k (pos 0)) (get_or high k (pos 0))) rest row later = simp to_z-of_z at c.in-Some.ensures.some in
    let f = next_fitting ds k (get_or low k (pos 0)) (get_or high k (pos 0)) rs rest later row n i.sub in
    record {
      low_width = c.lower_row-low.ensures.width ∙ i.low_width;
      high_width = c.higher_row-high.ensures.width ∙ i.high_width;
      lowest = c.lower_row-low.ensures.lower ds rs later f (lowest_next ds k low (get_or high k (pos 0)) rs rest later row n i.lowest);
      highest = c.higher_row-high.ensures.higher ds rs later f (highest_next ds k high (get_or low k (pos 0)) rs rest later row n i.highest);
      sub = λ r a. i.sub r (n.walk.sub r (inr a));
    }

pub returns-clause-lowest : goal.returns-clause-lowest
returns-clause-lowest c =
    let w = length c.args.items.now in
    let k = c.args.k in
    let ds = map (left_to c.args.store.now.box) c.args.items.now in
    let low = c.loop-row.low.now in
    let high = c.loop-row.high.now in
    let rest = rows w c.loop-row.rest.now in
    let low_fits : SFits w64 (get_or low k (pos 0)) = search rules in
    let high_fits : SFits w64 (get_or high k (pos 0)) = search rules in
    let n : NoneIs (fits_beyond ds k (get_or low k (pos 0)) (get_or high k (pos 0))) rest = simp to_z-of_z at c.in_default.ensures.none in
    lowest_done ds k low (get_or high k (pos 0)) (c.args.first.now ∷ rows w c.args.numbers.now) rest n c.loop-row.invariant.lowest

pub returns-clause-highest : goal.returns-clause-highest
returns-clause-highest c =
    let w = length c.args.items.now in
    let k = c.args.k in
    let ds = map (left_to c.args.store.now.box) c.args.items.now in
    let low = c.loop-row.low.now in
    let high = c.loop-row.high.now in
    let rest = rows w c.loop-row.rest.now in
    let low_fits : SFits w64 (get_or low k (pos 0)) = search rules in
    let high_fits : SFits w64 (get_or high k (pos 0)) = search rules in
    let n : NoneIs (fits_beyond ds k (get_or low k (pos 0)) (get_or high k (pos 0))) rest = simp to_z-of_z at c.in_default.ensures.none in
    highest_done ds k high (get_or low k (pos 0)) (c.args.first.now ∷ rows w c.args.numbers.now) rest n c.loop-row.invariant.highest
