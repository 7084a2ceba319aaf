use Rattle.std.proofs.Common.{◌≡◌, ◌∙◌, sym, rules, true, to_z}
use Rattle.std.specs.Prelude.{pos, ◌+ℤ◌}
use Rattle.std.proofs.lemmas.Int.{to_z-of_z}
use mir.Val.{SFits}
use mir.Syntax.{w64}
use Rattle.qc_model.specs.Domains.{values_left, has_value}
use Rattle.qc_model.specs.Valid.{is_number}
use Rattle.model_arguments.proofs.Values.{value_passes}
use Rattle.qc_model.specs.Valid.{is_range}
use Rattle.dense_alike.proofs.InARow.{Begins, begins_first, begins_more, one_range, range_more, range_last, range_rises, next_fits}
use Rattle.dense_alike.proofs.runs.walked_end.Goals as goal

pub loop-x-init : goal.loop-x-init
loop-x-init c =
    let d = values_left c.args.store.now.box c.args.x.0 in
    let v = c.args.v in
    let v_fits : SFits w64 v = search rules in
    simp to_z-of_z
    (record {
      range = one_range v (value_passes is_number d v c.known.ensures.numbers c.requires.there);
      begins = begins_first d v c.known.ensures.ascending c.requires.there;
    })

pub loop-x-preserved : goal.loop-x-preserved
loop-x-preserved c =
    let d = values_left c.args.store.now.box c.args.x.0 in
    let v = c.args.v in
    let v_fits : SFits w64 v = search rules in
    let last = to_z w64 c.loop-x.last-bits in
    let range : is_range v last ≡ true = simp to_z-of_z at c.loop-x.invariant.range in
    let begins : Begins d v last = simp to_z-of_z at c.loop-x.invariant.begins in
    let fits : SFits w64 (last +ℤ pos 1) = next_fits last (range_last v last range) in
    let has : has_value d (last +ℤ pos 1) ≡ true = simp to_z-of_z at (sym c.has.ensures ∙ c.loop-x-test.true) in
    simp to_z-of_z
    (record {
      range = range_more v last range (value_passes is_number d (last +ℤ pos 1) c.known.ensures.numbers has);
      begins = begins_more d v last c.known.ensures.ascending (range_rises v last range) has begins;
    })
