use Rattle.std.proofs.Common.{◌≡◌, ◌∙◌, ◌<◌, length, ap, arith, length-set, to_z, of_z, w64}
use Rattle.qc_model.specs.Domains.{values_left, least_value}
use Rattle.qc_model.specs.Valid.{is_number}
use Rattle.box_laws.proofs.Numbers.{passed_number}
use Rattle.box_laws.proofs.Readings.{least_number}
use Rattle.check_box.proofs.Placing.{numbers_set}
use Rattle.dense_nest.proofs.Bounds.{some_left, written_more}
use Rattle.dense_nest.proofs.basics.write_position.Goals as goal

pub loop-k-preserved : goal.loop-k-preserved
loop-k-preserved c =
    let box = c.args.store.now.box in
    let k = c.loop-k.k in
    let vs = c.loop-k.values in
    let d = values_left box k in
    let inv = c.loop-k.invariant in
    let inside : k < length box = omega (arith, c.loop-k-test.true, c.requires.count) in
    let room : k < length vs = omega (arith, inside, inv.1, c.requires.room) in
    let number = least_number d (some_left box k c.requires.full inside) c.known.ensures.numbers in
    let w = to_z w64 (of_z w64 c.min.result) in
    let e : w ≡ least_value d = ap (λ z. to_z w64 (of_z w64 z)) c.min.ensures ∙ passed_number (least_value d) number in
    (written_more vs box k w room inside e inv.0, length-set vs k w ∙ inv.1, numbers_set vs k w inv.2 (ap is_number e ∙ number))
