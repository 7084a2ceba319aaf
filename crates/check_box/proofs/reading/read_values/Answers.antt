use Rattle.std.proofs.Common.{◌≡◌, ◌∙◌, sym, ap, arith, true, length-set, to_z, of_z, w64}
use Rattle.qc_model.specs.Domains.{values_left, least_value, is_single}
use Rattle.qc_model.specs.Valid.{is_number}
use Rattle.check_box.specs.Placed.{only}
use Rattle.box_laws.proofs.Numbers.{passed_number}
use Rattle.box_laws.proofs.Readings.{least_number}
use Rattle.check_box.proofs.Placing.{fixed_at, single_some, single_only, placed_more, kept_before, kept_after, numbers_set}
use Rattle.check_box.proofs.reading.read_values.Goals as goal

pub min-requires-clause-left : goal.min-requires-clause-left
min-requires-clause-left c =
    let box = c.args.store.now.box in
    single_some (values_left box c.loop-k.k) (fixed_at box c.args.from c.args.stop c.loop-k.k c.loop-k.auto.k c.loop-k-test.true c.requires.bound c.requires.fixed)

pub loop-k-preserved : goal.loop-k-preserved
loop-k-preserved c =
    let box = c.args.store.now.box in
    let k = c.loop-k.k in
    let vs = c.loop-k.values in
    let d = values_left box k in
    let single : is_single d ≡ true = fixed_at box c.args.from c.args.stop k c.loop-k.auto.k c.loop-k-test.true c.requires.bound c.requires.fixed in
    let number = least_number d (single_some d single) c.known.ensures.numbers in
    let w = to_z w64 (of_z w64 c.min.result) in
    let e : w ≡ least_value d = ap (λ z. to_z w64 (of_z w64 z)) c.min.ensures ∙ passed_number (least_value d) number in
    let inv = c.loop-k.invariant in
    let below = c.loop-k-test.true in
    record {
      read = placed_more vs box k w (omega (arith, inv.each, c.requires.each, c.requires.bound, below)) (omega (arith, c.requires.bound, below)) (single_only d single ∙ ap only (sym e)) inv.read;
      kept = kept_before vs c.args.from k w c.loop-k.auto.k ∙ inv.kept;
      later = kept_after vs c.args.stop k w below ∙ inv.later;
      each = length-set vs k w ∙ inv.each;
      numbers = numbers_set vs k w inv.numbers (ap is_number e ∙ number);
    }
