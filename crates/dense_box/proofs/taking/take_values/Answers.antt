use Rattle.std.proofs.Common.{◌≡◌, ◌∙◌, ◌+◌, ◌≤◌, ◌<◌, [], ◌∷◌, sym, ap, arith, rules, get_or, pos, length, drop, take, w64}
use Rattle.std.proofs.lemmas.Int.{to_z-of_z}
use Rattle.std.proofs.lemmas.List.{length-set}
use mir.Val.{SFits}
use Rattle.qc_model.specs.Domains.{Box, Values, box_at, has_empty, has_value, values_left}
use Rattle.dense_tree.specs.Tuples.{are_of}
use Rattle.dense_box.specs.Taking.{taken_from}
use Rattle.dense_box.proofs.Known.{led_on}
use Rattle.dense_box.proofs.Tupled.{counted, is_there, rest_there, taken_more, later_kept, one_full}
use Rattle.dense_box.proofs.taking.take_values.Goals as goal

pub overflow_cast-from : goal.overflow_cast-from
overflow_cast-from c =
    let many = counted c.args.remains.now.box c.args.from c.args.stop c.args.values.now c.requires.bound c.requires.left in
    omega (arith, many)

pub take_value-requires-clause-left : goal.take_value-requires-clause-left
take_value-requires-clause-left c =
    let k = c.loop-k.k in
    let vs = c.args.values.now in
    let now = c.loop-k.remains.box in
    let many = counted c.args.remains.now.box c.args.from c.args.stop vs c.requires.bound c.requires.left in
    let fits : SFits w64 (get_or vs k (pos 0)) = search rules in
    let below : k < length vs = omega arith in
    let t : c.args.from + k < c.args.stop = omega (arith, many) in
    let l : c.args.stop ≤ length now = omega (arith, c.loop-k.invariant.long, c.requires.bound) in
    ap (has_value (values_left now (c.args.from + k))) (to_z-of_z w64 (get_or vs k (pos 0)) fits) ∙ is_there now c.args.from c.args.stop vs k (pos 0) below t l c.loop-k.invariant.left

pub loop-k-preserved : goal.loop-k-preserved
loop-k-preserved c =
    let k = c.loop-k.k in
    let vs = c.args.values.now in
    let from = c.args.from in
    let stop = c.args.stop in
    let now = c.loop-k.remains.box in
    let inv = c.loop-k.invariant in
    let v = get_or vs k (pos 0) in
    let one : Values = v ∷ [] in
    let many = counted c.args.remains.now.box from stop vs c.requires.bound c.requires.left in
    let fits : SFits w64 v = search rules in
    let below : k < length vs = omega arith in
    let t : from + k < stop = omega (arith, many) in
    let l : stop ≤ length now = omega (arith, inv.long, c.requires.bound) in
    let same : c.take_value.new.remains.box ≡ box_at now (from + k) v = c.take_value.ensures.content ∙ ap (box_at now (from + k)) (to_z-of_z w64 v fits) in
    record {
      content = ap (taken_from (from + (k + 1)) (drop (k + 1) vs)) same ∙ (sym (taken_more now from stop vs k (pos 0) below t l) ∙ inv.content);
      left = ap (λ (b : Box). are_of (drop (from + (k + 1)) (take stop b)) (drop (k + 1) vs)) same
          ∙ (ap (λ (us : Box). are_of us (drop (k + 1) vs)) (later_kept now (from + k) stop one (from + (k + 1)) (omega arith))
          ∙ rest_there now from stop vs k (pos 0) below t l inv.left);
      long = ap length same ∙ (length-set now (from + k) one ∙ inv.long);
      full = ap has_empty same ∙ (one_full now (from + k) v (is_there now from stop vs k (pos 0) below t l inv.left) ∙ inv.full);
      past = led_on c.args.remains.now c.loop-k.remains c.take_value.new.remains inv.past c.take_value.ensures.past;
      fewer = λ large h. c.take_value.ensures.fewer large (inv.fewer large h);
    }
