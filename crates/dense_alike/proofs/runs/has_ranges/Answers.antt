use Rattle.std.proofs.Common.{◌≡◌, ◌∙◌, ◌++◌, ◌+◌, sym, ap, false, to_z, drop, List, Option, ℤ}
use Rattle.std.specs.Prelude.{pos, ◌+ℤ◌, is_none}
use mir.Syntax.{w64}
use Rattle.qc_model.specs.Domains.{values_left}
use Rattle.qc_model.specs.Lists.{same_values}
use Rattle.fd_store.specs.Held.{values_from}
use Rattle.box_laws.proofs.Firsts.{from_least}
use Rattle.box_laws.proofs.Numbers.{passed_after}
use Rattle.dense_alike.specs.Ranges.{range_values, values_of}
use Rattle.dense_alike.proofs.InARow.{same_step, differs_step, same_end, range_last, nothing_next}
use Rattle.dense_alike.proofs.runs.has_ranges.Goals as goal

pub loop-range-init : goal.loop-range-init
loop-range-init c =
    let d = values_left c.args.store.now.box c.args.x.0 in
    ap (λ us. same_values us (values_of c.args.ranges.now)) (from_least d c.known.ensures.numbers)

pub loop-range-preserved : goal.loop-range-preserved
loop-range-preserved c =
    let d = values_left c.args.store.now.box c.args.x.0 in
    let rs = c.args.ranges.now in
    let k = c.loop-range.range-index in
    let r = c.range-item.result in
    let from = to_z w64 c.loop-range.from-bits in
    let begins : values_from from d ≡ range_values r ++ values_from (r.last +ℤ pos 1) d = c.has_run.ensures.begins c.if-not-has_run.false in
    ap (λ z. same_values (values_from z d) (values_of (drop (k + 1) rs))) (passed_after r.last (range_last r.first r.last r.ordered))
    ∙ (sym (same_step d from rs k r c.loop-range-test.true c.range-item.is begins) ∙ c.loop-range.invariant)

pub returns-then-not-has_run : goal.returns-then-not-has_run
returns-then-not-has_run c =
    let d = values_left c.args.store.now.box c.args.x.0 in
    let rs = c.args.ranges.now in
    let k = c.loop-range.range-index in
    let r = c.range-item.result in
    let from = to_z w64 c.loop-range.from-bits in
    let differs : (rest : List ℤ) → same_values (values_from from d) (range_values r ++ rest) ≡ false = c.has_run.ensures.differs c.if-not-has_run.true in
    sym (differs_step d from rs k r c.loop-range-test.true c.range-item.is differs) ∙ c.loop-range.invariant

pub returns : goal.returns
returns c =
    let d = values_left c.args.store.now.box c.args.x.0 in
    let from = to_z w64 c.loop-range.from-bits in
    nothing_next c.next.result c.is_none.result c.is_none.ensures
    ∙ (ap (λ (o : Option ℤ). is_none o) c.next.ensures ∙ (same_end d from c.args.ranges.now c.loop-range.range-index c.loop-range-test.false ∙ c.loop-range.invariant))
