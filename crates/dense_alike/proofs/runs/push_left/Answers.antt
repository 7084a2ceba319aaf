use Rattle.std.proofs.Common.{◌≡◌, rules, true, to_z, Some}
use Rattle.std.specs.Prelude.{pos, ◌+ℤ◌}
use Rattle.std.proofs.lemmas.Int.{to_z-of_z}
use mir.Val.{SFits}
use mir.Syntax.{w64}
use Rattle.qc_model.specs.Domains.{values_left}
use Rattle.fd_store.specs.Held.{values_from, least_of}
use Rattle.qc_model.specs.Valid.{is_range}
use Rattle.dense_alike.proofs.InARow.{Begins, none_pushed, one_pushed, next_there, next_nearer, next_fits, range_last}
use Rattle.dense_alike.proofs.runs.push_left.Goals as goal

pub loop-first-init : goal.loop-first-init
loop-first-init c = none_pushed c.args.ranges.now.items (values_left c.args.store.now.box c.args.x.0) c.known.ensures.numbers

pub loop-first-preserved : goal.loop-first-preserved
loop-first-preserved c =
    let d = values_left c.args.store.now.box c.args.x.0 in
    let first_fits : SFits w64 c.in-Some.first = search rules in
    let last_fits : SFits w64 c.run_end-last.result = search rules in
    let range : is_range c.in-Some.first c.run_end-last.result ≡ true = simp to_z-of_z at c.run_end-last.ensures.range in
    let begins : Begins d c.in-Some.first c.run_end-last.result = simp to_z-of_z at c.run_end-last.ensures.run in
    let next : SFits w64 (c.run_end-last.result +ℤ pos 1) = next_fits c.run_end-last.result (range_last c.in-Some.first c.run_end-last.result range) in
    let found : Some c.in-Some.first ≡ least_of (values_from (to_z w64 c.loop-first.from-bits) d) = c.in-Some.ensures in
    let items = c.in_ok-push.ensures.items in
    simp to_z-of_z
    (one_pushed c.args.ranges.now.items c.loop-first.ranges.items c.push.new.self.items d (to_z w64 c.loop-first.from-bits) c.in-Some.first c.run_end-last.result _ c.known.ensures.ascending found begins c.loop-first.invariant
    (to_z-of_z w64 c.in-Some.first first_fits) (to_z-of_z w64 c.run_end-last.result last_fits) items)

pub loop-first-smaller : goal.loop-first-smaller
loop-first-smaller c =
    let d = values_left c.args.store.now.box c.args.x.0 in
    let first_fits : SFits w64 c.in-Some.first = search rules in
    let last_fits : SFits w64 c.run_end-last.result = search rules in
    let range : is_range c.in-Some.first c.run_end-last.result ≡ true = simp to_z-of_z at c.run_end-last.ensures.range in
    let next : SFits w64 (c.run_end-last.result +ℤ pos 1) = next_fits c.run_end-last.result (range_last c.in-Some.first c.run_end-last.result range) in
    simp to_z-of_z (next_nearer d (to_z w64 c.loop-first.from-bits) c.in-Some.first c.run_end-last.result c.known.ensures.ascending c.in-Some.ensures range)

pub run_end-last-requires-clause-there : goal.run_end-last-requires-clause-there
run_end-last-requires-clause-there c =
    let d = values_left c.args.store.now.box c.args.x.0 in
    let first_fits : SFits w64 c.in-Some.first = search rules in
    simp to_z-of_z (next_there d (to_z w64 c.loop-first.from-bits) c.in-Some.first c.known.ensures.ascending c.in-Some.ensures)
