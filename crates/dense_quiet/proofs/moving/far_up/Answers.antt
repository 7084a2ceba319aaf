use Rattle.std.proofs.Common.{rules}
use Rattle.std.specs.Prelude.{pos, ◌+ℤ◌, ◌-ℤ◌, ◌*ℤ◌, ◌≤ℤ◌, ◌<ℤ◌}
use Rattle.std.proofs.lemmas.Int.{to_z-of_z}
use mir.Val.{SFits}
use mir.Syntax.{w64}
use Rattle.dense_quiet.specs.Slack.{IsFar}
use Rattle.dense_quiet.proofs.Distances.{width_fits}
use Rattle.dense_quiet.proofs.FarEnds.{far_above}
use Rattle.dense_quiet.proofs.RoomSteps.{gap_fits, gap_above, rising_above, passed_above, up_fits, past_up_fits}
use Rattle.dense_quiet.proofs.moving.far_up.Goals as goal

pub overflow_add-result : goal.overflow_add-result
overflow_add-result c =
    let s = c.steps-most.result in
    let s_fits : SFits w64 s = search rules in
    let n_fits : SFits w64 c.args.factor = search rules in
    let least_fits : SFits w64 c.args.least = search rules in
    let greatest_fits : SFits w64 c.args.greatest = search rules in
    let wide : SFits w64 (c.args.greatest -ℤ c.args.least) = width_fits c.args.least c.args.greatest c.requires.measured.low c.requires.measured.high in
    let low : pos 0 ≤ℤ s = c.steps-most.ensures.low in
    let high : s ≤ℤ (c.args.greatest -ℤ c.args.least) = simp to_z-of_z at c.steps-most.ensures.high in
    let one : SFits w64 (c.args.least +ℤ s) = up_fits c.args.least c.args.greatest s c.requires.measured.low c.requires.measured.high low high in
    simp to_z-of_z one

pub overflow_add-result-2 : goal.overflow_add-result-2
overflow_add-result-2 c =
    let s = c.steps-most.result in
    let s_fits : SFits w64 s = search rules in
    let n_fits : SFits w64 c.args.factor = search rules in
    let least_fits : SFits w64 c.args.least = search rules in
    let greatest_fits : SFits w64 c.args.greatest = search rules in
    let wide : SFits w64 (c.args.greatest -ℤ c.args.least) = width_fits c.args.least c.args.greatest c.requires.measured.low c.requires.measured.high in
    let low : pos 0 ≤ℤ s = c.steps-most.ensures.low in
    let high : s ≤ℤ (c.args.greatest -ℤ c.args.least) = simp to_z-of_z at c.steps-most.ensures.high in
    let one : SFits w64 (c.args.least +ℤ s) = up_fits c.args.least c.args.greatest s c.requires.measured.low c.requires.measured.high low high in
    let two : SFits w64 ((c.args.least +ℤ s) +ℤ pos 1) = past_up_fits c.args.least c.args.greatest s c.requires.measured.low c.requires.measured.high low high in
    simp to_z-of_z two

pub returns : goal.returns
returns c =
    let s = c.steps-most.result in
    let s_fits : SFits w64 s = search rules in
    let n_fits : SFits w64 c.args.factor = search rules in
    let least_fits : SFits w64 c.args.least = search rules in
    let greatest_fits : SFits w64 c.args.greatest = search rules in
    let wide : SFits w64 (c.args.greatest -ℤ c.args.least) = width_fits c.args.least c.args.greatest c.requires.measured.low c.requires.measured.high in
    let low : pos 0 ≤ℤ s = c.steps-most.ensures.low in
    let high : s ≤ℤ (c.args.greatest -ℤ c.args.least) = simp to_z-of_z at c.steps-most.ensures.high in
    let one : SFits w64 (c.args.least +ℤ s) = up_fits c.args.least c.args.greatest s c.requires.measured.low c.requires.measured.high low high in
    let two : SFits w64 ((c.args.least +ℤ s) +ℤ pos 1) = past_up_fits c.args.least c.args.greatest s c.requires.measured.low c.requires.measured.high low high in
    let r_fits : SFits w64 c.args.room = search rules in
    let past : s <ℤ (c.args.greatest -ℤ c.args.least) → c.args.room <ℤ (c.args.factor *ℤ (s +ℤ pos 1)) = simp to_z-of_z at c.steps-most.ensures.past in
    let fits : (c.args.factor *ℤ s) ≤ℤ c.args.room = simp to_z-of_z at c.steps-most.ensures.fits in
    let all : IsFar c.args.room c.args.factor c.args.least c.args.greatest ((c.args.least +ℤ s) +ℤ pos 1) c.args.greatest = far_above c.args.room c.args.factor c.args.least c.args.greatest s c.requires.measured.small c.requires.measured.some c.requires.rising c.requires.measured.low c.requires.measured.high low past fits in
    simp to_z-of_z all

pub overflow_sub-greatest : goal.overflow_sub-greatest
overflow_sub-greatest c = gap_fits c.args.least c.args.greatest c.ranges.least c.ranges.greatest c.requires.measured.low c.requires.measured.high

pub steps-most-requires-clause-width : goal.steps-most-requires-clause-width
steps-most-requires-clause-width c = gap_above c.args.least c.args.greatest c.ranges.least c.ranges.greatest c.requires.measured.low c.requires.measured.high c.requires.measured.order

pub steps-most-requires-clause-size : goal.steps-most-requires-clause-size
steps-most-requires-clause-size c = rising_above c.args.factor c.ranges.factor c.requires.measured.some c.requires.rising

pub steps-most-requires-clause-room : goal.steps-most-requires-clause-room
steps-most-requires-clause-room c = passed_above c.args.room c.ranges.room c.requires.room
