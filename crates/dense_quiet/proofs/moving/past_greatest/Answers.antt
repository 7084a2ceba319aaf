use Rattle.std.proofs.Common.{rules, ◌≡◌, true, false}
use Rattle.std.specs.Prelude.{pos, neg_ℤ, ◌+ℤ◌, ◌-ℤ◌, ◌*ℤ◌, ◌≤ℤ◌, ◌<ℤ◌, int_lt}
use Rattle.std.proofs.lemmas.Int.{to_z-of_z}
use mir.Val.{SFits}
use mir.Syntax.{w64}
use Rattle.dense_quiet.specs.Slack.{IsPast}
use Rattle.dense_quiet.proofs.Distances.{width_fits, past_down}
use Rattle.dense_quiet.proofs.RoomSteps.{gap_fits, gap_above, down_fits, past_down_fits}
use Rattle.dense_quiet.proofs.moving.past_greatest.Goals as goal

pub overflow_sub-result : goal.overflow_sub-result
overflow_sub-result c =
    let s = c.steps_down-down.result in
    let s_fits : SFits w64 s = search rules in
    let n_fits : SFits w64 c.args.factor = search rules in
    let least_fits : SFits w64 c.args.least = search rules in
    let greatest_fits : SFits w64 c.args.greatest = search rules in
    let wide : SFits w64 (c.args.greatest -ℤ c.args.least) = width_fits c.args.least c.args.greatest c.requires.measured.low c.requires.measured.high in
    let low : pos 0 ≤ℤ s = c.steps_down-down.ensures.low in
    let high : s ≤ℤ (c.args.greatest -ℤ c.args.least) = simp to_z-of_z at c.steps_down-down.ensures.high in
    let one : SFits w64 (c.args.greatest -ℤ s) = down_fits c.args.least c.args.greatest s c.requires.measured.low c.requires.measured.high low high in
    simp to_z-of_z one

pub overflow_sub-result-2 : goal.overflow_sub-result-2
overflow_sub-result-2 c =
    let s = c.steps_down-down.result in
    let s_fits : SFits w64 s = search rules in
    let n_fits : SFits w64 c.args.factor = search rules in
    let least_fits : SFits w64 c.args.least = search rules in
    let greatest_fits : SFits w64 c.args.greatest = search rules in
    let wide : SFits w64 (c.args.greatest -ℤ c.args.least) = width_fits c.args.least c.args.greatest c.requires.measured.low c.requires.measured.high in
    let low : pos 0 ≤ℤ s = c.steps_down-down.ensures.low in
    let high : s ≤ℤ (c.args.greatest -ℤ c.args.least) = simp to_z-of_z at c.steps_down-down.ensures.high in
    let one : SFits w64 (c.args.greatest -ℤ s) = down_fits c.args.least c.args.greatest s c.requires.measured.low c.requires.measured.high low high in
    let two : SFits w64 ((c.args.greatest -ℤ s) -ℤ pos 1) = past_down_fits c.args.least c.args.greatest s c.requires.measured.low c.requires.measured.high low high in
    simp to_z-of_z two

pub returns : goal.returns
returns c =
    let s = c.steps_down-down.result in
    let s_fits : SFits w64 s = search rules in
    let n_fits : SFits w64 c.args.factor = search rules in
    let least_fits : SFits w64 c.args.least = search rules in
    let greatest_fits : SFits w64 c.args.greatest = search rules in
    let wide : SFits w64 (c.args.greatest -ℤ c.args.least) = width_fits c.args.least c.args.greatest c.requires.measured.low c.requires.measured.high in
    let low : pos 0 ≤ℤ s = c.steps_down-down.ensures.low in
    let high : s ≤ℤ (c.args.greatest -ℤ c.args.least) = simp to_z-of_z at c.steps_down-down.ensures.high in
    let one : SFits w64 (c.args.greatest -ℤ s) = down_fits c.args.least c.args.greatest s c.requires.measured.low c.requires.measured.high low high in
    let two : SFits w64 ((c.args.greatest -ℤ s) -ℤ pos 1) = past_down_fits c.args.least c.args.greatest s c.requires.measured.low c.requires.measured.high low high in
    let falling : int_lt c.args.factor (pos 0) ≡ true → s <ℤ (c.args.greatest -ℤ c.args.least) → c.args.room.under <ℤ (neg_ℤ c.args.factor *ℤ (s +ℤ pos 1)) = simp to_z-of_z at c.steps_down-down.ensures.falling in
    let rising : int_lt c.args.factor (pos 0) ≡ false → s <ℤ (c.args.greatest -ℤ c.args.least) → c.args.room.over <ℤ (c.args.factor *ℤ (s +ℤ pos 1)) = simp to_z-of_z at c.steps_down-down.ensures.rising in
    let all : IsPast c.args.room c.args.factor c.args.greatest c.args.least ((c.args.greatest -ℤ s) -ℤ pos 1) = past_down c.args.room c.args.factor c.args.least c.args.greatest s c.requires.measured.small c.requires.measured.some c.requires.measured.low c.requires.measured.high low falling rising in
    simp to_z-of_z all

pub overflow_sub-greatest : goal.overflow_sub-greatest
overflow_sub-greatest c = gap_fits c.args.least c.args.greatest c.ranges.least c.ranges.greatest c.requires.measured.low c.requires.measured.high

pub steps_down-down-requires-clause-width : goal.steps_down-down-requires-clause-width
steps_down-down-requires-clause-width c = gap_above c.args.least c.args.greatest c.ranges.least c.ranges.greatest c.requires.measured.low c.requires.measured.high c.requires.measured.order
