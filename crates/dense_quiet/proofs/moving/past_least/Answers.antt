use Rattle.std.proofs.Common.{rules, ◌≡◌, true, false}
use Rattle.std.specs.Prelude.{pos, neg_ℤ, ◌+ℤ◌, ◌-ℤ◌, ◌*ℤ◌, ◌≤ℤ◌, ◌<ℤ◌, int_lt}
use Rattle.std.proofs.lemmas.Int.{to_z-of_z}
use mir.Val.{SFits}
use mir.Syntax.{w64}
use Rattle.dense_quiet.specs.Slack.{IsPast}
use Rattle.dense_quiet.proofs.Distances.{width_fits, past_up}
use Rattle.dense_quiet.proofs.RoomSteps.{gap_fits, gap_above, up_fits, past_up_fits}
use Rattle.dense_quiet.proofs.moving.past_least.Goals as goal

pub overflow_add-result : goal.overflow_add-result
overflow_add-result c =
    let s = c.steps_up-up.result in
    let s_fits : SFits w64 s = search rules in
    let n_fits : SFits w64 c.args.factor = search rules in
    let least_fits : SFits w64 c.args.least = search rules in
    let greatest_fits : SFits w64 c.args.greatest = search rules in
    let wide : SFits w64 (c.args.greatest -ℤ c.args.least) = width_fits c.args.least c.args.greatest c.requires.measured.low c.requires.measured.high in
    let low : pos 0 ≤ℤ s = c.steps_up-up.ensures.low in
    let high : s ≤ℤ (c.args.greatest -ℤ c.args.least) = simp to_z-of_z at c.steps_up-up.ensures.high in
    let one : SFits w64 (c.args.least +ℤ s) = up_fits c.args.least c.args.greatest s c.requires.measured.low c.requires.measured.high low high in
    simp to_z-of_z one

pub overflow_add-result-2 : goal.overflow_add-result-2
overflow_add-result-2 c =
    let s = c.steps_up-up.result in
    let s_fits : SFits w64 s = search rules in
    let n_fits : SFits w64 c.args.factor = search rules in
    let least_fits : SFits w64 c.args.least = search rules in
    let greatest_fits : SFits w64 c.args.greatest = search rules in
    let wide : SFits w64 (c.args.greatest -ℤ c.args.least) = width_fits c.args.least c.args.greatest c.requires.measured.low c.requires.measured.high in
    let low : pos 0 ≤ℤ s = c.steps_up-up.ensures.low in
    let high : s ≤ℤ (c.args.greatest -ℤ c.args.least) = simp to_z-of_z at c.steps_up-up.ensures.high in
    let one : SFits w64 (c.args.least +ℤ s) = up_fits c.args.least c.args.greatest s c.requires.measured.low c.requires.measured.high low high in
    let two : SFits w64 ((c.args.least +ℤ s) +ℤ pos 1) = past_up_fits c.args.least c.args.greatest s c.requires.measured.low c.requires.measured.high low high in
    simp to_z-of_z two

pub returns : goal.returns
returns c =
    let s = c.steps_up-up.result in
    let s_fits : SFits w64 s = search rules in
    let n_fits : SFits w64 c.args.factor = search rules in
    let least_fits : SFits w64 c.args.least = search rules in
    let greatest_fits : SFits w64 c.args.greatest = search rules in
    let wide : SFits w64 (c.args.greatest -ℤ c.args.least) = width_fits c.args.least c.args.greatest c.requires.measured.low c.requires.measured.high in
    let low : pos 0 ≤ℤ s = c.steps_up-up.ensures.low in
    let high : s ≤ℤ (c.args.greatest -ℤ c.args.least) = simp to_z-of_z at c.steps_up-up.ensures.high in
    let one : SFits w64 (c.args.least +ℤ s) = up_fits c.args.least c.args.greatest s c.requires.measured.low c.requires.measured.high low high in
    let two : SFits w64 ((c.args.least +ℤ s) +ℤ pos 1) = past_up_fits c.args.least c.args.greatest s c.requires.measured.low c.requires.measured.high low high in
    let falling : int_lt c.args.factor (pos 0) ≡ true → s <ℤ (c.args.greatest -ℤ c.args.least) → c.args.room.over <ℤ (neg_ℤ c.args.factor *ℤ (s +ℤ pos 1)) = simp to_z-of_z at c.steps_up-up.ensures.falling in
    let rising : int_lt c.args.factor (pos 0) ≡ false → s <ℤ (c.args.greatest -ℤ c.args.least) → c.args.room.under <ℤ (c.args.factor *ℤ (s +ℤ pos 1)) = simp to_z-of_z at c.steps_up-up.ensures.rising in
    let all : IsPast c.args.room c.args.factor c.args.least ((c.args.least +ℤ s) +ℤ pos 1) c.args.greatest = past_up c.args.room c.args.factor c.args.least c.args.greatest s c.requires.measured.small c.requires.measured.some c.requires.measured.low c.requires.measured.high low falling rising in
    simp to_z-of_z all

pub overflow_sub-greatest : goal.overflow_sub-greatest
overflow_sub-greatest c = gap_fits c.args.least c.args.greatest c.ranges.least c.ranges.greatest c.requires.measured.low c.requires.measured.high

pub steps_up-up-requires-clause-width : goal.steps_up-up-requires-clause-width
steps_up-up-requires-clause-width c = gap_above c.args.least c.args.greatest c.ranges.least c.ranges.greatest c.requires.measured.low c.requires.measured.high c.requires.measured.order
