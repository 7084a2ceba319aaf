use Rattle.std.proofs.Common.{rules, true, false}
use mir.Val.{SFits}
use mir.Syntax.{w64}
use Rattle.model_arguments.proofs.Bools.{clash}
use Rattle.dense_quiet.proofs.RoomSteps.{passed_above, passed_within, turned_fits, turned_above, test_of, rising_above, past_falling, past_rising}
use Rattle.dense_quiet.proofs.moving.steps_up.Goals as goal

pub overflow_sub-factor : goal.overflow_sub-factor
overflow_sub-factor c = turned_fits c.args.factor c.ranges.factor c.requires.factor

pub steps-requires-clause-room : goal.steps-requires-clause-room
steps-requires-clause-room c =
    let fits : SFits w64 c.args.room.over = search rules in
    passed_above c.args.room.over fits c.requires.room.over

pub steps-requires-clause-size : goal.steps-requires-clause-size
steps-requires-clause-size c = turned_above c.args.factor c.ranges.factor c.requires.factor (test_of c.args.factor true c.ranges.factor c.if-factor-lt0.true)

pub steps-requires-clause-width : goal.steps-requires-clause-width
steps-requires-clause-width c = passed_above c.args.width c.ranges.width c.requires.width

pub steps-requires-else-factor-lt0-clause-room : goal.steps-requires-else-factor-lt0-clause-room
steps-requires-else-factor-lt0-clause-room c =
    let fits : SFits w64 c.args.room.under = search rules in
    passed_above c.args.room.under fits c.requires.room.under

pub steps-requires-else-factor-lt0-clause-size : goal.steps-requires-else-factor-lt0-clause-size
steps-requires-else-factor-lt0-clause-size c = rising_above c.args.factor c.ranges.factor c.requires.some (test_of c.args.factor false c.ranges.factor c.if-factor-lt0.false)

pub steps-requires-else-factor-lt0-clause-width : goal.steps-requires-else-factor-lt0-clause-width
steps-requires-else-factor-lt0-clause-width c = passed_above c.args.width c.ranges.width c.requires.width

pub returns-then-factor-lt0-clause-low : goal.returns-then-factor-lt0-clause-low
returns-then-factor-lt0-clause-low c =
    let fits : SFits w64 c.steps.result = search rules in
    passed_above c.steps.result fits c.steps.ensures.low

pub returns-then-factor-lt0-clause-high : goal.returns-then-factor-lt0-clause-high
returns-then-factor-lt0-clause-high c =
    let fits : SFits w64 c.steps.result = search rules in
    passed_within c.steps.result c.args.width fits c.ranges.width c.steps.ensures.high

pub returns-then-factor-lt0-clause-falling : goal.returns-then-factor-lt0-clause-falling
returns-then-factor-lt0-clause-falling c = λ t.
    let fits : SFits w64 c.steps.result = search rules in
    let room_fits : SFits w64 c.args.room.over = search rules in
    past_falling c.args.factor c.args.room.over c.args.width c.steps.result c.ranges.factor room_fits c.ranges.width fits c.requires.factor c.steps.ensures.past

pub returns-then-factor-lt0-clause-rising : goal.returns-then-factor-lt0-clause-rising
returns-then-factor-lt0-clause-rising c = λ t. absurd (clash _ (test_of c.args.factor true c.ranges.factor c.if-factor-lt0.true) t)

pub returns-else-factor-lt0-clause-low : goal.returns-else-factor-lt0-clause-low
returns-else-factor-lt0-clause-low c =
    let fits : SFits w64 c.steps-else-factor-lt0.result = search rules in
    passed_above c.steps-else-factor-lt0.result fits c.steps-else-factor-lt0.ensures.low

pub returns-else-factor-lt0-clause-high : goal.returns-else-factor-lt0-clause-high
returns-else-factor-lt0-clause-high c =
    let fits : SFits w64 c.steps-else-factor-lt0.result = search rules in
    passed_within c.steps-else-factor-lt0.result c.args.width fits c.ranges.width c.steps-else-factor-lt0.ensures.high

pub returns-else-factor-lt0-clause-falling : goal.returns-else-factor-lt0-clause-falling
returns-else-factor-lt0-clause-falling c = λ t. absurd (clash _ t (test_of c.args.factor false c.ranges.factor c.if-factor-lt0.false))

pub returns-else-factor-lt0-clause-rising : goal.returns-else-factor-lt0-clause-rising
returns-else-factor-lt0-clause-rising c = λ t.
    let fits : SFits w64 c.steps-else-factor-lt0.result = search rules in
    let room_fits : SFits w64 c.args.room.under = search rules in
    past_rising c.args.factor c.args.room.under c.args.width c.steps-else-factor-lt0.result c.ranges.factor room_fits c.ranges.width fits c.steps-else-factor-lt0.ensures.past
