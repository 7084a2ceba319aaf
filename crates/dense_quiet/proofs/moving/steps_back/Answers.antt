use Rattle.std.proofs.Common.{rules}
use mir.Val.{SFits}
use mir.Syntax.{w64}
use Rattle.dense_quiet.proofs.RoomSteps.{passed_above, passed_within, turned_fits, turned_above, past_falling, fits_falling}
use Rattle.dense_quiet.proofs.moving.steps_back.Goals as goal

pub overflow_sub-factor : goal.overflow_sub-factor
overflow_sub-factor c = turned_fits c.args.factor c.ranges.factor c.requires.factor

pub steps-requires-clause-room : goal.steps-requires-clause-room
steps-requires-clause-room c = passed_above c.args.room c.ranges.room c.requires.room

pub steps-requires-clause-size : goal.steps-requires-clause-size
steps-requires-clause-size c = turned_above c.args.factor c.ranges.factor c.requires.factor c.requires.falling

pub steps-requires-clause-width : goal.steps-requires-clause-width
steps-requires-clause-width c = passed_above c.args.width c.ranges.width c.requires.width

pub returns-clause-low : goal.returns-clause-low
returns-clause-low c =
    let fits : SFits w64 c.steps.result = search rules in
    passed_above c.steps.result fits c.steps.ensures.low

pub returns-clause-high : goal.returns-clause-high
returns-clause-high c =
    let fits : SFits w64 c.steps.result = search rules in
    passed_within c.steps.result c.args.width fits c.ranges.width c.steps.ensures.high

pub returns-clause-past : goal.returns-clause-past
returns-clause-past c =
    let fits : SFits w64 c.steps.result = search rules in
    past_falling c.args.factor c.args.room c.args.width c.steps.result c.ranges.factor c.ranges.room c.ranges.width fits c.requires.factor c.steps.ensures.past

pub returns-clause-fits : goal.returns-clause-fits
returns-clause-fits c =
    let fits : SFits w64 c.steps.result = search rules in
    fits_falling c.args.factor c.args.room c.steps.result c.ranges.factor c.ranges.room fits c.requires.factor c.steps.ensures.fits
