use Rattle.dense_quiet.proofs.RoomSteps.{passed_above, passed_most, not_below, may_divide, count_some, count_fits, count_past, count_below, width_fits_room}
use Rattle.dense_quiet.proofs.moving.steps.Goals as goal

pub nonzero_div-count : goal.nonzero_div-count
nonzero_div-count c = may_divide c.args.room c.args.size c.ranges.room c.ranges.size c.requires.room c.requires.size

pub returns-then-count-width-clause-low : goal.returns-then-count-width-clause-low
returns-then-count-width-clause-low c = count_some c.args.room c.args.size c.ranges.room c.ranges.size c.requires.room c.requires.size

pub returns-then-count-width-clause-high : goal.returns-then-count-width-clause-high
returns-then-count-width-clause-high c = count_below _ c.args.width c.ranges.width c.if-count-width.true

pub returns-then-count-width-clause-past : goal.returns-then-count-width-clause-past
returns-then-count-width-clause-past c = λ h. count_past c.args.room c.args.size c.ranges.room c.ranges.size c.requires.room c.requires.size

pub returns-then-count-width-clause-fits : goal.returns-then-count-width-clause-fits
returns-then-count-width-clause-fits c = count_fits c.args.room c.args.size c.ranges.room c.ranges.size c.requires.room c.requires.size

pub returns-else-count-width-clause-low : goal.returns-else-count-width-clause-low
returns-else-count-width-clause-low c = passed_above c.args.width c.ranges.width c.requires.width

pub returns-else-count-width-clause-high : goal.returns-else-count-width-clause-high
returns-else-count-width-clause-high c = passed_most c.args.width c.ranges.width

pub returns-else-count-width-clause-past : goal.returns-else-count-width-clause-past
returns-else-count-width-clause-past c = λ h. not_below c.args.width c.ranges.width _ h

pub returns-else-count-width-clause-fits : goal.returns-else-count-width-clause-fits
returns-else-count-width-clause-fits c =
    width_fits_room c.args.room c.args.size c.args.width c.ranges.room c.ranges.size c.ranges.width c.requires.room c.requires.size c.requires.width c.if-count-width.false
