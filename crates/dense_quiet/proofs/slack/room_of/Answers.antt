use Rattle.model_arguments.proofs.Bools.{clash}
use Rattle.dense_quiet.proofs.RoomLeft.{room_under, room_over, tight_under, tight_over}
use Rattle.dense_quiet.proofs.slack.room_of.Goals as goal

pub returns-then-is_equal-clause-under : goal.returns-then-is_equal-clause-under
returns-then-is_equal-clause-under c = room_under c.args.bound c.args.extent.from c.clamped-under.result c.ranges.bound c.requires.from (record { sfits = c.clamped-under.type_inv }) c.clamped-under.ensures.less

pub returns-then-is_equal-clause-over : goal.returns-then-is_equal-clause-over
returns-then-is_equal-clause-over c = λ z e. room_over c.args.bound c.args.extent.to c.clamped-over.result c.ranges.bound c.requires.to (record { sfits = c.clamped-over.type_inv }) c.clamped-over.ensures.less z

pub returns-else-is_equal-clause-under : goal.returns-else-is_equal-clause-under
returns-else-is_equal-clause-under c = room_under c.args.bound c.args.extent.from c.clamped-under.result c.ranges.bound c.requires.from (record { sfits = c.clamped-under.type_inv }) c.clamped-under.ensures.less

pub returns-else-is_equal-clause-over : goal.returns-else-is_equal-clause-over
returns-else-is_equal-clause-over c = λ z e. absurd (clash c.args.is_equal e c.if-is_equal.false)

pub returns-then-is_equal-clause-tight_under : goal.returns-then-is_equal-clause-tight_under
returns-then-is_equal-clause-tight_under c = tight_under c.args.bound c.args.extent.from c.clamped-under.result c.ranges.bound c.requires.from (record { sfits = c.clamped-under.type_inv }) c.clamped-under.ensures.tight

pub returns-else-is_equal-clause-tight_under : goal.returns-else-is_equal-clause-tight_under
returns-else-is_equal-clause-tight_under c = tight_under c.args.bound c.args.extent.from c.clamped-under.result c.ranges.bound c.requires.from (record { sfits = c.clamped-under.type_inv }) c.clamped-under.ensures.tight

pub returns-then-is_equal-clause-tight_over : goal.returns-then-is_equal-clause-tight_over
returns-then-is_equal-clause-tight_over c =
    λ h. (c.if-is_equal.true, tight_over c.args.bound c.args.extent.to c.clamped-over.result c.ranges.bound c.requires.to (record { sfits = c.clamped-over.type_inv }) c.clamped-over.ensures.tight h)

pub returns-else-is_equal-clause-tight_over : goal.returns-else-is_equal-clause-tight_over
returns-else-is_equal-clause-tight_over c = λ h. absurd h.lt
