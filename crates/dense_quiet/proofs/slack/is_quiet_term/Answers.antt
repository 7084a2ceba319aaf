use Rattle.std.proofs.lemmas.Int.{to_z-of_z}
use mir.Val.{SFits}
use mir.Syntax.{w64}
use Rattle.qc_model.specs.Refuted.{left_to}
use Rattle.dense_quiet.specs.Slack.{IsNear}
use Rattle.dense_quiet.proofs.RoomSteps.{passed_above}
use Rattle.dense_quiet.proofs.slack.is_quiet_term.Goals as goal

pub is_near-requires-clause-factor : goal.is_near-requires-clause-factor
is_near-requires-clause-factor c =
    let fits : SFits w64 c.args.factor = c.ranges.factor in
    simp to_z-of_z c.requires.factor

pub is_near-requires-clause-room : goal.is_near-requires-clause-room
is_near-requires-clause-room c = passed_above c.args.s c.ranges.s c.requires.room

pub returns-then-is_near-clause-near : goal.returns-then-is_near-clause-near
returns-then-is_near-clause-near c = λ t w.
    let n_fits : SFits w64 c.args.factor = c.ranges.factor in
    let s_fits : SFits w64 c.args.s = c.ranges.s in
    let near : IsNear c.args.s c.args.factor (left_to c.args.store.now.box c.args.item) = simp to_z-of_z at (c.is_near.ensures c.if-is_near.true) in
    near
