use Rattle.std.proofs.Common.{rules}
use Rattle.std.proofs.lemmas.Int.{to_z-of_z}
use mir.Val.{SFits}
use mir.Syntax.{w64}
use Rattle.dense_quiet.specs.Slack.{AreNear}
use Rattle.dense_quiet.specs.Taking.{takes_of}
use Rattle.dense_quiet.proofs.slack.are_others_near.Goals as goal

pub returns-in-Owners : goal.returns-in-Owners
returns-in-Owners c = λ h.
    let s_fits : SFits w64 c.args.s = search rules in
    let near : AreNear (takes_of c.args.taking c.args.problem.now c.args.rule.now) c.args.s c.args.factors.now c.args.items.now c.args.store.now.box = simp to_z-of_z at (c.are_near.ensures h) in
    near
