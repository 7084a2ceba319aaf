use Rattle.std.proofs.Common.{rules}
use Rattle.std.specs.Prelude.{pos, ◌≤ℤ◌}
use Rattle.std.proofs.lemmas.Int.{to_z-of_z}
use mir.Val.{SFits}
use mir.Syntax.{w64}
use Rattle.model_arguments.proofs.Kept.{reaches}
use Rattle.dense_quiet.specs.Slack.{AreNear}
use Rattle.dense_quiet.specs.Taking.{takes_of}
use Rattle.dense_quiet.proofs.Sums.{as_bound, near_taken}
use Rattle.dense_quiet.proofs.slack.has_room.Goals as goal

pub returns-clause-room : goal.returns-clause-room
returns-clause-room c = λ h.
    let s_fits : SFits w64 c.args.s = search rules in
    reaches c.args.s (pos 0) (simp to_z-of_z at c.if-s-lt0.false)

pub returns-clause-near : goal.returns-clause-near
returns-clause-near c = λ h.
    let s_fits : SFits w64 c.args.s = search rules in
    let near : AreNear (takes_of c.args.taking c.args.problem.now c.args.rule.now) c.args.s c.args.factors.now c.args.items.now c.args.store.now.box = simp to_z-of_z at (c.are_others_near.ensures h) in
    near

pub returns-then-widest-s-clause-room : goal.returns-then-widest-s-clause-room
returns-then-widest-s-clause-room c = λ h.
    let s_fits : SFits w64 c.args.s = search rules in
    reaches c.args.s (pos 0) (simp to_z-of_z at c.if-s-lt0.false)

pub returns-then-widest-s-clause-near : goal.returns-then-widest-s-clause-near
returns-then-widest-s-clause-near c = λ h.
    let s_fits : SFits w64 c.args.s = search rules in
    let w_fits : SFits w64 c.args.widest = search rules in
    let less : c.args.widest ≤ℤ c.args.s = as_bound c.args.widest c.args.s (simp to_z-of_z at c.if-widest-s.true) in
    near_taken (takes_of c.args.taking c.args.problem.now c.args.rule.now) c.args.widest c.args.s c.args.factors.now c.args.items.now c.args.store.now.box less c.requires.near
