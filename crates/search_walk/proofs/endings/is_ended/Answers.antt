use Rattle.std.proofs.Common.{◌≡◌, true, subst}
use Rattle.qc_model.specs.Content.{Game}
use Rattle.search_walk.specs.Rivals.{outdoes}
use Rattle.search_parts.specs.Settled.{is_outdone}
use Rattle.search_walk.proofs.Here.{asked_here, settled_ends, outdone_ends}
use Rattle.search_walk.proofs.endings.is_ended.Goals as goal

pub returns-then-is_settled : goal.returns-then-is_settled
returns-then-is_settled c =
    let l = c.args.stage.now.level.now in
    let g = l.problem.now in
    λ h. settled_ends (outdoes g l.number c.args.stage.now.rival) g l.number c.args.joins.now c.is_settled.result (asked_here g _ l.number c.args.joins.now c.is_settled.result c.requires.joins c.is_settled.ensures) c.if-is_settled.true

pub returns : goal.returns
returns c =
    let l = c.args.stage.now.level.now in
    let g = l.problem.now in
    let above = outdoes g l.number c.args.stage.now.rival in
    λ h. outdone_ends above g l.number c.args.joins.now (λ ys s. subst (λ (f : Game). is_outdone (outdoes f l.number c.args.stage.now.rival) ys ≡ true) c.requires.joins (c.is_outdone.ensures h ys s))
