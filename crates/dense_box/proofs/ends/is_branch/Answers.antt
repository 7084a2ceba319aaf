use Rattle.std.proofs.Common.{◌∙◌, ap, suc, arith}
use Rattle.qc_model.specs.Content.{Game}
use Rattle.qc_model.specs.Game.{before}
use Rattle.dense_box.proofs.Ending.{none_before, none_after}
use Rattle.dense_box.proofs.ends.is_branch.Goals as goal

pub returns-then-x-level : goal.returns-then-x-level
returns-then-x-level c =
    let g = c.args.levels.now.problem.now in
    let l = c.level-level.result.now in
    let i = c.args.i.0 in
    let first = l.has_from ∙ (ap (λ (z : Game). before z l.number) c.level-level.ensures.problem ∙ ap (before g) c.level-level.ensures.number) in
    let last = l.has_stop ∙ (ap (λ (z : Game). before z (suc l.number)) c.level-level.ensures.problem ∙ ap (λ n. before g (suc n)) c.level-level.ensures.number) in
    none_before g i c.args.remains.now.box c.args.x.0 l.from l.stop first last (omega arith)

pub returns-then-level-x : goal.returns-then-level-x
returns-then-level-x c =
    let g = c.args.levels.now.problem.now in
    let l = c.level-level.result.now in
    let i = c.args.i.0 in
    let first = l.has_from ∙ (ap (λ (z : Game). before z l.number) c.level-level.ensures.problem ∙ ap (before g) c.level-level.ensures.number) in
    let last = l.has_stop ∙ (ap (λ (z : Game). before z (suc l.number)) c.level-level.ensures.problem ∙ ap (λ n. before g (suc n)) c.level-level.ensures.number) in
    none_after g i c.args.remains.now.box c.args.x.0 l.from l.stop first last (omega arith)
