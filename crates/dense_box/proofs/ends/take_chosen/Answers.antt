use Rattle.std.proofs.Common.{◌∙◌, ◌≤◌, ◌&&◌, suc, length, sym, ap, arith}
use Rattle.qc_model.specs.Domains.{declared_box}
use Rattle.qc_model.specs.Game.{before}
use Rattle.qc_model.proofs.Before.{before-le}
use Rattle.model_arguments.proofs.Boxes.{sub_length}
use Rattle.box_laws.proofs.Trails.{box_back, past_back}
use Rattle.dense_tree.specs.Tuples.{box_taken}
use Rattle.dense_box.specs.Ends.{goes_on_at}
use Rattle.dense_box.proofs.Ending.{none_chosen}
use Rattle.dense_box.proofs.Known.{tuple_told, taken_told}
use Rattle.dense_box.proofs.ends.take_chosen.Goals as goal

pub returns-then-is_empty-clause-chosen : goal.returns-then-is_empty-clause-chosen
returns-then-is_empty-clause-chosen c =
    let g = c.args.levels.now.problem.now in
    let i = c.args.i.0 in
    let box = c.args.remains.now.box in
    let within : before g (suc i) ≤ length box = omega (arith, before-le g (suc i), sub_length box (declared_box g) c.requires.declared) in
    sym (none_chosen g i box c.args.values.now within (sym c.is_empty.ensures ∙ c.if-is_empty.true))

pub returns-then-not-is_tuple-clause-chosen : goal.returns-then-not-is_tuple-clause-chosen
returns-then-not-is_tuple-clause-chosen c =
    let g = c.args.levels.now.problem.now in
    let l = c.level-level.result.now in
    let i = c.args.i.0 in
    let vs = c.args.values.now in
    let told = c.is_tuple.ensures ∙ tuple_told g l.problem.now i l.number c.level-level.ensures.problem c.level-level.ensures.number c.store.result.now c.args.remains.now vs c.store.ensures in
    sym (ap (λ b. b && goes_on_at g i (box_taken g i c.args.remains.now.box vs)) (sym told ∙ c.if-not-is_tuple.true))

pub returns-then-goes_on-clause-chosen : goal.returns-then-goes_on-clause-chosen
returns-then-goes_on-clause-chosen c =
    let g = c.args.levels.now.problem.now in
    let l = c.level-level.result.now in
    let i = c.args.i.0 in
    let vs = c.args.values.now in
    let told = c.is_tuple.ensures ∙ tuple_told g l.problem.now i l.number c.level-level.ensures.problem c.level-level.ensures.number c.store.result.now c.args.remains.now vs c.store.ensures in
    let box = c.take_tuple.ensures.content ∙ taken_told g l.problem.now i l.number c.level-level.ensures.problem c.level-level.ensures.number c.args.remains.now.box vs in
    sym (ap (λ b. b && goes_on_at g i (box_taken g i c.args.remains.now.box vs)) (sym told ∙ c.if-not-is_tuple.false) ∙ (ap (goes_on_at g i) (sym box) ∙ (sym c.goes_on.ensures ∙ c.if-goes_on.true)))

pub returns-then-goes_on-clause-content : goal.returns-then-goes_on-clause-content
returns-then-goes_on-clause-content c = λ _.
    let g = c.args.levels.now.problem.now in
    let l = c.level-level.result.now in
    c.take_tuple.ensures.content ∙ taken_told g l.problem.now c.args.i.0 l.number c.level-level.ensures.problem c.level-level.ensures.number c.args.remains.now.box c.args.values.now

pub returns-clause-chosen : goal.returns-clause-chosen
returns-clause-chosen c =
    let g = c.args.levels.now.problem.now in
    let l = c.level-level.result.now in
    let i = c.args.i.0 in
    let vs = c.args.values.now in
    let told = c.is_tuple.ensures ∙ tuple_told g l.problem.now i l.number c.level-level.ensures.problem c.level-level.ensures.number c.store.result.now c.args.remains.now vs c.store.ensures in
    let box = c.take_tuple.ensures.content ∙ taken_told g l.problem.now i l.number c.level-level.ensures.problem c.level-level.ensures.number c.args.remains.now.box vs in
    sym (ap (λ b. b && goes_on_at g i (box_taken g i c.args.remains.now.box vs)) (sym told ∙ c.if-not-is_tuple.false) ∙ (ap (goes_on_at g i) (sym box) ∙ (sym c.goes_on.ensures ∙ c.if-goes_on.false)))

pub returns-clause-kept : goal.returns-clause-kept
returns-clause-kept c = λ _.
    let s = c.args.remains.now in
    let m = c.take_tuple.new.remains in
    let t = c.undo_to.new.self in
    let n = c.mark-mark.result.at in (
      box_back s m t n (sym c.mark-mark.ensures) c.take_tuple.ensures.past c.undo_to.ensures.past,
      past_back s m t n (sym c.mark-mark.ensures) c.take_tuple.ensures.past c.undo_to.ensures.past,
    )
