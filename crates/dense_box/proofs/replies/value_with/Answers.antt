use Rattle.std.proofs.Common.{◌≡◌, ◌∙◌, ◌&&◌, ◌<◌, suc, length, sym, ap, subst}
use Rattle.std.specs.Prelude.{IfSome}
use Rattle.qc_model.specs.Block.{constraints_within}
use Rattle.qc_model.specs.Domains.{Box, declared_box, is_single, least_value, values_left}
use Rattle.fd_store.specs.Held.{Held}
use Rattle.box_laws.proofs.Readings.{box_size}
use Rattle.box_laws.proofs.Trails.{past_back}
use Rattle.dense_tree.specs.Tuples.{all_hold, box_taken}
use Rattle.dense_box.proofs.Known.{tuple_told, taken_told}
use Rattle.dense_box.proofs.replies.value_with.Goals as goal

pub returns-then-not-is_tuple-clause-placed : goal.returns-then-not-is_tuple-clause-placed
returns-then-not-is_tuple-clause-placed c =
    let g = c.args.levels.now.problem.now in
    let l = c.level-level.result.now in
    let i = c.args.i.0 in
    let vs = c.args.values.now in
    let taken = box_taken g i c.args.remains.now.box vs in
    let told = c.is_tuple.ensures ∙ tuple_told g l.problem.now i l.number c.level-level.ensures.problem c.level-level.ensures.number c.store.result.now c.args.remains.now vs c.store.ensures in
    sym (ap (λ b. b && all_hold (constraints_within g i (suc (suc i))) taken && is_single (values_left taken c.args.x.0)) (sym told ∙ c.if-not-is_tuple.true))

pub returns-clause-placed : goal.returns-clause-placed
returns-clause-placed c =
    let g = c.args.levels.now.problem.now in
    let l = c.level-level.result.now in
    let i = c.args.i.0 in
    let vs = c.args.values.now in
    let taken = box_taken g i c.args.remains.now.box vs in
    let told = c.is_tuple.ensures ∙ tuple_told g l.problem.now i l.number c.level-level.ensures.problem c.level-level.ensures.number c.store.result.now c.args.remains.now vs c.store.ensures in
    let box : c.store-2.result.now.box ≡ taken =
    ap (λ (h : Held). h.box) c.store-2.ensures
    ∙ (c.take_tuple.ensures.content ∙ taken_told g l.problem.now i l.number c.level-level.ensures.problem c.level-level.ensures.number c.args.remains.now.box vs) in
    c.settled_value-found.ensures.settled
    ∙ (ap (λ (b : Box). all_hold (constraints_within g i (suc (suc i))) b && is_single (values_left b c.args.x.0)) box
    ∙ sym (ap (λ b. b && all_hold (constraints_within g i (suc (suc i))) taken && is_single (values_left taken c.args.x.0)) (sym told ∙ c.if-not-is_tuple.false)))

pub returns-clause-value : goal.returns-clause-value
returns-clause-value c =
    let g = c.args.levels.now.problem.now in
    let l = c.level-level.result.now in
    let i = c.args.i.0 in
    let vs = c.args.values.now in
    let box : c.store-2.result.now.box ≡ box_taken g i c.args.remains.now.box vs =
    ap (λ (h : Held). h.box) c.store-2.ensures
    ∙ (c.take_tuple.ensures.content ∙ taken_told g l.problem.now i l.number c.level-level.ensures.problem c.level-level.ensures.number c.args.remains.now.box vs) in
    subst (λ (b : Box). IfSome c.settled_value-found.result (λ v. v ≡ least_value (values_left b c.args.x.0))) box c.settled_value-found.ensures.value

pub returns-clause-var : goal.returns-clause-var
returns-clause-var c =
    let g = c.args.levels.now.problem.now in
    let new = c.take_tuple.new.remains.box in
    let now = c.take_tuple.ensures.fewer (declared_box g) c.requires.left.declared in
    let long : length c.store-2.result.now.box ≡ length c.args.remains.now.box =
    ap (λ (h : Held). length h.box) c.store-2.ensures ∙ (box_size g new now ∙ sym (box_size g c.args.remains.now.box c.requires.left.declared)) in
    subst (λ n. IfSome c.settled_value-found.result (λ v. c.args.x.0 < n)) long c.settled_value-found.ensures.var

pub returns-clause-past : goal.returns-clause-past
returns-clause-past c =
    past_back c.args.remains.now c.take_tuple.new.remains c.undo_to.new.self c.mark-mark.result.at (sym c.mark-mark.ensures) c.take_tuple.ensures.past c.undo_to.ensures.past
