use Rattle.std.proofs.Common.{◌≡◌, ◌∙◌, ◌&&◌, false, sym, ap, subst, refl}
use Rattle.qc_model.specs.Domains.{Box, declared_box, has_empty}
use Rattle.qc_model.specs.Game.{restriction}
use Rattle.fd_store.specs.Held.{Held, past_box}
use Rattle.box_laws.proofs.Declared.{declared_is, declared_full}
use Rattle.box_laws.proofs.Trails.{past_back}
use Rattle.dense_tree.specs.Tuples.{all_hold, is_tuple_of, box_taken}
use Rattle.lemma_reasons.specs.Asked.{IsFullBox}
use Rattle.dense_box.proofs.Known.{box_told, tuple_told, taken_told, past_after}
use Rattle.dense_box.proofs.allowed.is_always_allowed.Goals as goal

pub is_tuple-requires : goal.is_tuple-requires
is_tuple-requires c =
    let g = c.args.levels.now.problem.now in
    box_told g c.level-level.result.now.problem.now c.store.result.now c.args.remains.now c.level-level.ensures.problem c.store.ensures (declared_is g c.args.remains.now.box c.known.ensures.domains c.requires.declared)

pub returns-then-not-is_tuple-clause-allowed : goal.returns-then-not-is_tuple-clause-allowed
returns-then-not-is_tuple-clause-allowed c =
    let g = c.args.levels.now.problem.now in
    let l = c.level-level.result.now in
    let i = c.args.i.0 in
    let vs = c.args.values.now in
    let told = c.is_tuple.ensures ∙ (tuple_told g l.problem.now i l.number c.level-level.ensures.problem c.level-level.ensures.number c.store.result.now c.args.remains.now vs c.store.ensures ∙ ap (λ (b : Box). is_tuple_of g i b vs) c.requires.declared) in
    sym (ap (λ b. b && all_hold (restriction g i) (box_taken g i (declared_box g) vs)) (sym told ∙ c.if-not-is_tuple.true))

pub take_tuple-requires-clause-declared : goal.take_tuple-requires-clause-declared
take_tuple-requires-clause-declared c =
    let g = c.args.levels.now.problem.now in
    box_told g c.level-level.result.now.problem.now c.args.remains.now c.args.remains.now c.level-level.ensures.problem refl (declared_is g c.args.remains.now.box c.known.ensures.domains c.requires.declared)

pub is_entailed_throughout-holds-requires-clause-left : goal.is_entailed_throughout-holds-requires-clause-left
is_entailed_throughout-holds-requires-clause-left c =
    let g = c.args.levels.now.problem.now in
    let box = c.args.remains.now.box in
    let was = declared_is g box c.known.ensures.domains c.requires.declared in
    let full : has_empty box ≡ false = ap has_empty c.requires.declared ∙ declared_full g c.known.ensures.domains in
    let left : IsFullBox g c.take_tuple.new.remains.box = record { declared = c.take_tuple.ensures.fewer (declared_box g) was; full = c.take_tuple.ensures.full ∙ full } in
    subst (λ (h : Held). IsFullBox g h.box) (sym c.store-2.ensures) left

pub undo_to-requires-clause-full : goal.undo_to-requires-clause-full
undo_to-requires-clause-full c =
    let g = c.args.levels.now.problem.now in
    let t = c.take_tuple.new.remains in
    ap (λ n. has_empty (past_box t n)) c.mark-mark.ensures
    ∙ (ap has_empty (past_after c.args.remains.now t c.take_tuple.ensures.past)
    ∙ (ap has_empty c.requires.declared ∙ declared_full g c.known.ensures.domains))

pub returns-clause-allowed : goal.returns-clause-allowed
returns-clause-allowed c =
    let g = c.args.levels.now.problem.now in
    let l = c.level-level.result.now in
    let i = c.args.i.0 in
    let vs = c.args.values.now in
    let told = c.is_tuple.ensures ∙ (tuple_told g l.problem.now i l.number c.level-level.ensures.problem c.level-level.ensures.number c.store.result.now c.args.remains.now vs c.store.ensures ∙ ap (λ (b : Box). is_tuple_of g i b vs) c.requires.declared) in
    let box : c.store-2.result.now.box ≡ box_taken g i (declared_box g) vs =
    ap (λ (h : Held). h.box) c.store-2.ensures
    ∙ (c.take_tuple.ensures.content
    ∙ (taken_told g l.problem.now i l.number c.level-level.ensures.problem c.level-level.ensures.number c.args.remains.now.box vs ∙ ap (λ (b : Box). box_taken g i b vs) c.requires.declared)) in
    c.is_entailed_throughout-holds.ensures
    ∙ (ap (all_hold (restriction g i)) box ∙ sym (ap (λ b. b && all_hold (restriction g i) (box_taken g i (declared_box g) vs)) (sym told ∙ c.if-not-is_tuple.false)))

pub returns-clause-past : goal.returns-clause-past
returns-clause-past c =
    past_back c.args.remains.now c.take_tuple.new.remains c.undo_to.new.self c.mark-mark.result.at (sym c.mark-mark.ensures) c.take_tuple.ensures.past c.undo_to.ensures.past
