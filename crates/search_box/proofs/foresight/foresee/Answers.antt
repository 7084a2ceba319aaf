use Rattle.std.proofs.Common.{true, refl, sym, subst}
use Rattle.box_laws.proofs.Trails.{box_back, past_back}
use Rattle.prop_base.specs.Pruning.{IsPruning}
use Rattle.prop_engine.specs.Closing.{IsClosing, is_between}
use Rattle.search_box.specs.declared.foresight.Foresight.{Foresight}
use Rattle.search_box.proofs.Foreseeing.{foreseen_made}
use Rattle.search_box.proofs.foresight.foresee.Goals as goal

pub returns-in_err-closed-clause-past : goal.returns-in_err-closed-clause-past
returns-in_err-closed-clause-past g c = past_back c.args.store.now c.close_span-closed.new.store c.undo_to.new.self c.mark-mark.result.at (sym c.mark-mark.ensures) c.close_span-closed.ensures.pruning.follows c.undo_to.ensures.past

pub returns-in-Open-clause-past : goal.returns-in-Open-clause-past
returns-in-Open-clause-past g c = past_back c.args.store.now c.close_span-closed.new.store c.undo_to.new.self c.mark-mark.result.at (sym c.mark-mark.ensures) c.close_span-closed.ensures.pruning.follows c.undo_to.ensures.past

pub returns-in-Empty-clause-past : goal.returns-in-Empty-clause-past
returns-in-Empty-clause-past g c = past_back c.args.store.now c.close_span-closed.new.store c.undo_to.new.self c.mark-mark.result.at (sym c.mark-mark.ensures) c.close_span-closed.ensures.pruning.follows c.undo_to.ensures.past

pub returns-in-Open-clause-foreseen : goal.returns-in-Open-clause-foreseen
returns-in-Open-clause-foreseen g c = λ known.
    let game = c.args.problem.now in
    let ok = is_between c.args.span.first c.args.span.end in
    let before = c.args.store.now in
    let closed = c.close_span-closed.new.store in
    let after = c.undo_to.new.self in
    let steps = c.close_span-closed.new.steps in
    let here = sym c.mark-mark.ensures in
    let pruning = c.close_span-closed.ensures.pruning in
    let f : Foresight = record { known = true; mark = c.mark-mark.result; span = c.args.span; steps = steps } in
    foreseen_made game before closed after f steps c.requires.declared
    (subst (λ xs. IsPruning ok game before closed xs steps) c.clear.ensures pruning)
    (subst (λ a. IsClosing a ok game closed.box) c.in-Open.is c.in_ok-closed.ensures.answer)
    (box_back before closed after c.mark-mark.result.at here pruning.follows c.undo_to.ensures.past)
    (past_back before closed after c.mark-mark.result.at here pruning.follows c.undo_to.ensures.past) c.mark-mark.ensures refl
