use Rattle.std.proofs.Common.{List, subst, sym}
use Rattle.qc_model.specs.declared.problem.VarId.{VarId}
use Rattle.qc_model.specs.Domains.{declared_box}
use Rattle.prop_engine.specs.Closing.{IsClosing, is_between}
use Rattle.prop_engine.specs.Watching.{WasKept}
use Rattle.search_joint.proofs.Settling.{box_sizes, few_variables, settled_inside, was_kept}
use Rattle.search_joint.proofs.inside.close_inside.Goals as goal

pub settle_all-requires-clause-few : goal.settle_all-requires-clause-few
settle_all-requires-clause-few g c = few_variables c.args.problem.now c.args.store.now.box c.requires.declared c.known.ensures.few_variables

pub settle_all-requires-clause-count : goal.settle_all-requires-clause-count
settle_all-requires-clause-count g c = box_sizes c.args.problem.now c.args.store.now.box c.args.within.now.box c.requires.declared c.requires.declared_there

pub close-requires-clause-earlier : goal.close-requires-clause-earlier
close-requires-clause-earlier g c = λ w.
    let ok = is_between c.args.span.first c.args.span.end in
    let game = c.args.problem.now in
    let mid = c.settle_all.new.store.box in
    subst (λ (xs : List VarId). WasKept ok game xs mid) (sym c.deref.ensures.value)
    (was_kept ok game c.settle_all.new.changed.items c.args.store.now.box mid c.args.within.now.box c.requires.declared c.settle_all.ensures.fewer (c.in_ok-settle_all.ensures.settled c.if-not-branch.false) (c.requires.kept w))

pub returns-in-Open-clause-answer : goal.returns-in-Open-clause-answer
returns-in-Open-clause-answer g c = λ ok.
    let game = c.args.problem.now in
    let large = c.args.within.now.box in
    let mid = c.settle_all.new.store.box in
    let declared = c.settle_all.ensures.fewer (declared_box game) c.requires.declared in
    let sizes = box_sizes game c.args.store.now.box large c.requires.declared c.requires.declared_there in
    record {
      declared = c.close.ensures.fewer (declared_box game) declared;
      inside = c.close.ensures.fewer large (settled_inside game c.settle_all.new.changed.items c.args.store.now.box mid large declared sizes (c.in_ok-settle_all.ensures.settled c.if-not-branch.false));
      closed = subst (λ a. IsClosing a (is_between c.args.span.first c.args.span.end) game c.close.new.store.box) c.in-Open.is c.in_ok-close.ensures.answer;
    }
