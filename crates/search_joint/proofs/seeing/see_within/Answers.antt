use Rattle.std.proofs.Common.{◌∙◌, List, sym, ap, subst, arith}
use Rattle.qc_model.specs.Closed.{keeps_ends}
use Rattle.model_levels.specs.Spans.{IsSpanOf}
use Rattle.search_joint.specs.declared.entry.Entry.{Entry}
use Rattle.search_joint.specs.Stacked.{IsStacked, last_entry}
use Rattle.search_joint.proofs.Stacks.{last_at, back_at, stacked_on, stacked_more, kept_of_more, closed_of_span, counted}
use Rattle.search_joint.proofs.seeing.see_within.Goals as goal

pub undo_to-requires : goal.undo_to-requires
undo_to-requires g c =
    last_at c.args.levels.now.problem.now c.args.store.now c.pop_from.new.entries.items c.args.entries.now.items c.last_of-last.result c.pop_from.ensures c.requires.rest.stacked (c.last_of-last.ensures ∙ ap last_entry c.deref.ensures.value)

pub close_inside-requires-clause-full : goal.close_inside-requires-clause-full
close_inside-requires-clause-full g c =
    let back = back_at c.args.levels.now.problem.now c.args.store.now c.undo_to.new.self c.pop_from.new.entries.items c.args.entries.now.items c.last_of-last.result c.pop_from.ensures c.requires.rest.stacked (c.last_of-last.ensures ∙ ap last_entry c.deref.ensures.value) c.undo_to.ensures.content c.undo_to.ensures.past in
    back.closed.0

pub close_inside-requires-clause-kept : goal.close_inside-requires-clause-kept
close_inside-requires-clause-kept g c = λ was.
    let game = c.args.levels.now.problem.now in
    let last = c.last_of-last.result in
    let span = c.constraints_between-span.result in
    let back = back_at game c.args.store.now c.undo_to.new.self c.pop_from.new.entries.items c.args.entries.now.items last c.pop_from.ensures c.requires.rest.stacked (c.last_of-last.ensures ∙ ap last_entry c.deref.ensures.value) c.undo_to.ensures.content c.undo_to.ensures.past in
    let more = c.covers-was_kept.ensures was in
    let all : IsSpanOf game c.args.i.0 c.args.stop span.first span.end = subst (λ n. IsSpanOf game c.args.i.0 n span.first span.end) (counted c.args.stop (omega (arith, c.requires.ahead))) c.constraints_between-span.ensures in
    kept_of_more game last.from.0 c.args.i.0 c.args.stop last.stop span.first span.end (keeps_ends c.undo_to.new.self.box) more.0 more.1 all back.closed.1

pub returns-in_err-close_inside-clause-rest : goal.returns-in_err-close_inside-clause-rest
returns-in_err-close_inside-clause-rest g c =
    let game = c.args.levels.now.problem.now in
    let es = c.pop_from.new.entries.items in
    let back = back_at game c.args.store.now c.undo_to.new.self es c.args.entries.now.items c.last_of-last.result c.pop_from.ensures c.requires.rest.stacked (c.last_of-last.ensures ∙ ap last_entry c.deref.ensures.value) c.undo_to.ensures.content c.undo_to.ensures.past in
    record { ready = c.close_inside.ensures.ready; stacked = stacked_on game c.undo_to.new.self c.close_inside.new.store es c.close_inside.ensures.follows back.stacked }

pub returns-then-not-branch-clause-rest : goal.returns-then-not-branch-clause-rest
returns-then-not-branch-clause-rest g c =
    let game = c.args.levels.now.problem.now in
    let es = c.pop_from.new.entries.items in
    let back = back_at game c.args.store.now c.undo_to.new.self es c.args.entries.now.items c.last_of-last.result c.pop_from.ensures c.requires.rest.stacked (c.last_of-last.ensures ∙ ap last_entry c.deref.ensures.value) c.undo_to.ensures.content c.undo_to.ensures.past in
    record { ready = c.close_inside.ensures.ready; stacked = stacked_on game c.undo_to.new.self c.close_inside.new.store es c.close_inside.ensures.follows back.stacked }

pub returns-in_err-push-clause-rest : goal.returns-in_err-push-clause-rest
returns-in_err-push-clause-rest g c =
    let game = c.args.levels.now.problem.now in
    let es = c.pop_from.new.entries.items in
    let back = back_at game c.args.store.now c.undo_to.new.self es c.args.entries.now.items c.last_of-last.result c.pop_from.ensures c.requires.rest.stacked (c.last_of-last.ensures ∙ ap last_entry c.deref.ensures.value) c.undo_to.ensures.content c.undo_to.ensures.past in
    let on = stacked_on game c.undo_to.new.self c.close_inside.new.store es c.close_inside.ensures.follows back.stacked in
    record { ready = c.close_inside.ensures.ready; stacked = subst (λ (l : List Entry). IsStacked game c.close_inside.new.store l) (sym c.in_err-push.ensures.items) on }

pub returns-clause-rest : goal.returns-clause-rest
returns-clause-rest g c =
    let game = c.args.levels.now.problem.now in
    let es = c.pop_from.new.entries.items in
    let span = c.constraints_between-span.result in
    let back = back_at game c.args.store.now c.undo_to.new.self es c.args.entries.now.items c.last_of-last.result c.pop_from.ensures c.requires.rest.stacked (c.last_of-last.ensures ∙ ap last_entry c.deref.ensures.value) c.undo_to.ensures.content c.undo_to.ensures.past in
    let on = stacked_on game c.undo_to.new.self c.close_inside.new.store es c.close_inside.ensures.follows back.stacked in
    let all : IsSpanOf game c.args.i.0 c.args.stop span.first span.end = subst (λ n. IsSpanOf game c.args.i.0 n span.first span.end) (counted c.args.stop (omega (arith, c.requires.ahead))) c.constraints_between-span.ensures in
    let inside = c.in_ok-close_inside.ensures.answer c.if-not-branch.false in
    let entry : Entry = record { mark = c.mark.result; from = c.args.i; stop = c.args.stop } in
    record {
      ready = c.close_inside.ensures.ready;
      stacked = subst (λ (l : List Entry). IsStacked game c.close_inside.new.store l) (sym c.in_ok-push.ensures.items)
          (stacked_more game c.close_inside.new.store es entry on c.mark.ensures inside.declared (closed_of_span game c.args.i.0 c.args.stop span.first span.end c.close_inside.new.store.box all inside.closed));
    }
