use Rattle.std.proofs.Common.{sym, subst}
use Rattle.model_arguments.specs.declared.spans.Span.{Span}
use Rattle.model_levels.specs.Spans.{IsSpanOf}
use Rattle.search_box.proofs.Foreseeing.{open_answer, open_free}
use Rattle.search_box.proofs.ahead.sees.Goals as goal

pub returns-then-has_none-clause-seen : goal.returns-then-has_none-clause-seen
returns-then-has_none-clause-seen g c = λ t.
    open_free c.args.levels.now.problem.now c.args.i.0 c.args.stop c.args.store.now.box c.requires.declared c.requires.full (c.has_none.ensures.none c.if-has_none.true)

pub returns-in-Some-clause-seen : goal.returns-in-Some-clause-seen
returns-in-Some-clause-seen g c =
    let game = c.args.levels.now.problem.now in
    let span = subst (λ (s : Span). IsSpanOf game c.args.i.0 c.args.stop s.first s.end) (sym c.foresee.ensures.span) c.in-Some.ensures in
    open_answer c.foresee.result game c.foresee.new.store c.foresee.new.foresight c.args.i.0 c.args.stop c.args.store.now.box span c.foresee.ensures.here c.foresee.ensures.content c.foresee.ensures.seen c.foresee.ensures.foreseen
