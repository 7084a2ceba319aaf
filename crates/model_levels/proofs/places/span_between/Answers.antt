use Rattle.std.proofs.Common.{◌≡◌, sym, subst, arith}
use Rattle.std.specs.Prelude.{slice_index}
use Rattle.model_levels.specs.Spans.{IsSpanOf, constraints_before}
use Rattle.model_levels.proofs.SpanLaws.{span_is}
use Rattle.model_levels.proofs.places.span_between.Goals as goal

pub returns : goal.returns
returns c =
    let g = c.args.problem.now in
    let i = c.args.i in
    let stop = c.args.stop in
    let first : slice_index c.args.places.now i ≡ constraints_before g i = c.requires.places.each i (omega (arith, c.requires.places.count, c.requires.order, c.requires.bound)) in
    let end : slice_index c.args.places.now stop ≡ constraints_before g stop = c.requires.places.each stop (omega (arith, c.requires.places.count, c.requires.bound)) in
    subst (λ m. IsSpanOf g i stop m (slice_index c.args.places.now stop)) (sym first)
    (subst (IsSpanOf g i stop (constraints_before g i)) (sym end) (span_is g i stop c.known.ensures c.requires.order))
