use Rattle.std.proofs.Common.{arith, ◌≤ℤ◌, ◌<ℤ◌, pos, refl}
use Rattle.std.proofs.lemmas.Int.{ints}
use Rattle.fd_interval.specs.declared.span.Span.{Span}
use Rattle.fd_interval.proofs.Quotients.{IsPositive, IsOpposite, both_is_least, positive_is_least, negative_is_least}
use Rattle.fd_interval.proofs.Listed.{lo_is_least, hi_is_greatest}
use Rattle.fd_interval.proofs.ListedEnds.{both_lo, both_hi, positive_lo, positive_hi, negative_lo, negative_hi}
use Rattle.fd_interval.proofs.division.div.Goals as goal

pub returns-then-b-lt0-clause-least : goal.returns-then-b-lt0-clause-least
returns-then-b-lt0-clause-least c =
    both_is_least c.args.a c.args.b c.by_both_signs.result _ (omega (arith, ints)) (omega (arith, ints)) refl c.by_both_signs.ensures.lo c.by_both_signs.ensures.hi

pub returns-then-b-lt0-clause-lo : goal.returns-then-b-lt0-clause-lo
returns-then-b-lt0-clause-lo c =
    lo_is_least c.args.a c.args.b c.by_both_signs.result (returns-then-b-lt0-clause-least c)
    (both_lo c.args.a c.args.b c.by_both_signs.result.lo (omega (arith, ints)) (omega (arith, ints)) c.by_both_signs.ensures.lo)

pub returns-then-b-lt0-clause-hi : goal.returns-then-b-lt0-clause-hi
returns-then-b-lt0-clause-hi c =
    hi_is_greatest c.args.a c.args.b c.by_both_signs.result (returns-then-b-lt0-clause-least c)
    (both_hi c.args.a c.args.b c.by_both_signs.result.hi (omega (arith, ints)) (omega (arith, ints)) c.by_both_signs.ensures.hi)

positive : (b : Span) → pos 0 ≤ℤ b.lo → pos 0 <ℤ b.hi → IsPositive b
positive b p q = record { no_negative = p; some = q }

pub returns-else-b-lt0-clause-least : goal.returns-else-b-lt0-clause-least
returns-else-b-lt0-clause-least c =
    positive_is_least c.args.a c.args.b c.by_positive.result (positive c.args.b (omega (arith, ints)) (omega (arith, ints))) c.by_positive.ensures.lo c.by_positive.ensures.hi

pub returns-else-b-lt0-clause-lo : goal.returns-else-b-lt0-clause-lo
returns-else-b-lt0-clause-lo c =
    lo_is_least c.args.a c.args.b c.by_positive.result (returns-else-b-lt0-clause-least c)
    (positive_lo c.args.a c.args.b c.by_positive.result.lo (positive c.args.b (omega (arith, ints)) (omega (arith, ints))) c.by_positive.ensures.lo)

pub returns-else-b-lt0-clause-hi : goal.returns-else-b-lt0-clause-hi
returns-else-b-lt0-clause-hi c =
    hi_is_greatest c.args.a c.args.b c.by_positive.result (returns-else-b-lt0-clause-least c)
    (positive_hi c.args.a c.args.b c.by_positive.result.hi (positive c.args.b (omega (arith, ints)) (omega (arith, ints))) c.by_positive.ensures.hi)

pub returns-then-b-lt0-2-clause-least : goal.returns-then-b-lt0-2-clause-least
returns-then-b-lt0-2-clause-least c =
    let a : IsOpposite c.args.a c.opposite.result = record { lo = c.opposite.ensures.lo; hi = c.opposite.ensures.hi } in
    let b : IsOpposite c.args.b c.opposite-then-b-lt0-2.result = record { lo = c.opposite-then-b-lt0-2.ensures.lo; hi = c.opposite-then-b-lt0-2.ensures.hi } in
    let p = positive c.opposite-then-b-lt0-2.result (omega (arith, ints, b.lo)) (omega (arith, ints, b.hi)) in
    negative_is_least c.args.a c.args.b c.opposite.result c.opposite-then-b-lt0-2.result c.by_positive-then-b-lt0-2.result a b
    (positive_is_least c.opposite.result c.opposite-then-b-lt0-2.result c.by_positive-then-b-lt0-2.result p c.by_positive-then-b-lt0-2.ensures.lo c.by_positive-then-b-lt0-2.ensures.hi)

pub returns-then-b-lt0-2-clause-lo : goal.returns-then-b-lt0-2-clause-lo
returns-then-b-lt0-2-clause-lo c =
    let a : IsOpposite c.args.a c.opposite.result = record { lo = c.opposite.ensures.lo; hi = c.opposite.ensures.hi } in
    let b : IsOpposite c.args.b c.opposite-then-b-lt0-2.result = record { lo = c.opposite-then-b-lt0-2.ensures.lo; hi = c.opposite-then-b-lt0-2.ensures.hi } in
    lo_is_least c.args.a c.args.b c.by_positive-then-b-lt0-2.result (returns-then-b-lt0-2-clause-least c)
    (negative_lo c.args.a c.args.b c.opposite.result c.opposite-then-b-lt0-2.result c.by_positive-then-b-lt0-2.result.lo a b (omega (arith, ints)) (omega (arith, ints)) c.by_positive-then-b-lt0-2.ensures.lo)

pub returns-then-b-lt0-2-clause-hi : goal.returns-then-b-lt0-2-clause-hi
returns-then-b-lt0-2-clause-hi c =
    let a : IsOpposite c.args.a c.opposite.result = record { lo = c.opposite.ensures.lo; hi = c.opposite.ensures.hi } in
    let b : IsOpposite c.args.b c.opposite-then-b-lt0-2.result = record { lo = c.opposite-then-b-lt0-2.ensures.lo; hi = c.opposite-then-b-lt0-2.ensures.hi } in
    hi_is_greatest c.args.a c.args.b c.by_positive-then-b-lt0-2.result (returns-then-b-lt0-2-clause-least c)
    (negative_hi c.args.a c.args.b c.opposite.result c.opposite-then-b-lt0-2.result c.by_positive-then-b-lt0-2.result.hi a b (omega (arith, ints)) (omega (arith, ints)) c.by_positive-then-b-lt0-2.ensures.hi)
