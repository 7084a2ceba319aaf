use Rattle.std.proofs.Common.{arith, ap, length}
use Rattle.prop_compare.proofs.engines.keep_ranges.Goals as goal

pub returns-then-narrowed-clause-answer : goal.returns-then-narrowed-clause-answer
returns-then-narrowed-clause-answer c =
    let n = c.in_ok-narrowed.ensures in
    let more = n.grown.0 c.if-narrowed.true in
    (n.full, λ e. omega (arith, more, ap length e), n.keeps)

pub returns-else-narrowed-clause-answer : goal.returns-else-narrowed-clause-answer
returns-else-narrowed-clause-answer c =
    let n = c.in_ok-narrowed.ensures in
    (n.full, n.grown.1 c.if-narrowed.false, n.keeps)
