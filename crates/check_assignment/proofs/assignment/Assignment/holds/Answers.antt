use Rattle.check_assignment.proofs.Told.{constraint_at, stands_at, stands_small, told_equal, told_different, told_at_most}
use Rattle.check_assignment.proofs.assignment.Assignment.holds.Goals as goal

pub satisfies-requires-clause-rule : goal.satisfies-requires-clause-rule
satisfies-requires-clause-rule c = constraint_at c.self.inside.problem.now c.args.k c.constraint.result.now c.known.ensures c.constraint.ensures

pub returns-in-Equal : goal.returns-in-Equal
returns-in-Equal c =
    let g = c.self.inside.problem.now in
    let vs = c.self.inside.values.items in
    let s = c.index-standing.result.now in
    rw (← c.self.view_is)
    (λ r e.
    let stands = stands_at g vs c.self.inside.terms c.self.inside.standings.items c.args.k r s c.self.invariant e c.index-standing.ensures in
    told_equal vs r s stands (stands_small g vs c.args.k r s c.known.ensures c.self.invariant.numbers e stands) c.in-Equal.is)

pub returns-in-Different : goal.returns-in-Different
returns-in-Different c =
    let g = c.self.inside.problem.now in
    let vs = c.self.inside.values.items in
    let s = c.index-standing.result.now in
    rw (← c.self.view_is)
    (λ r e.
    let stands = stands_at g vs c.self.inside.terms c.self.inside.standings.items c.args.k r s c.self.invariant e c.index-standing.ensures in
    told_different vs r s stands (stands_small g vs c.args.k r s c.known.ensures c.self.invariant.numbers e stands) c.in-Different.is)

pub returns-in-AtMost : goal.returns-in-AtMost
returns-in-AtMost c =
    let g = c.self.inside.problem.now in
    let vs = c.self.inside.values.items in
    let s = c.index-standing.result.now in
    rw (← c.self.view_is)
    (λ r e.
    let stands = stands_at g vs c.self.inside.terms c.self.inside.standings.items c.args.k r s c.self.invariant e c.index-standing.ensures in
    told_at_most vs r s stands (stands_small g vs c.args.k r s c.known.ensures c.self.invariant.numbers e stands) c.in-AtMost.is)
