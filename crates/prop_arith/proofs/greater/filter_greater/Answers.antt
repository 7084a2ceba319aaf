use Rattle.prop_arith.proofs.GreaterShapes.{greater_open}
use Rattle.prop_arith.proofs.greater.filter_greater.Goals as goal

pub goes_by_ends-requires : goal.goes_by_ends-requires
goes_by_ends-requires c =
    let t = c.greater_of-greater.result in
    let e = c.greater_of-greater.ensures in
    (greater_open c.args.asked.problem.now c.args.asked.rule.now c.args.store.now.box t c.known.ensures.domains c.requires.fits c.requires.pred e.first e.second e.third).third
