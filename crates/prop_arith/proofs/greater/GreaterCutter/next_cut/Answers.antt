use Rattle.prop_arith.proofs.GreaterShapes.{greater_is, greater_open}
use Rattle.prop_arith.proofs.greater.GreaterCutter.next_cut.Goals as goal

pub greater_cut-requires-clause-open : goal.greater_cut-requires-clause-open
greater_cut-requires-clause-open c =
    let s = c.requires.serves in
    greater_open c.args.problem.now c.args.rule.now c.args.store.now.box c.args.self.now c.known.ensures.domains c.requires.asked s.pred s.first s.second s.third

pub greater_cut-requires-clause-greater : goal.greater_cut-requires-clause-greater
greater_cut-requires-clause-greater c = greater_is c.args.problem.now c.args.rule.now c.args.store.now.box c.args.self.now c.requires.asked c.requires.serves
