use Rattle.std.proofs.Common.{◌<◌, sym, subst}
use Rattle.joins.specs.Joins.{out_of}
use Rattle.joins.specs.Seen.{verdict_of}
use Rattle.joins.specs.Sizes.{IsSized}
use Rattle.dense_nest.proofs.Tallying.{node_more}
use Rattle.dense_nest.proofs.nest.Nest.add_node.Goals as goal

pub returns-clause-sees : goal.returns-clause-sees
returns-clause-sees c =
    let m = c.args.self.now in
    let v = verdict_of m.found (out_of m.joins) in
    node_more m c.args.i.0 c.add_node.new.self c.index-tally.result.now c.size_of.result c.in_ok-size.size c.mixed_with-mixed.result v
    (subst (λ n. c.args.i.0 < n) (sym c.requires.made.tallies) c.requires.scope) c.index-tally.ensures
    c.add_node.ensures.others c.add_node.ensures.same c.add_node.ensures.out (subst (λ w. IsSized c.size_of.result (verdict_of m.found w)) c.vector.ensures c.size_of.ensures.sized) c.in_ok-size.ensures.0 c.in_ok-size.ensures.1 (c.mixed_with-mixed.ensures (out_of m.joins)) c.add_node.ensures.stands
