use Rattle.std.proofs.Common.{sym, subst}
use Rattle.joins.specs.Joins.{out_of}
use Rattle.joins.specs.Seen.{verdict_of}
use Rattle.dense_ledger.specs.Ledger.{leaf_seen}
use Rattle.dense_nest.specs.Ends.{SeesMore}
use Rattle.dense_nest.proofs.Tallying.{leaf_more}
use Rattle.dense_nest.proofs.nest.Nest.add_leaf.Goals as goal

pub returns-then-chosen-clause-sees : goal.returns-then-chosen-clause-sees
returns-then-chosen-clause-sees c =
    let m = c.args.self.now in
    let v = verdict_of m.found (out_of m.joins) in
    subst (λ b. SeesMore c.args.i.0 (leaf_seen b v) m c.add_skipped.new.self) (sym c.if-chosen.true)
    (leaf_more m c.add_node.new.self c.add_skipped.new.self c.args.i.0 v c.in_ok-add_node.ensures.sees c.add_skipped.ensures)
