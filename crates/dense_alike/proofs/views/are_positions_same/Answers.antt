use Rattle.std.proofs.Common.{◌∙◌, sym}
use Rattle.dense_alike.proofs.Entailing.{views_seen}
use Rattle.dense_alike.proofs.views.are_positions_same.Goals as goal

pub returns-then-see_same-clause-same : goal.returns-then-see_same-clause-same
returns-then-see_same-clause-same c =
    let here = c.requires.here in
    let there = c.requires.there in
    sym (views_seen c.args.problem.now c.args.i.0 c.args.here.now c.args.there.now (here.count ∙ sym there.count) c.known.ensures.constraints (sym c.see_same.ensures ∙ c.if-see_same.true))
