use Rattle.std.proofs.Common.{◌<◌, sym, subst}
use Rattle.dense_nest.proofs.Tallying.{skipped_more}
use Rattle.dense_nest.proofs.nest.Nest.add_skipped.Goals as goal

pub returns : goal.returns
returns c =
    let m = c.args.self.now in
    skipped_more m c.args.i.0 c.add_skipped.new.self c.index-tally.result.now (subst (λ n. c.args.i.0 < n) (sym c.requires.made.tallies) c.requires.scope)
    c.index-tally.ensures c.add_skipped.ensures.others c.add_skipped.ensures.same c.add_skipped.ensures.out c.add_skipped.ensures.stands
