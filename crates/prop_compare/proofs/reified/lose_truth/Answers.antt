use Rattle.std.proofs.Common.{arith, ap, length}
use Rattle.prop_compare.proofs.Told.{truth_goes, truth_lost}
use Rattle.prop_compare.proofs.reified.lose_truth.Goals as goal

pub prune-requires-clause-cut : goal.prune-requires-clause-cut
prune-requires-clause-cut c =
    truth_goes c.args.asked.problem.now c.args.asked.rule.now c.args.store.now.box c.args.comparison c.args.a c.args.b c.args.x c.args.told c.truth_cut-cut.result c.requires.telling c.requires.both c.requires.refuted c.truth_cut-cut.ensures

pub returns-clause-answer : goal.returns-clause-answer
returns-clause-answer c =
    let lost = truth_lost c.args.asked.problem.now c.args.asked.rule.now c.args.store.now.box c.prune.new.store.box c.args.comparison c.args.a c.args.b c.args.x c.args.told c.truth_cut-cut.result c.requires.telling c.requires.fits.full c.requires.both c.requires.refuted c.truth_cut-cut.ensures c.in_ok-prune.ensures.content in
    let grown = c.in_ok-prune.ensures.grown in
    (lost.full, λ e. omega (arith, grown, ap length e), lost.keeps)
