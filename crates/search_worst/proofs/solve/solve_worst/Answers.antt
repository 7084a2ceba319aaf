use Rattle.qc_pessimist.specs.Refusals.{is_chosen}
use Rattle.search_worst.proofs.Means.{worst_means}
use Rattle.search_worst.proofs.solve.solve_worst.Goals as goal

pub returns-in_err-new-clause-reads : goal.returns-in_err-new-clause-reads
returns-in_err-new-clause-reads c = c.opposing_scopes_tell_the_worst.ensures.reads (is_chosen c.args.places) c.args.problem.now

pub returns-clause-means : goal.returns-clause-means
returns-clause-means c =
    worst_means (is_chosen c.args.places) c.args.problem.now c.in_ok-new.new c.in_ok-new.ensures.reads c.args.turns
    c.in_ok-flat.flat.outcome c.in_ok-flat.flat.optimum c.in_ok-flat.flat.arena c.in_ok-flat.ensures.solution
