use Rattle.std.proofs.Common.{sym, subst}
use Rattle.std.proofs.lemmas.Result.{on_ok_weaker}
use Rattle.search_trim.specs.Trims.{Trims}
use Rattle.search_trim.proofs.Right.{slice_trims}
use Rattle.search_trim.proofs.slice.trim.Goals as goal

pub returns-clause-right : goal.returns-clause-right
returns-clause-right c =
    let g = c.args.problem.now in
    let steps = c.args.steps.now in
    on_ok_weaker c.slice.result (λ e. subst (λ less. Trims g steps less) (sym e) (slice_trims g steps)) c.slice.ensures
