use Rattle.std.proofs.Common.{◌∙◌, ap, map}
use Rattle.qc_pessimist.specs.Opposed.{move_variable, move_aggregate}
use Rattle.qc_pessimist.specs.Refusals.{is_chosen}
use Rattle.qc_pessimist.specs.Table.{place_in}
use Rattle.qc_pessimist.proofs.Tables.{made_game}
use Rattle.qc_pessimist.proofs.made.opposed_draft.Goals as goal

pub returns-clause-made : goal.returns-clause-made
returns-clause-made c =
    made_game (is_chosen c.args.places) c.args.problem.now c.known.ensures c.as_slice-table.result.now (c.as_slice-table.ensures.value ∙ c.in_ok-table.ensures) _
    c.in_ok-scopes.ensures
    (c.in_ok-moved_variables.ensures ∙ ap (map (move_variable (place_in c.as_slice-table.result.now))) c.all_variables.ensures)
    (c.in_ok-moved_aggregates.ensures ∙ ap (map (move_aggregate (place_in c.as_slice-table.result.now))) c.all_aggregates.ensures)
    c.in_ok-moved_constraints.ensures
