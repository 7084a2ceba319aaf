use Rattle.std.proofs.Common.{◌∙◌, ap, map}
use Rattle.qc_model.specs.Domains.{domain_values, has_empty}
use Rattle.fd_store.specs.Trail.{past_boxes}
use Rattle.fd_store.proofs.FullDomains.{none_empty}
use Rattle.fd_store.proofs.store.Store.new.Goals as goal

pub returns : goal.returns
returns c =
    let t = c.in_ok-table.table in
    let e = c.in_ok-table.ensures in
    let box = e.1 ∙ ap (map (λ x. domain_values x.domain)) c.all_variables.ensures in (
      box,
      ap (λ es. past_boxes es t.words.items t.cells.items) e.2,
      e.3,
      ap has_empty box ∙ none_empty c.args.problem.now.variables c.known.ensures.domains,
    )
