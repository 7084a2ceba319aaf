use Rattle.std.proofs.Common.{◌∙◌, [], ap, sym, List, is_none}
use Rattle.qc_model.specs.declared.problem.Scope.{Scope}
use Rattle.qc_model.specs.Bottlenecks.{first_bottleneck}
use Rattle.qc_model.proofs.Bottlenecks.{bottlenecks_none, none_answer}
use Rattle.qc_model.proofs.demands.bottlenecks_last.Goals as goal

pub returns : goal.returns
returns c =
    let scopes = c.as_slice.ensures.value ∙ ap (λ g. g.scopes) c.draft.view_is in
    let g = c.args.draft.now in
    none_answer c.first_among.result c.is_none.result (sym c.is_none.ensures) ∙ ap is_none (c.first_among.ensures ∙ ap (first_bottleneck g c.as_slice.result.now) c.as_slice-2.ensures ∙ ap (λ (ss : List Scope). first_bottleneck g ss []) scopes) ∙ sym (bottlenecks_none g g.scopes [])
