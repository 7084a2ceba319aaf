use Rattle.std.proofs.Common.{◌≤◌, length, subst, sym, suc}
use Rattle.qc_model.specs.Content.{Game}
use Rattle.model_levels.specs.Spans.{IsSpanOf}
use Rattle.lemma_reasons.proofs.spans.scope_kept.Goals as goal

pub returns : goal.returns
returns c =
    let span = c.constraints_between.result in
    c.are_kept.ensures c.args.j (suc c.args.j)
    (subst (λ (g : Game). IsSpanOf g c.args.j (suc c.args.j) span.first span.end) c.requires.levels c.constraints_between.ensures)

pub constraints_between-requires-clause-scope : goal.constraints_between-requires-clause-scope
constraints_between-requires-clause-scope c =
    subst (λ (g : Game). c.args.j ≤ length g.scopes) (sym c.requires.levels) c.requires.scope

pub are_kept-requires-clause-within : goal.are_kept-requires-clause-within
are_kept-requires-clause-within c =
    let span = c.constraints_between.result in
    (subst (λ (g : Game). IsSpanOf g c.args.j (suc c.args.j) span.first span.end) c.requires.levels c.constraints_between.ensures).within
