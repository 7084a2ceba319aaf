use Rattle.std.proofs.Common.{◌∙◌, sym, ap, map, not, ◌++◌, bytes_eq}
use Rattle.std.specs.List.{list_any}
use Rattle.qc_model.specs.Names.{names_differ as all_differ}
use Rattle.qc_model.proofs.AllOfTwo.{both_then, both_else}
use Rattle.qc_model.proofs.validity.names.+names_differ.Goals as goal

pub returns-then-not-has_name : goal.returns-then-not-has_name
returns-then-not-has_name t c =
    let taken = c.has_name.ensures ∙ ap (λ n. list_any (bytes_eq n) (map (λ x. x.name) c.in-Some.rest.now ++ map (λ q. q.name) c.args.aggregates.now)) c.text.ensures in
    both_then _ _ _ (sym (ap not taken) ∙ ap not c.if-not-has_name.true) c.names_differ.ensures
    ∙ ap (λ xs. all_differ (map (λ x. x.name) xs ++ map (λ q. q.name) c.args.aggregates.now)) (sym c.in-Some.ensures.cases.0)

pub returns-else-not-has_name : goal.returns-else-not-has_name
returns-else-not-has_name t c =
    let taken = c.has_name.ensures ∙ ap (λ n. list_any (bytes_eq n) (map (λ x. x.name) c.in-Some.rest.now ++ map (λ q. q.name) c.args.aggregates.now)) c.text.ensures in
    both_else _ (all_differ (map (λ x. x.name) c.in-Some.rest.now ++ map (λ q. q.name) c.args.aggregates.now)) _ (sym (ap not taken) ∙ ap not c.if-not-has_name.false) (ap not taken)
    ∙ ap (λ xs. all_differ (map (λ x. x.name) xs ++ map (λ q. q.name) c.args.aggregates.now)) (sym c.in-Some.ensures.cases.0)
