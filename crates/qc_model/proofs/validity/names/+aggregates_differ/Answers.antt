use Rattle.std.proofs.Common.{◌≡◌, ◌∙◌, sym, ap, map, not, bytes_eq}
use Rattle.std.specs.List.{list_any}
use Rattle.qc_model.specs.Names.{names_differ}
use Rattle.qc_model.proofs.AllOfTwo.{both_then, both_else, list_any-map}
use Rattle.qc_model.proofs.validity.names.+aggregates_differ.Goals as goal

pub returns-then-not-aggregate_has_name : goal.returns-then-not-aggregate_has_name
returns-then-not-aggregate_has_name t c =
    let taken : c.aggregate_has_name.result ≡ list_any (bytes_eq c.in-Some.q.now.name) (map (λ q. q.name) c.in-Some.rest.now) =
    c.aggregate_has_name.ensures ∙ ap (λ n. list_any (λ q. bytes_eq n q.name) c.in-Some.rest.now) c.text.ensures
    ∙ sym (list_any-map (bytes_eq c.in-Some.q.now.name) (λ q. q.name) c.in-Some.rest.now) in
    both_then _ _ _ (sym (ap not taken) ∙ ap not c.if-not-aggregate_has_name.true) c.aggregates_differ.ensures
    ∙ ap (λ qs. names_differ (map (λ q. q.name) qs)) (sym c.in-Some.ensures.cases.0)

pub returns-else-not-aggregate_has_name : goal.returns-else-not-aggregate_has_name
returns-else-not-aggregate_has_name t c =
    let taken : c.aggregate_has_name.result ≡ list_any (bytes_eq c.in-Some.q.now.name) (map (λ q. q.name) c.in-Some.rest.now) =
    c.aggregate_has_name.ensures ∙ ap (λ n. list_any (λ q. bytes_eq n q.name) c.in-Some.rest.now) c.text.ensures
    ∙ sym (list_any-map (bytes_eq c.in-Some.q.now.name) (λ q. q.name) c.in-Some.rest.now) in
    both_else _ (names_differ (map (λ q. q.name) c.in-Some.rest.now)) _ (sym (ap not taken) ∙ ap not c.if-not-aggregate_has_name.false) (ap not taken)
    ∙ ap (λ qs. names_differ (map (λ q. q.name) qs)) (sym c.in-Some.ensures.cases.0)
