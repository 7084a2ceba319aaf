use Rattle.std.proofs.Common.{◌≡◌, ◌∙◌, rules, sym, ap, subst, List, ℕ, Option, None, OnOk, IfErr}
use Rattle.text_grammar.specs.declared.tree.Item.{Item}
use Rattle.text_resolve.specs.TextRefusals.{Refusal, first_refusal}
use Rattle.text_resolve.specs.Refusals.{IsItemFault}
use Rattle.text_resolve.proofs.passes.resolve.Goals as goal

pub returns-in_err-check-clause-refused : goal.returns-in_err-check-clause-refused
returns-in_err-check-clause-refused c =
    let ts = c.args.tokens.now in
    let error = c.in_err-check.field-0.0 in
    let refused : IsItemFault (first_refusal c.args.text.now ts c.args.items.now) error =
    subst (λ (text : List ℕ). IsItemFault (first_refusal text ts c.args.items.now) error) c.in-Ok.ensures.text_kept
    (subst (λ (items : List Item). IsItemFault (first_refusal c.in-Ok.names.text.now ts items) error) c.in-Ok.ensures.items_kept c.in_err-check.ensures.refused) in
    search rules

-- past the first nine faults only the last is left
pub returns-clause-none : goal.returns-clause-none
returns-clause-none c =
    let ts = c.args.tokens.now in
    let same = sym c.in_ok-check.ensures.last ∙ ap (λ (text : List ℕ). first_refusal text ts c.in-Ok.names.items.now) c.in-Ok.ensures.text_kept ∙ ap (λ (items : List Item). first_refusal c.args.text.now ts items) c.in-Ok.ensures.items_kept in
    subst (λ (f : Option Refusal). OnOk c.make.result (f ≡ None)) same c.make.ensures.none

pub returns-clause-refused : goal.returns-clause-refused
returns-clause-refused c =
    let ts = c.args.tokens.now in
    let same = sym c.in_ok-check.ensures.last ∙ ap (λ (text : List ℕ). first_refusal text ts c.in-Ok.names.items.now) c.in-Ok.ensures.text_kept ∙ ap (λ (items : List Item). first_refusal c.args.text.now ts items) c.in-Ok.ensures.items_kept in
    subst (λ (f : Option Refusal). IfErr c.make.result (IsItemFault f)) same c.make.ensures.refused
