use Rattle.std.proofs.Common.{◌≡◌, ◌∙◌, refl, sym, ap, ◌∷◌}
use Rattle.qc_model.specs.Content.{Game}
use Rattle.joins.specs.Verdicts.{wishes_at}
use Rattle.search_walk.proofs.Ruling.{target_there, aim_taken, aim_is, none_counted}
use Rattle.search_walk.proofs.aim.aim_of.Goals as goal

pub variable-requires : goal.variable-requires
variable-requires c =
    let g = c.args.problem.now in
    let i = c.args.i.0 in
    let wishes : wishes_at g i ≡ c.in-Some.first.now ∷ c.in-Some.rest.now = sym (c.wishes.ensures ∙ ap (λ (f : Game). wishes_at f i) c.requires.joins) ∙ c.in-Some.ensures.cases.0 in
    target_there g i c.in-Some.first.now c.in-Some.rest.now c.in-Var.variable c.requires.scope (λ j h. c.lists_are_visible.ensures.lists g j c.known.ensures h) wishes c.in-Var.is

pub returns-then-not-is_free_to : goal.returns-then-not-is_free_to
returns-then-not-is_free_to c =
    let g = c.args.problem.now in
    let i = c.args.i.0 in
    let wishes : wishes_at g i ≡ c.in-Some.first.now ∷ c.in-Some.rest.now = sym (c.wishes.ensures ∙ ap (λ (f : Game). wishes_at f i) c.requires.joins) ∙ c.in-Some.ensures.cases.0 in
    aim_taken g i c.in-Some.first.now c.in-Some.rest.now c.in-Var.variable c.variable.result.now c.is_free_to.result wishes c.in-Var.is c.variable.ensures c.is_free_to.ensures c.if-not-is_free_to.true

pub returns : goal.returns
returns c =
    let g = c.args.problem.now in
    let i = c.args.i.0 in
    let wishes : wishes_at g i ≡ c.in-Some.first.now ∷ c.in-Some.rest.now = sym (c.wishes.ensures ∙ ap (λ (f : Game). wishes_at f i) c.requires.joins) ∙ c.in-Some.ensures.cases.0 in
    let there = target_there g i c.in-Some.first.now c.in-Some.rest.now c.in-Var.variable c.requires.scope (λ j h. c.lists_are_visible.ensures.lists g j c.known.ensures h) wishes c.in-Var.is in
    aim_is g i c.in-Some.first.now c.in-Some.rest.now _ c.variable.result.now c.is_free_to.result wishes c.in-Var.is c.variable.ensures c.is_free_to.ensures c.if-not-is_free_to.false refl (none_counted c.in-Some.rest.now c.is_empty.result c.is_empty.ensures) there
