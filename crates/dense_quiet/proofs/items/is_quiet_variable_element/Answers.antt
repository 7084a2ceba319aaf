use Rattle.std.proofs.Common.{rules, ◌≡◌, ◌∙◌, sym, ap}
use Rattle.std.specs.Prelude.{Some}
use Rattle.std.proofs.lemmas.Int.{to_z-of_z}
use mir.Val.{SFits, to_z}
use mir.Syntax.{w64}
use Rattle.qc_model.specs.Ranges.{Range}
use Rattle.model_arguments.specs.Written.{arg_at, args_at}
use Rattle.qc_refuter.proofs.Ready.{rule_met}
use Rattle.dense_quiet.specs.Quiet.{item_at}
use Rattle.dense_quiet.proofs.ItemLaws.{one_found, two_found}
use Rattle.dense_quiet.proofs.items.is_quiet_variable_element.Goals as goal

pub arg_met-b-requires : goal.arg_met-b-requires
arg_met-b-requires c =
    rw c.arguments-args.ensures (rule_met c.args.problem.now c.args.store.now.box c.known.ensures.domains c.requires.asked.declared c.requires.asked.full c.args.rule.now c.requires.asked.rule)

pub arg_met-c-requires : goal.arg_met-c-requires
arg_met-c-requires c =
    rw c.arguments-args.ensures (rule_met c.args.problem.now c.args.store.now.box c.known.ensures.domains c.requires.asked.declared c.requires.asked.full c.args.rule.now c.requires.asked.rule)

pub items_met-items-requires : goal.items_met-items-requires
items_met-items-requires c =
    rw c.arguments-args.ensures (rule_met c.args.problem.now c.args.store.now.box c.known.ensures.domains c.requires.asked.declared c.requires.asked.full c.args.rule.now c.requires.asked.rule)

pub returns-then-places : goal.returns-then-places
returns-then-places c = λ h takes.
    let p = c.ends_of-places.result in
    let xs = c.items_met-items.result.now in
    let p_fits : SFits w64 p.least = search rules in
    let q_fits : SFits w64 p.greatest = search rules in
    let first : item_at xs p.least ≡ Some c.in-Some.first = ap (item_at xs) (sym (to_z-of_z w64 p.least p_fits)) ∙ (sym c.item_at.ensures.is ∙ c.in-Some.is) in
    let one : p.least ≡ p.greatest = sym (to_z-of_z w64 p.least p_fits) ∙ (ap (to_z w64) c.if-places.true ∙ to_z-of_z w64 p.greatest q_fits) in
    one_found takes c.args.rule.now c.args.store.now.box c.requires.meaning c.requires.apart p.least c.in-Some.first c.arg_met-b.result xs c.arg_met-c.result
    (c.arg_met-b.ensures.is ∙ ap (λ z. arg_at z 0) c.arguments-args.ensures) (c.items_met-items.ensures.is ∙ ap (λ z. args_at z 1) c.arguments-args.ensures) (c.arg_met-c.ensures.is ∙ ap (λ z. arg_at z 2) c.arguments-args.ensures)
    first c.arg_met-b.ensures.«open» (c.item_at.ensures.«open» c.in-Some.first c.in-Some.is) c.arg_met-c.ensures.«open»
    (ap (λ (r : Range). r.from) c.ends_of-places.ensures) (one ∙ ap (λ (r : Range). r.to) c.ends_of-places.ensures) (c.is_quiet_at_one.ensures.least h) (c.is_quiet_at_one.ensures.greatest h)

pub returns : goal.returns
returns c = λ h takes.
    let p = c.ends_of-places.result in
    let xs = c.items_met-items.result.now in
    let p_fits : SFits w64 p.least = search rules in
    let q_fits : SFits w64 p.greatest = search rules in
    let first : item_at xs p.least ≡ Some c.in-Some.first = ap (item_at xs) (sym (to_z-of_z w64 p.least p_fits)) ∙ (sym c.item_at.ensures.is ∙ c.in-Some.is) in
    let last : item_at xs p.greatest ≡ Some c.in-Some-item_at.last = ap (item_at xs) (sym (to_z-of_z w64 p.greatest q_fits)) ∙ (sym c.item_at-2.ensures.is ∙ c.in-Some-item_at.is) in
    let e = c.is_quiet_between.ensures in
    two_found takes c.args.rule.now c.args.store.now.box c.requires.meaning c.requires.apart p.least p.greatest c.in-Some.first c.in-Some-item_at.last c.arg_met-b.result xs c.arg_met-c.result
    (c.arg_met-b.ensures.is ∙ ap (λ z. arg_at z 0) c.arguments-args.ensures) (c.items_met-items.ensures.is ∙ ap (λ z. args_at z 1) c.arguments-args.ensures) (c.arg_met-c.ensures.is ∙ ap (λ z. arg_at z 2) c.arguments-args.ensures)
    first last c.arg_met-b.ensures.«open» (ap (λ (r : Range). r.from) c.ends_of-places.ensures) (ap (λ (r : Range). r.to) c.ends_of-places.ensures) (e.apart h) (e.first h) (e.last h) (e.least h) (e.greatest h)
