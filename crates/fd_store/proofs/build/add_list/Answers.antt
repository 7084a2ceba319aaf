use Rattle.std.proofs.Common.{◌≡◌, refl, sym, subst, length, rules}
use Rattle.std.specs.Prelude.{pos, negsuc, ◌+ℤ◌, ◌≤ℤ◌, ◌<ℤ◌, All}
use mir.Val.{to_z, of_z}
use mir.Syntax.{w64}
use Rattle.qc_model.specs.Domains.{least_value}
use Rattle.fd_store.specs.declared.table.Cell.{Cell}
use Rattle.fd_store.specs.Added.{AddsCell}
use Rattle.fd_store.proofs.ListSpan.{list_span, least_fits, adds_list, few_numbers, width_narrow, width_fits, width_more_fits, longer_few, longer_inside}
use Rattle.fd_store.proofs.Ranged.{fit_is}
use Rattle.fd_store.proofs.build.add_list.Goals as goal

pub set_places-requires-clause-narrow : goal.set_places-requires-clause-narrow
set_places-requires-clause-narrow c = width_narrow _ _ c.width_of_list-width.ensures (list_span c.args.numbers.now c.requires.listed).narrow

pub set_places-requires-clause-low : goal.set_places-requires-clause-low
set_places-requires-clause-low c =
    let ns = c.args.numbers.now in
    subst (λ z. negsuc 999999999 ≤ℤ z) (sym (fit_is _ _ c.first_of-base.ensures (least_fits ns c.requires.listed))) (list_span ns c.requires.listed).low

pub set_places-requires-clause-high : goal.set_places-requires-clause-high
set_places-requires-clause-high c =
    let ns = c.args.numbers.now in
    subst (λ z. (z +ℤ pos c.width_of_list-width.result) ≤ℤ pos 1000000001) (sym (fit_is _ _ c.first_of-base.ensures (least_fits ns c.requires.listed)))
    (subst (λ n. (least_value ns +ℤ pos n) ≤ℤ pos 1000000001) (sym c.width_of_list-width.ensures) (list_span ns c.requires.listed).high)

pub set_places-requires-clause-each : goal.set_places-requires-clause-each
set_places-requires-clause-each c =
    let ns = c.args.numbers.now in
    subst (λ z. All (λ v. (z ≤ℤ v) × (v <ℤ (z +ℤ pos c.width_of_list-width.result))) ns) (sym (fit_is _ _ c.first_of-base.ensures (least_fits ns c.requires.listed)))
    (subst (λ n. All (λ v. (least_value ns ≤ℤ v) × (v <ℤ (least_value ns +ℤ pos n))) ns) (sym c.width_of_list-width.ensures) (list_span ns c.requires.listed).each)

pub returns : goal.returns
returns c =
    let ns = c.args.numbers.now in
    let base : to_z w64 (of_z w64 c.first_of-base.result) ≡ least_value ns = fit_is _ _ c.first_of-base.ensures (least_fits ns c.requires.listed) in
    let start : c.len-start.result ≡ length c.args.words.now.items = search rules in
    let s = c.set_places.ensures in
    let d : Cell = record { base = to_z w64 (of_z w64 c.first_of-base.result); start = c.len-start.result; width = c.width_of_list-width.result; first = 0; end = c.width_of_list-width.result; size = length ns } in
    subst (λ n. AddsCell c.args.words.now.items c.set_places.new.words.items d n ns) c.width_of_list-width.ensures
    (adds_list c.args.words.now.items c.fill.new.words.items c.set_places.new.words.items ns (to_z w64 (of_z w64 c.first_of-base.result)) c.width_of_list-width.result c.len-start.result d
    (list_span ns c.requires.listed) base c.width_of_list-width.ensures c.in_ok-fill.ensures start s.long s.before s.bits refl)

pub overflow_cast-width : goal.overflow_cast-width
overflow_cast-width c = record { fits = width_fits _ _ c.width_of_list-width.ensures (list_span c.args.numbers.now c.requires.listed).narrow }

pub overflow_add-width : goal.overflow_add-width
overflow_add-width c = record { fits = width_more_fits _ _ c.width_of_list-width.ensures (list_span c.args.numbers.now c.requires.listed).narrow }

pub overflow_cast-result : goal.overflow_cast-result
overflow_cast-result c = record { fits = few_numbers c.args.numbers.now c.requires.listed }

pub set_places-requires-clause-few : goal.set_places-requires-clause-few
set_places-requires-clause-few c = longer_few _ _ _ _ c.in_ok-fill.ensures.long c.width_of_list-width.ensures c.requires.few

pub set_places-requires-clause-inside : goal.set_places-requires-clause-inside
set_places-requires-clause-inside c =
    let start : c.len-start.result ≡ length c.args.words.now.items = search rules in
    longer_inside _ _ _ _ c.in_ok-fill.ensures.long start
