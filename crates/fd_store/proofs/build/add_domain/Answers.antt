use Rattle.std.proofs.Common.{◌≡◌, ◌≤◌, ◌+◌, ◌/◌, ◌∙◌, length, refl, sym, ap, subst, true}
use Rattle.std.specs.Prelude.{pos, ◌+ℤ◌}
use Rattle.std.proofs.lemmas.Int.{to_z-of_z}
use mir.Val.{SFits, to_z, of_z}
use mir.Syntax.{w64}
use Rattle.qc_model.specs.Domains.{domain_values}
use Rattle.qc_model.specs.Lists.{numbers_from}
use Rattle.qc_model.specs.Valid.{is_domain, domain_width}
use Rattle.qc_model.specs.declared.problem.Domain.TheVariants.{Bits, Range, Listed}
use Rattle.fd_store.specs.Added.{AddsCell}
use Rattle.fd_store.proofs.Ranged.{if_ok, adds_as, range_adds, fit_is, low_fits, high_fits, range_ends, range_near, range_narrow, range_high, width_fits, some_width}
use Rattle.fd_store.proofs.build.add_domain.Goals as goal

pub offset_of-requires-clause-low : goal.offset_of-requires-clause-low
offset_of-requires-clause-low c =
    let low = c.in-Range.low in
    let high = c.in-Range.high in
    let valid : is_domain (Range low high) ≡ true = sym (ap is_domain c.in-Range.is) ∙ c.requires.valid in
    let ends = range_ends low high valid in
    let low_fits : SFits w64 c.in-Range.low = low_fits low high valid in
    simp to_z-of_z ends.least

pub offset_of-requires-clause-high : goal.offset_of-requires-clause-high
offset_of-requires-clause-high c =
    let low = c.in-Range.low in
    let high = c.in-Range.high in
    let valid : is_domain (Range low high) ≡ true = sym (ap is_domain c.in-Range.is) ∙ c.requires.valid in
    let ends = range_ends low high valid in
    let low_fits : SFits w64 c.in-Range.low = low_fits low high valid in
    simp to_z-of_z ends.small

pub offset_of-requires-clause-from : goal.offset_of-requires-clause-from
offset_of-requires-clause-from c =
    let low = c.in-Range.low in
    let high = c.in-Range.high in
    let valid : is_domain (Range low high) ≡ true = sym (ap is_domain c.in-Range.is) ∙ c.requires.valid in
    let ends = range_ends low high valid in
    let low_fits : SFits w64 c.in-Range.low = low_fits low high valid in
    let high_fits : SFits w64 c.in-Range.high = high_fits low high valid in
    simp to_z-of_z ends.rises

pub offset_of-requires-clause-below : goal.offset_of-requires-clause-below
offset_of-requires-clause-below c =
    let low = c.in-Range.low in
    let high = c.in-Range.high in
    let valid : is_domain (Range low high) ≡ true = sym (ap is_domain c.in-Range.is) ∙ c.requires.valid in
    let ends = range_ends low high valid in
    let low_fits : SFits w64 c.in-Range.low = low_fits low high valid in
    let high_fits : SFits w64 c.in-Range.high = high_fits low high valid in
    simp to_z-of_z (range_near low high ends)

pub overflow_add-offset_of : goal.overflow_add-offset_of
overflow_add-offset_of c =
    let low = c.in-Range.low in
    let high = c.in-Range.high in
    let valid : is_domain (Range low high) ≡ true = sym (ap is_domain c.in-Range.is) ∙ c.requires.valid in
    let ends = range_ends low high valid in
    let low_fits : SFits w64 c.in-Range.low = low_fits low high valid in
    let high_fits : SFits w64 c.in-Range.high = high_fits low high valid in
    let far : c.in-Range.high ≡ c.in-Range.low +ℤ pos c.offset_of.result = simp to_z-of_z at c.offset_of.ensures in
    record { fits = width_fits c.offset_of.result (range_narrow low high c.offset_of.result ends far) }

pub add_range-requires-in-Range-clause-some : goal.add_range-requires-in-Range-clause-some
add_range-requires-in-Range-clause-some c =
    some_width c.offset_of.result

pub add_range-requires-in-Range-clause-narrow : goal.add_range-requires-in-Range-clause-narrow
add_range-requires-in-Range-clause-narrow c =
    let low = c.in-Range.low in
    let high = c.in-Range.high in
    let valid : is_domain (Range low high) ≡ true = sym (ap is_domain c.in-Range.is) ∙ c.requires.valid in
    let ends = range_ends low high valid in
    let low_fits : SFits w64 c.in-Range.low = low_fits low high valid in
    let high_fits : SFits w64 c.in-Range.high = high_fits low high valid in
    let far : c.in-Range.high ≡ c.in-Range.low +ℤ pos c.offset_of.result = simp to_z-of_z at c.offset_of.ensures in
    range_narrow low high c.offset_of.result ends far

pub add_range-requires-in-Range-clause-low : goal.add_range-requires-in-Range-clause-low
add_range-requires-in-Range-clause-low c =
    let low = c.in-Range.low in
    let high = c.in-Range.high in
    let valid : is_domain (Range low high) ≡ true = sym (ap is_domain c.in-Range.is) ∙ c.requires.valid in
    let ends = range_ends low high valid in
    let low_fits : SFits w64 c.in-Range.low = low_fits low high valid in
    simp to_z-of_z ends.least

pub add_range-requires-in-Range-clause-high : goal.add_range-requires-in-Range-clause-high
add_range-requires-in-Range-clause-high c =
    let low = c.in-Range.low in
    let high = c.in-Range.high in
    let valid : is_domain (Range low high) ≡ true = sym (ap is_domain c.in-Range.is) ∙ c.requires.valid in
    let ends = range_ends low high valid in
    let low_fits : SFits w64 c.in-Range.low = low_fits low high valid in
    let high_fits : SFits w64 c.in-Range.high = high_fits low high valid in
    let far : c.in-Range.high ≡ c.in-Range.low +ℤ pos c.offset_of.result = simp to_z-of_z at c.offset_of.ensures in
    simp to_z-of_z (range_high low high c.offset_of.result ends far)

pub add_list-requires-clause-listed : goal.add_list-requires-clause-listed
add_list-requires-clause-listed c =
    let is : c.args.domain.now ≡ Listed c.items.result.now = c.in-Listed.is ∙ ap Listed (sym c.items.ensures) in
    sym (ap is_domain is) ∙ c.requires.valid

pub add_list-requires-clause-few : goal.add_list-requires-clause-few
add_list-requires-clause-few c =
    let is : c.args.domain.now ≡ Listed c.items.result.now = c.in-Listed.is ∙ ap Listed (sym c.items.ensures) in
    subst (λ d. length c.args.words.now.items + (domain_width d + 63) / 64 ≤ 100000) is c.requires.few

pub returns-in-Listed : goal.returns-in-Listed
returns-in-Listed c =
    let is : c.args.domain.now ≡ Listed c.items.result.now = c.in-Listed.is ∙ ap Listed (sym c.items.ensures) in
    adds_as c.args.words.now.items c.add_list.new.words.items c.add_list.result c.args.domain.now (Listed c.items.result.now) is c.add_list.ensures

pub returns-in-Bits : goal.returns-in-Bits
returns-in-Bits c = adds_as c.args.words.now.items c.add_range.new.words.items c.add_range.result c.args.domain.now Bits c.in-Bits.is c.add_range.ensures

pub returns-in-Range : goal.returns-in-Range
returns-in-Range c =
    let low = c.in-Range.low in
    let high = c.in-Range.high in
    let d = c.args.domain.now in
    let valid : is_domain (Range low high) ≡ true = sym (ap is_domain c.in-Range.is) ∙ c.requires.valid in
    let base : to_z w64 (of_z w64 c.in-Range.low) ≡ c.in-Range.low = fit_is low low refl (low_fits low high valid) in
    let top : to_z w64 (of_z w64 c.in-Range.high) ≡ c.in-Range.high = fit_is high high refl (high_fits low high valid) in
    let k = c.offset_of.result in
    let far : high ≡ low +ℤ pos k = sym top ∙ (c.offset_of.ensures ∙ ap (λ z. z +ℤ pos k) base) in
    if_ok (λ e. AddsCell c.args.words.now.items c.add_range-in-Range.new.words.items e (k + 1) (numbers_from (to_z w64 (of_z w64 low)) (k + 1)))
    (λ e. AddsCell c.args.words.now.items c.add_range-in-Range.new.words.items e (domain_width d) (domain_values d)) c.add_range-in-Range.result
    (λ e i. range_adds c.args.words.now.items c.add_range-in-Range.new.words.items e d low high (to_z w64 (of_z w64 low)) k c.in-Range.is c.requires.valid base far i)
    c.add_range-in-Range.ensures
