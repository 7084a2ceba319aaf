use Rattle.std.proofs.Common.{◌≡◌, ◌∙◌, ap, sym, subst, true, w64}
use Rattle.std.proofs.lemmas.Int.{to_z-of_z}
use Rattle.std.proofs.Common.{SFits, rules}
use Rattle.qc_model.specs.Domains.{domain_values, has_value}
use Rattle.qc_model.specs.Valid.{is_domain}
use Rattle.qc_play.proofs.Ranges.{range_has}
use Rattle.qc_play.proofs.tuple.has_value.Goals as goal

pub returns-in-Range : goal.returns-in-Range
returns-in-Range c =
    let low = c.in-Range.low in
    let high = c.in-Range.high in
    let f : SFits w64 low = search rules in
    let g : SFits w64 high = search rules in
    let h : SFits w64 c.args.value = search rules in
    (simp to_z-of_z at c.is_between.ensures)
    ∙ (sym (range_has low high c.args.value (subst (λ d. is_domain d ≡ true) c.in-Range.is c.requires)) ∙ ap (λ d. has_value (domain_values d) c.args.value) (sym c.in-Range.is))
