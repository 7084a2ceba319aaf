use Rattle.std.proofs.Common.{◌≡◌, ◌+◌, ◌∙◌, rules, sym, ap, true}
use Rattle.std.specs.Prelude.{pos}
use Rattle.std.proofs.lemmas.Int.{to_z-of_z}
use mir.Val.{SFits}
use mir.Syntax.{w64}
use Rattle.qc_model.specs.Domains.{has_value}
use Rattle.qc_model.specs.Refuted.{left_to}
use Rattle.qc_refuter.specs.Commons.{IsLeastCommon}
use Rattle.prop_different.proofs.Options.{some_so}
use Rattle.prop_element.specs.Choices.{IsLeastMet}
use Rattle.prop_element.specs.Extremes.{item_at}
use Rattle.prop_element.proofs.ChosenItems.{place_gone, least_met}
use Rattle.prop_element.proofs.Moved.{open_item}
use Rattle.prop_element.proofs.choices.met_at.Goals as goal

pub returns-then-not-has-clause-none : goal.returns-then-not-has-clause-none
returns-then-not-has-clause-none c =
    let k_fits : SFits w64 c.counted.result = search rules in
    let h : c.has.result ≡ has_value (left_to c.args.store.now.box c.args.a) c.counted.result = simp to_z-of_z at c.has.ensures in
    place_gone c.args.store.now.box c.args.a c.args.items.now c.args.r c.args.k (ap (has_value (left_to c.args.store.now.box c.args.a)) (sym c.counted.ensures) ∙ (sym h ∙ c.if-not-has.true))

pub returns-clause-some : goal.returns-clause-some
returns-clause-some c =
    let k_fits : SFits w64 c.counted.result = search rules in
    let h : c.has.result ≡ has_value (left_to c.args.store.now.box c.args.a) c.counted.result = simp to_z-of_z at c.has.ensures in
    let left : has_value (left_to c.args.store.now.box c.args.a) (pos (c.args.k + 1)) ≡ true = ap (has_value (left_to c.args.store.now.box c.args.a)) (sym c.counted.ensures) ∙ (sym h ∙ c.if-not-has.false) in
    some_so c.least_of_both.result (IsLeastCommon (left_to c.args.store.now.box (item_at c.args.items.now c.args.k)) (left_to c.args.store.now.box c.args.r)) (IsLeastMet c.args.store.now.box c.args.a c.args.items.now c.args.r c.args.k) (λ v m. least_met c.args.store.now.box c.args.a c.args.items.now c.args.r c.args.k v left m) c.least_of_both.ensures.some

pub least_of_both-requires-clause-item : goal.least_of_both-requires-clause-item
least_of_both-requires-clause-item c = open_item c.args.store.now.box c.args.items.now c.args.k c.requires.items c.requires.place
